use Rattle.verify_channels.proofs.MeantLists.{got}
use Rattle.verify_channels.proofs.TransferLists.{pushed}
use Rattle.verify_channels.proofs.transfers.push_at.Goals as goal

pub returns-clause-pushed : goal.returns-clause-pushed
returns-clause-pushed c n =
    let lists = c.args.lists.now.items in
    let at = c.args.at in
    let v = c.index_mut-list.result.now in
    pushed lists at n v c.push.new.self c.args.item (got lists at v c.requires c.index_mut-list.ensures.value) c.in_ok-push.ensures.items
