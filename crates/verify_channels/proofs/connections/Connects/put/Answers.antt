use Rattle.verify_channels.proofs.MeantLists.{got}
use Rattle.verify_channels.proofs.TransferLists.{pushed}
use Rattle.verify_channels.proofs.connections.Connects.put.Goals as goal

pub returns-clause-put : goal.returns-clause-put
returns-clause-put c within n =
    let groups = c.args.self.now.groups.items in
    let at = c.args.group in
    let v = c.index_mut-programs.result.now in
    pushed groups at n v c.push.new.self c.args.program (got groups at v within c.index_mut-programs.ensures.value) c.in_ok-push.ensures.items
