use Rattle.std.proofs.Common.{◌∙◌}
use Rattle.std.specs.BTreeMap.{is_at}
use Rattle.signal_core.specs.Kept.{is_listed, key_cmp}
use Rattle.signal_core.proofs.Keys.{still}
use Rattle.signal_core.proofs.listing.Listing.add.Goals as goal

pub returns-clause-stays : goal.returns-clause-stays
returns-clause-stays c x y z n there =
    c.in_ok-insert.ensures.updates.0 (x, y, z, n)
    ∙ still (is_at (key_cmp (c.args.first, c.args.second, c.args.third, c.args.number)) (x, y, z, n)) (is_listed c.args.self.now x y z n) there
