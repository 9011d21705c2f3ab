use Rattle.std.proofs.Common.{◌∙◌}
use Rattle.std.specs.BTreeMap.{is_at}
use Rattle.bindings.specs.Kept.{is_listed, key_cmp}
use Rattle.bindings.proofs.Keys.{still}
use Rattle.bindings.proofs.listing.Listing.add.Goals as goal

pub returns-clause-stays : goal.returns-clause-stays
returns-clause-stays c x y n there =
    c.in_ok-insert.ensures.updates.0 (x, y, n)
    ∙ still (is_at (key_cmp (c.args.first, c.args.second, c.args.number)) (x, y, n)) (is_listed c.args.self.now x y n) there
