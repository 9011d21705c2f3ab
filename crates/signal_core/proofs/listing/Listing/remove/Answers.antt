use Rattle.std.proofs.Common.{◌∙◌}
use Rattle.signal_core.proofs.Keys.{apart}
use Rattle.signal_core.proofs.listing.Listing.remove.Goals as goal

pub returns : goal.returns
returns c x y z n ne there =
    c.remove.ensures.updates.2 (x, y, z, n) (apart c.args.first c.args.second c.args.third c.args.number x y z n ne) ∙ there
