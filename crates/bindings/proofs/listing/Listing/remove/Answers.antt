use Rattle.std.proofs.Common.{◌∙◌}
use Rattle.bindings.proofs.Keys.{apart}
use Rattle.bindings.proofs.listing.Listing.remove.Goals as goal

pub returns : goal.returns
returns c x y n ne there =
    c.remove.ensures.updates.2 (x, y, n) (apart c.args.first c.args.second c.args.number x y n ne) ∙ there
