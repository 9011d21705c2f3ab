-- Parts of a step in which nothing is said, and no peer becomes another's.
use Rattle.std.proofs.Common.{◌≡◌, ap, ◌∙◌}
use Rattle.ui_machine.specs.State.Config.{World}
use Rattle.engine_world.specs.Quiet.{IsQuiet, holders}

-- one part after another
pub quiet_on : (old mid new : World) → IsQuiet old mid → IsQuiet mid new → IsQuiet old new
quiet_on old mid new p q = (q.0 ∙ p.0, q.1 ∙ p.1)

-- nothing at all
pub quiet_same : (old new : World) → new ≡ old → IsQuiet old new
quiet_same old new is = (ap (λ (w : World). w.transcript) is, ap (λ (w : World). holders w.peers) is)
