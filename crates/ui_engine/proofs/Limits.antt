-- A start with a limit on its steps, beside one without.
use Rattle.std.proofs.Common.{Err, IfErr, IfOk, Ok, Option, Result, ℕ}
use Rattle.ui_machine.specs.Definition.{Definition}
use Rattle.law_peers.specs.Needs.{Mismatch}
use Rattle.ui_engine.specs.SessionView.{IsWhy, IsWhyWithin, IsWithin}
use Rattle.ui_engine.specs.declared.faults.StartFault.{StartFault}
use Rattle.ui_engine.specs.declared.faults.StartFault.TheVariants as starts

-- what holds whatever the result is
pub whatever : {T E P : Type 0} (r : Result T E) → P → IfOk r (λ _. P)
whatever (Ok x) p = p
whatever (Err e) p = tt

-- what holds of a fault for another reason
pub as_before : {T E : Type 0} {P Q : E → Type 0} (r : Result T E) → ((e : E) → P e → Q e) → IfErr r P → IfErr r Q
as_before (Ok x) f p = tt
as_before (Err e) f p = f e p

-- a start without a limit fails for the same reason
pub why_within : (d : Definition) (most : ℕ) → IsWithin d most → (fault : StartFault) (lack : Option Mismatch) → IsWhy fault lack → IsWhyWithin d most fault lack
why_within d most within starts.OutOfMemory lack is = is
why_within d most within (starts.PeerMissing name) lack is = (within, is)
why_within d most within (starts.PeerClosed name) lack is = (within, is)
why_within d most within (starts.PeerShape name) lack is = (within, is)
why_within d most within (starts.PeerUnused name) lack is = (within, is)
why_within d most within starts.StepLimit lack is = absurd is
