-- What steps of the engine and its pool come to, beside the machine's.
use Rattle.std.specs.Prelude.{◌≡◌, ◌<◌, suc, Bool, true, false, Result, Ok, Err}
use Rattle.std.specs.declared.alloc.AllocError.{AllocError}
use Rattle.ui_machine.specs.Definition.{Definition}
use Rattle.ui_machine.specs.Runs.{HasEnded}
use Rattle.ui_machine.specs.Steps.{most_steps}
use Rattle.native_peers.specs.Seen.{Relations}
use Rattle.engine_world.specs.Measure.{work}
use Rattle.engine_world.specs.declared.engine.StepKind.{StepKind}
use Rattle.engine_world.specs.declared.engine.StepKind.TheVariants as mades
use Rattle.engine_dispatches.specs.Following.{Breaks, Follows, Point}
use Rattle.engine_dispatches.specs.PoolView.{with_seen}

-- no memory is found
abbrev pub IsCutOff : Definition → Relations → Point → Point → Type 0
IsCutOff d may p q = Breaks d may p (with_seen q.pool q.view.world.peers) q.view.world.transcript

-- One step: an uncounted one leaves less work, and a counted one was still to be had. It is one of the machine's, behind those by which an
-- emission passes over turns.
abbrev pub Stepped : Result StepKind AllocError → Definition → Relations → Point → Point → Type 0
Stepped (Ok mades.Nothing) d may p q = HasEnded d p.view × (q ≡ p)
Stepped (Ok mades.Uncounted) d may p q = Follows d may p q × (work d q.view < work d p.view) × (q.view.counted ≡ p.view.counted)
Stepped (Ok mades.Counted) d may p q = Follows d may p q × (p.view.counted < most_steps) × (q.view.counted ≡ suc p.view.counted)
Stepped (Err _) d may p q = IsCutOff d may p q

-- steps up to a counted one, or to the end
abbrev pub Advanced : Result Bool AllocError → Definition → Relations → Point → Point → Type 0
Advanced (Ok true) d may p q = Follows d may p q × (p.view.counted < most_steps) × (q.view.counted ≡ suc p.view.counted)
Advanced (Ok false) d may p q = Follows d may p q × HasEnded d q.view × (q.view.counted ≡ p.view.counted)
Advanced (Err _) d may p q = IsCutOff d may p q

-- all steps
abbrev pub Ran : {X : Type 0} → Result X AllocError → Definition → Relations → Point → Point → Type 0
Ran (Ok _) d may p q = Follows d may p q × HasEnded d q.view
Ran (Err _) d may p q = IsCutOff d may p q
