-- What comes down from a task to the one below it, as it ends.
use Rattle.std.specs.Prelude.{◌≡◌, ℕ, ⊤, true, Option, None, Some, slice_get}
use Rattle.ui_machine.specs.Seq.{write}
use Rattle.ui_machine.specs.Definition.Kinds.{Kind}
use Rattle.ui_machine.specs.Definition.Kinds as kinds
use Rattle.ui_machine.specs.Definition.{Definition}
use Rattle.ui_machine.specs.Definition.Signals.{Signal, Method}
use Rattle.ui_machine.specs.Definition.Programs.{Program}
use Rattle.ui_machine.specs.Definition.Lookups.{program_at}
use Rattle.ui_machine.specs.Rules.EmissionPlan.{signal_of}
use Rattle.ui_machine.specs.State.Peers.{Peer, method_of}
use Rattle.ui_machine.specs.State.Tasks.{Emission, Task, Beginning, Emitting, Running, Calling}
use Rattle.law_typing.specs.Rules.RegisterKinds.{Kinds}
use Rattle.law_typing.specs.Rules.Signatures.{result_fits}
use Rattle.law_typing.specs.Good.Standing.{Standing, class_by, View}

-- what a task gives, as it ends, to the one below
pub data Down : Type 0 where
  none : Down
  given : Option Kind → Down  -- a program's result, to its emission or source
  results : Option Kind → Down  -- an emission's result, to the program that waits for it
  answers : (to : ℕ) → Kind → Down  -- a peer's answer, into a register

abbrev pub result_of_signal : Option Signal → Option Kind
result_of_signal None = None
result_of_signal (Some sig) = sig.result

-- the result of an emission's signal
abbrev pub result_of_emission : Definition → Standing → Emission → Option Kind
result_of_emission d s e = of (class_by d s e.object)
  where
    of : Option ℕ → Option Kind
    of None = None
    of (Some class) = result_of_signal (signal_of d class e.signal)

abbrev pub result_of_program : Option Program → Option Kind
result_of_program None = None
result_of_program (Some p) = p.result

-- what a call's method answers
abbrev pub answer_of : Option Peer → (method to : ℕ) → Down
answer_of None method to = none
answer_of (Some p) method to = of (method_of p method)
  where
    of : Option Method → Down
    of None = none
    of (Some m) = answers to m.result

abbrev pub down : Definition → View → Task → Down
down d w (Running frame) = given (result_of_program (program_at d frame.program))
down d w (Beginning e) = results (result_of_emission d (w.stands) e)
down d w (Emitting e turns) = results (result_of_emission d (w.stands) e)
down d w (Calling call) = answer_of (slice_get w.peers call.peer) call.method call.to
down d w _ = none

-- the kinds of a program's registers once what comes down to it is written
abbrev pub awaited : Kinds → Option ℕ → Down → Kinds
awaited ks (Some to) (results (Some kind)) = write kinds.unset ks to (kinds.plain kind)
awaited ks into (answers to kind) = write kinds.unset ks to (kinds.plain kind)
awaited ks into up = ks

-- a program that waits gets a result
abbrev pub Comes : Option ℕ → Down → Type 0
Comes None up = ⊤
Comes (Some to) up = (kind : Kind) × (up ≡ results (Some kind))

-- an emission takes what its program gives
abbrev pub Suits : Definition → Option Kind → Down → Type 0
Suits d wanted (given kind) = result_fits d kind wanted ≡ true
Suits d wanted up = ⊤

-- a source waits for its program, which gives it a truth value: it has nothing to do by itself
abbrev pub Answers : Definition → Down → Type 0
Answers d (given kind) = result_fits d kind (Some kinds.bool) ≡ true
Answers d up = ⊥

-- where no one takes a program's result there is none
abbrev pub TakesNone : Down → Type 0
TakesNone (given kind) = kind ≡ None
TakesNone up = ⊤
