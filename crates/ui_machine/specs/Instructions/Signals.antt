-- `emit`, `connect`, `disconnect`, `block`, `unblock` and `unbind` (GObject manual, signals and g_binding_unbind).
use Rattle.std.specs.Prelude.{Bool, List, Ok, Option, [], false, nat_lt, true, ℕ, ◌∷◌}
use Rattle.ui_machine.specs.declared.arm.Arm.TheVariants as arms
use Rattle.ui_machine.specs.Definition.{Definition}
use Rattle.ui_machine.specs.Definition.Lookups.{program_of}
use Rattle.ui_machine.specs.Definition.Programs.{Connect}
use Rattle.ui_machine.specs.Instructions.Registers.{data_in, goes_on, operand_in, tells, values_in}
use Rattle.ui_machine.specs.Outcome.{Answer, known, only_if, ◌>>=◌}
use Rattle.ui_machine.specs.Rules.Build.{to_connect}
use Rattle.ui_machine.specs.Rules.Connections.{Connection, blocked, connected, detail_in, disconnected, signal_number, unblocked, with_handlers_on}
use Rattle.ui_machine.specs.Rules.EmissionPlan.{new_emission}
use Rattle.ui_machine.specs.State.Bindings.{bindings_without, is_binding}
use Rattle.ui_machine.specs.State.Config.{Started, World}
use Rattle.ui_machine.specs.State.Objects.{object_at}
use Rattle.ui_machine.specs.State.Tasks.{Beginning, Frame, Task}

-- the number of an object's signal by name
unfoldable pub signal_in : Definition → World → ℕ → List ℕ → Answer ℕ
signal_in d w id name = do
  o ← object_at w.objects id
  known arms.Code (signal_number d o.class name)

-- the signal that a program emits, which is not `notify`
unfoldable pub signal_to_emit : Definition → World → ℕ → List ℕ → Answer ℕ
signal_to_emit d w id name = do
  signal ← signal_in d w id name
  only_if (nat_lt 0 signal) arms.Code (Ok signal)

-- what `emit` says beside the object
pub record Emit : Type 0 where
  pub into : Option ℕ
  pub signal : List ℕ
  pub detail : Option (List ℕ)
  pub args : List ℕ

-- `emit z o s D [a..]`: the program waits for the result, if it takes it
unfoldable pub emitting : Definition → World → Frame → (object : ℕ) → Emit → Answer Started
emitting d w f object e = do
  id ← operand_in w f object
  signal ← signal_to_emit d w id e.signal
  detail ← detail_in d w id signal e.detail
  given ← values_in f e.args
  goes_on w (Beginning (new_emission id signal detail given false) ∷ []) (record f { into = e.into })

-- how bytecode connects a handler
abbrev pub connection_by_code : (id signal : ℕ) → Option (List ℕ) → (program : ℕ) → Option ℕ → Connect → Connection
connection_by_code id signal detail program arg c = record {
  object = id;
  signal = signal;
  detail = detail;
  program = program;
  after = c.after;
  swapped = c.swapped;
  arg = arg;
  by_code = true;
}

-- `connect d o s D p [options] z`
unfoldable pub connecting : Definition → World → List Task → Frame → (to object : ℕ) → Connect → Answer Started
connecting d w rest f to object c = do
  id ← operand_in w f object
  signal ← signal_in d w id c.signal
  detail ← detail_in d w id signal c.detail
  program ← known arms.Code (program_of d c.program)
  arg ← data_in w f c.with
  tells (connected d w (to_connect rest) (connection_by_code id signal detail program arg c)) to f

-- a change of an object's handlers of a program
unfoldable pub on_handlers : Definition → World → Frame → ℕ → List ℕ → (World → ℕ → ℕ → World) → Answer Started
on_handlers d w f object program change = do
  id ← operand_in w f object
  number ← known arms.Code (program_of d program)
  goes_on (change w id number) [] f

-- `disconnect o p`
abbrev pub disconnecting : Definition → World → Frame → ℕ → List ℕ → Answer Started
disconnecting d w f object program = on_handlers d w f object program disconnected

-- `block o p`
abbrev pub blocking : Definition → World → Frame → ℕ → List ℕ → Answer Started
blocking d w f object program = on_handlers d w f object program (with_handlers_on blocked)

-- `unblock o p`
abbrev pub unblocking : Definition → World → Frame → ℕ → List ℕ → Answer Started
unblocking d w f object program = on_handlers d w f object program (with_handlers_on unblocked)

-- `unbind name`, of a binding of the definition
abbrev pub unbinding : Definition → World → Frame → List ℕ → Answer Started
unbinding d w f name = only_if (is_binding d name) arms.Code (goes_on (record w { bindings = bindings_without name w.bindings }) [] f)
