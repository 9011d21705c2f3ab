-- The turns of an emission, how it is stopped, what it results in and to whom that goes
-- (GObject manual, GSignalAccumulator and g_signal_stop_emission).
use Rattle.std.specs.List.{filter}
use Rattle.std.specs.Prelude.{Bool, Err, List, None, Ok, Option, Some, [], cond, false, nat_lt, true, ℕ, ◌++◌, ◌||◌, ◌∷◌}
use Rattle.ui_machine.specs.declared.arm.Arm.TheVariants as arms
use Rattle.ui_machine.specs.Definition.{Definition}
use Rattle.ui_machine.specs.Definition.Kinds.{Kind}
use Rattle.ui_machine.specs.Definition.Signals.{Accumulator, Signal, first_wins, true_handled}
use Rattle.ui_machine.specs.Definition.Values.{Value}
use Rattle.ui_machine.specs.Definition.Values as values
use Rattle.ui_machine.specs.Instructions.Registers.{with_register}
use Rattle.ui_machine.specs.Outcome.{Answer, only_if, ◌>>=◌}
use Rattle.ui_machine.specs.Output.Lines as lines
use Rattle.ui_machine.specs.Rules.EmissionPlan.{signal_at}
use Rattle.ui_machine.specs.Rules.MainLoop.{kept_source}
use Rattle.ui_machine.specs.Rules.Programs.{program_before}
use Rattle.ui_machine.specs.Rules.Transfers.{transfer_for}
use Rattle.ui_machine.specs.Rules.Transform.{kind_fits, zero_value}
use Rattle.ui_machine.specs.State.Bindings.{binding_of}
use Rattle.ui_machine.specs.State.Config.{Left, Started, World, leaves, said, starts}
use Rattle.ui_machine.specs.State.Handlers.{Handler, handler_of}
use Rattle.ui_machine.specs.State.Objects.{class_in, object_at}
use Rattle.ui_machine.specs.State.Tasks.{Answering, Emission, Emitting, Frame, PlanEntry, Running, Task, class_handler, handler}
use Rattle.ui_machine.specs.State.Tasks as config

-- ** entries

-- the object that emits
abbrev pub instance_of : Emission → Value
instance_of e = values.object (Some e.object)

-- the data of a handler, if it has some
abbrev pub data_of : Handler → List Value
data_of h = given h.arg
  where
    given : Option ℕ → List Value
    given None = []
    given (Some i) = values.object (Some i) ∷ []

-- a handler is given the instance, the arguments and its data; swapped, the data, the arguments and the instance
abbrev pub given_to : Emission → Handler → List Value
given_to e h = cond h.swapped (data_of h ++ (e.args ++ instance_of e ∷ [])) (instance_of e ∷ (e.args ++ data_of h))

-- the emission in its cleanup stage, or where it was
abbrev pub in_stage : Bool → Emission → Emission
in_stage cleanup e = record e { cleanup = e.cleanup || cleanup }

-- a handler's entry: passed over where it is gone or blocked
abbrev pub running_handler : Definition → World → Emission → List PlanEntry → Option Handler → Answer Started
running_handler d w e entries None = starts w (Emitting e entries ∷ [])
running_handler d w e entries (Some h) =
    cond (nat_lt 0 h.blocks) (starts w (Emitting e entries ∷ [])) (program_before d w h.program (given_to e h) (Emitting e entries ∷ []))

-- an emission takes its next entry
abbrev pub taking_entry : Definition → World → Emission → List PlanEntry → PlanEntry → Answer Started
taking_entry d w e entries (class_handler program cleanup) =
    program_before d w program (instance_of e ∷ e.args) (Emitting (in_stage cleanup e) entries ∷ [])
taking_entry d w e entries (handler number) = running_handler d w e entries (handler_of number w.handlers)
taking_entry d w e entries (config.transfer number back) =
    starts w (transfer_for (binding_of number w.bindings) number back ++ Emitting e entries ∷ [])

-- ** stops

-- whether an entry is of the cleanup stage
abbrev pub is_of_cleanup : PlanEntry → Bool
is_of_cleanup (class_handler program cleanup) = cleanup
is_of_cleanup (handler number) = false
is_of_cleanup (config.transfer number back) = false

-- the entries that are left after a stop: those of the cleanup stage; in it a stop does nothing
abbrev pub left_by_stop : Emission → List PlanEntry → List PlanEntry
left_by_stop e entries = cond e.cleanup entries (filter is_of_cleanup entries)

-- a stop reaches the emission that runs the program
abbrev pub stopped : List Task → List Task
stopped [] = []
stopped (Emitting e entries ∷ rest) = Emitting e (left_by_stop e entries) ∷ rest
stopped (task ∷ rest) = task ∷ rest

-- ** what an emission accumulates

-- whether a value is TRUE
abbrev pub is_true : Value → Bool
is_true (values.bool b) = b
is_true _ = false

-- whether a value ends the collection
abbrev pub is_last : Option Accumulator → Value → Bool
is_last None v = false
is_last (Some true_handled) v = is_true v
is_last (Some first_wins) v = true

-- the entries that are left, perhaps after a stop
abbrev pub entries_after : Bool → Emission → List PlanEntry → List PlanEntry
entries_after false e entries = entries
entries_after true e entries = left_by_stop e entries

-- the emission after one of its programs gave a value; in the cleanup stage it takes none
abbrev pub accumulated : Signal → Emission → List PlanEntry → Value → Task
accumulated s e entries v =
    cond e.cleanup (Emitting e entries) (Emitting (record e { value = Some v }) (entries_after (is_last s.accumulator v) e entries))

-- whether what a program gave is what the signal wants
abbrev pub suits : (Value → Kind → Bool) → Option Value → Option Kind → Bool
suits fits None None = true
suits fits None (Some kind) = false
suits fits (Some v) None = false
suits fits (Some v) (Some kind) = fits v kind

-- the emission after one of its programs ended, which may have given no value
abbrev pub collected : Signal → Emission → List PlanEntry → Option Value → Task
collected s e entries None = Emitting e entries
collected s e entries (Some v) = accumulated s e entries v

-- the emission takes what its program gave
unfoldable pub collecting : Definition → World → Emission → List PlanEntry → Option Value → Answer Task
collecting d w e entries given = do
  o ← object_at w.objects e.object
  s ← signal_at d o.class e.signal
  only_if (suits (kind_fits (class_in w.objects) d.types) given s.result) arms.Result (Ok (collected s e entries given))

-- ** results

-- a value, or else the zero value of the kind
abbrev pub or_zero : Definition → Kind → Option Value → Value
or_zero d kind None = zero_value d.types kind
or_zero d kind (Some v) = v

-- what an emission results in: the value that it has accumulated, or the zero value
abbrev pub result_of : Definition → Option Kind → Option Value → Option Value
result_of d None v = None
result_of d (Some kind) v = Some (or_zero d kind v)

-- what an emission results in as it ends
unfoldable pub resulting : Definition → World → Emission → Answer (Option Value)
resulting d w e = do
  o ← object_at w.objects e.object
  s ← signal_at d o.class e.signal
  Ok (result_of d s.result e.value)

-- ** results of programs

-- to an emission
unfoldable pub down_to_emission : Definition → World → Emission → List PlanEntry → List Task → Option Value → Answer Left
down_to_emission d w e entries rest given = do
  task ← collecting d w e entries given
  leaves w (task ∷ rest)

-- to a source
unfoldable pub down_to_source : World → ℕ → List Task → Option Value → Answer Left
down_to_source w source rest given = do
  kept ← kept_source w source given
  leaves kept rest

-- where a program's result goes, by the task below it: an emission collects it, a source goes on or ends by it, and to all others a
-- program gives none
abbrev pub given_down : Definition → World → List Task → Option Value → Answer Left
given_down d w (Emitting e entries ∷ rest) given = down_to_emission d w e entries rest given
given_down d w (Answering source ∷ rest) given = down_to_source w source rest given
given_down d w rest None = leaves w rest
given_down d w rest (Some v) = Err arms.Result

-- ** results of emissions and peers

-- the program goes on with a value in a register
unfoldable pub received_by : Frame → List Task → ℕ → Option Value → Answer (List Task)
received_by f rest to v = do
  new ← with_register to v f.registers
  Ok (Running (record f { into = None; registers = new }) ∷ rest)

-- where a peer's answer goes, by the task below it: to the program that called
abbrev pub received : List Task → ℕ → Option Value → Answer (List Task)
received (Running f ∷ rest) to v = received_by f rest to v
received _ to v = Err arms.Code

-- a program that waits for a result is given it, and there is one
abbrev pub taken : Option ℕ → Frame → List Task → Option Value → Answer (List Task)
taken None f rest v = Ok (Running f ∷ rest)
taken (Some to) f rest None = Err arms.Result
taken (Some to) f rest (Some v) = received_by f rest to (Some v)

-- where an emission's result goes, by the task below it: a program that waits for one takes it, and no one else asks
abbrev pub passed_down : List Task → Option Value → Answer (List Task)
passed_down (Running f ∷ rest) v = taken f.into f rest v
passed_down rest v = Ok rest

-- an event reports its emission's result
abbrev pub told : Definition → World → Bool → Option Value → World
told d w by_event None = w
told d w false (Some v) = w
told d w true (Some v) = record (said d w (lines.result v)) { result = Some v }

-- an emission ends
unfoldable pub ending : Definition → World → Emission → List Task → Answer Left
ending d w e rest = do
  v ← resulting d w e
  agenda ← passed_down rest v
  leaves (told d w e.by_event v) agenda
