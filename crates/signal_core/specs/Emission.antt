-- What an emission has still to come, and which turn of it is the next.
use Rattle.std.specs.List.{filter, find}
use Rattle.std.specs.Prelude.{Bool, List, None, Option, Some, [], cond, false, map, nat_eq, nat_le, nat_lt, not, option_map, true, ℕ, ◌&&◌, ◌++◌, ◌∷◌}
use Rattle.std.specs.Rc.{rc_str_bytes}
use Rattle.ui_machine.specs.Definition.Properties.{has_flags}
use Rattle.ui_machine.specs.Definition.Signals as machine
use Rattle.ui_machine.specs.Definition.Values.{Value}
use Rattle.ui_machine.specs.Rules.Accumulation.{is_last}
use Rattle.ui_machine.specs.Rules.EmissionPlan.{runs_for}
use Rattle.ui_machine.specs.State.Handlers.{Handler}
use Rattle.ui_machine.specs.declared.ids.ObjectId.{ObjectId}
use Rattle.g_values.specs.View.{value_view}
use Rattle.g_values.specs.declared.value.Value as carried
use Rattle.signal_core.specs.declared.emission.Accumulator.{Accumulator}
use Rattle.signal_core.specs.declared.emission.Accumulator.TheVariants as accumulators
use Rattle.signal_core.specs.declared.emission.Emission.{Emission}
use Rattle.signal_core.specs.declared.stage.Stage.{Stage}
use Rattle.signal_core.specs.declared.stage.Stage.TheVariants as stages
use Rattle.signal_core.specs.declared.step.Step.{Step}
use Rattle.signal_core.specs.declared.turn.Turn.{Turn}
use Rattle.signal_core.specs.declared.turn.Turn.TheVariants as turns

pub record Walk : Type 0 where
  pub object : ℕ
  pub signal : ℕ  -- its number in the list of the object's class; 0 is `notify`
  pub detail : Option (List ℕ)
  pub flags : ℕ  -- of the signal
  pub accumulator : Option machine.Accumulator
  pub class_program : Option ℕ  -- that the class runs for it
  pub greatest : ℕ  -- the number of the last handler that was connected before it began
  pub stage : Stage  -- where it is
  pub value : Option Value  -- that it has accumulated

-- a turn that is still to come
pub record Due : Type 0 where
  pub step : Step  -- the turn, and where the emission is once it is taken
  pub is_blocked : Bool  -- it is passed over

-- one that nothing blocks
abbrev pub due : Turn → Stage → Due
due turn next = record { step = record { turn = turn; then_at = next }; is_blocked = false }

-- how the results of an emission's programs are put together, as the machine has it
abbrev pub accumulator_of : Accumulator → machine.Accumulator
accumulator_of accumulators.TrueHandled = machine.true_handled
accumulator_of accumulators.FirstWins = machine.first_wins

-- an emission under way
abbrev pub walk_of : Emission → (greatest : ℕ) → Stage → Option carried.Value → Walk
walk_of e greatest stage v = record {
  object = e.object.0;
  signal = e.signal;
  detail = option_map (λ detail. rc_str_bytes detail) e.detail;
  flags = e.flags.0;
  accumulator = option_map accumulator_of e.accumulator;
  class_program = e.class_program;
  greatest = greatest;
  stage = stage;
  value = option_map value_view v;
}

-- at its beginning
abbrev pub begun : Emission → (greatest : ℕ) → Walk
begun e greatest = walk_of e greatest stages.First None

-- ** the turns of each stage, and of all that come after it

-- the class handler's, if it runs at this stage
abbrev pub of_class : Bool → Option ℕ → Stage → List Due
of_class runs None next = []
of_class runs (Some program) next = cond runs (due (turns.Class program) next ∷ []) []

-- the one of a handler
abbrev pub of_handler : (ℕ → Stage) → Handler → Due
of_handler stage h = record {
  step = record { turn = turns.Handler h.program h.swapped (option_map identity h.arg); then_at = stage h.number };
  is_blocked = nat_lt 0 h.blocks;
}
  where
    identity : ℕ → ObjectId
    identity number = record { 0 = number }

-- whether a handler is still to come: it was connected before the emission began, and after the last one that had its turn
abbrev pub is_ahead : Walk → (given : ℕ) → (after : Bool) → Handler → Bool
is_ahead w given after h =
    (nat_lt given h.number && nat_le h.number w.greatest) && (runs_for w.object w.signal w.detail h && cond after h.after (not h.after))

-- whether it has the next turn, if none before it has: it is to come and not blocked
abbrev pub has_next_turn : Walk → (given : ℕ) → (after : Bool) → Handler → Bool
has_next_turn w given after h = is_ahead w given after h && not (nat_lt 0 h.blocks)

-- those of the handlers after a number
abbrev pub of_handlers : Walk → (given : ℕ) → (after : Bool) → (ℕ → Stage) → List Handler → List Due
of_handlers w given after stage hs = map (of_handler stage) (filter (is_ahead w given after) hs)

-- the one of the bindings, in a notification
abbrev pub of_bindings : Walk → List Due
of_bindings w = cond (nat_eq w.signal 0) (due turns.Transfers (stages.Before 0) ∷ []) []

abbrev pub from_cleanup : Walk → List Due
from_cleanup w = of_class (has_flags 4 w.flags) w.class_program stages.Over

abbrev pub from_after : ℕ → Walk → List Handler → List Due
from_after given w hs = of_handlers w given true stages.After hs ++ from_cleanup w

abbrev pub from_last : Walk → List Handler → List Due
from_last w hs = of_class (has_flags 2 w.flags) w.class_program (stages.After 0) ++ from_after 0 w hs

abbrev pub from_before : ℕ → Walk → List Handler → List Due
from_before given w hs = of_handlers w given false stages.Before hs ++ from_last w hs

abbrev pub from_transfers : Walk → List Handler → List Due
from_transfers w hs = of_bindings w ++ from_before 0 w hs

abbrev pub from_first : Walk → List Handler → List Due
from_first w hs = of_class (has_flags 1 w.flags) w.class_program stages.Transfers ++ from_transfers w hs

-- from a stage on: the class handler if RUN_FIRST; a notification's transfers; the handlers; the class handler if RUN_LAST; the handlers
-- connected after; the class handler if RUN_CLEANUP
abbrev pub turns_from : Stage → Walk → List Handler → List Due
turns_from stages.First w hs = from_first w hs
turns_from stages.Transfers w hs = from_transfers w hs
turns_from (stages.Before given) w hs = from_before given w hs
turns_from stages.Last w hs = from_last w hs
turns_from (stages.After given) w hs = from_after given w hs
turns_from stages.Cleanup w hs = from_cleanup w
turns_from stages.Over w hs = []

-- all that are still to come
abbrev pub to_come : Walk → List Handler → List Due
to_come w hs = turns_from w.stage w hs

-- ** what the calls do

-- the first that is not passed over
abbrev pub first_step : List Due → Option Step
first_step dues = option_map (λ (d : Due). d.step) (find (λ (d : Due). not d.is_blocked) dues)

-- the next turn
abbrev pub next_step : Walk → List Handler → Option Step
next_step w hs = first_step (to_come w hs)

-- where the emission is after it; without one it is over
abbrev pub stage_after : Option Step → Stage
stage_after None = stages.Over
stage_after (Some step) = step.then_at

-- whether the cleanup stage is over
abbrev pub is_over : Stage → Bool
is_over stages.Over = true
is_over _ = false

-- a stop leaves the cleanup stage alone; in it, it does nothing
abbrev pub stopped : Walk → Walk
stopped w = record w { stage = cond (is_over w.stage) stages.Over stages.Cleanup }

-- the emission after one of its programs gave a value, which stops it where it is the last one; the cleanup stage takes none
abbrev pub collected : Value → (is_last : Bool) → Walk → Walk
collected v is_last w = cond (is_over w.stage) w (cond is_last (stopped taken) taken)
  where
    taken : Walk
    taken = record w { value = Some v }

-- the same by the emission's own accumulator
abbrev pub with_value : Value → Walk → Walk
with_value v w = collected v (is_last w.accumulator v) w

-- ** where there are no bindings

-- whether it is the bindings' turn
abbrev pub is_transfers : Turn → Bool
is_transfers turns.Transfers = true
is_transfers _ = false

-- an emission past a step, if that is the bindings'
abbrev pub past : Walk → Option Step → Walk
past w None = w
past w (Some step) = cond (is_transfers step.turn) (record w { stage = step.then_at }) w

-- an emission once the bindings had their turn, where that is the next one
abbrev pub past_transfers : Walk → List Handler → Walk
past_transfers w hs = past w (next_step w hs)

-- the turn of a program that is the next one
abbrev pub program_turn : Walk → List Handler → Option Turn
program_turn w hs = option_map (λ (step : Step). step.turn) (next_step (past_transfers w hs) hs)

-- an emission once that turn is taken
abbrev pub after_program : Walk → List Handler → Walk
after_program w hs = record w { stage = stage_after (next_step (past_transfers w hs) hs) }
