-- What the turns of an emission are, from its beginning on.
use Rattle.std.specs.List.{flat_map}
use Rattle.std.specs.Prelude.{◌≡◌, Bool, List, None, Option, Some, [], cond, false, nat_eq, nat_lt, true, ℕ, ◌∷◌}
use Rattle.ui_machine.specs.Definition.Signals.{Accumulator}
use Rattle.ui_machine.specs.Rules.EmissionPlan.{Planned, plan}
use Rattle.ui_machine.specs.State.Config.{World}
use Rattle.ui_machine.specs.State.Handlers.{Handler, handler_of}
use Rattle.ui_machine.specs.State.Tasks.{PlanEntry, class_handler, handler, transfer}
use Rattle.signal_core.specs.Connected.{Numbered}
use Rattle.signal_core.specs.Emission.{Due, Walk, after_program, from_first, is_over, next_step, of_handler, program_turn, to_come}
use Rattle.signal_core.specs.declared.stage.Stage.{Stage}
use Rattle.signal_core.specs.declared.stage.Stage.TheVariants as stages
use Rattle.signal_core.specs.declared.step.Step.{Step}
use Rattle.signal_core.specs.declared.turn.Turn.{Turn}
use Rattle.signal_core.specs.declared.turn.Turn.TheVariants as turns

-- ** as it begins

-- the walk of an emission that the machine plans, where `last` is the number of the last handler that was connected
abbrev pub walk_for : (last : ℕ) → Option Accumulator → Planned → Walk
walk_for last accumulator p = record {
  object = p.object;
  signal = p.signal;
  detail = p.detail;
  flags = p.flags;
  accumulator = accumulator;
  class_program = p.class_program;
  greatest = last;
  stage = stages.First;
  value = None;
}

-- the number of the handler whose turn led to a stage
abbrev pub number_at : Stage → ℕ
number_at (stages.Before number) = number
number_at (stages.After number) = number
number_at _ = 0

-- the entries that the machine has for a turn
abbrev pub entries_of : List PlanEntry → Due → List PlanEntry
entries_of transfers d = of d.step.turn
  where
    of : Turn → List PlanEntry
    of (turns.Class program) = class_handler program (is_over d.step.then_at) ∷ []
    of (turns.Handler program swapped arg) = handler (number_at d.step.then_at) ∷ []
    of turns.Transfers = transfers

-- the turns to come are the entries of the machine's plan
abbrev pub PlanIsWalked : Type 0
PlanIsWalked = (w : World) (accumulator : Option Accumulator) (p : Planned) → Numbered 0 w.handlers w.last_handler →
    (nat_eq p.signal 0 ≡ false → p.transfers ≡ []) →
    flat_map (entries_of p.transfers) (from_first (walk_for w.last_handler accumulator p) w.handlers) ≡ plan w p

-- ** as it goes on

-- what comes after the first turn that is not passed over
abbrev pub after_next : List Due → List Due
after_next [] = []
after_next (d ∷ dues) = cond d.is_blocked (after_next dues) dues

-- once a turn is taken, what was behind it is to come
abbrev pub TurnsGoOn : Type 0
TurnsGoOn = (w : Walk) (hs : List Handler) (last : ℕ) → Numbered 0 hs last → (step : Step) → next_step w hs ≡ Some step →
    to_come (record w { stage = step.then_at }) hs ≡ after_next (to_come w hs)

-- ** what is passed over

-- whether the turn of a handler is passed over: it is blocked, or it is gone
abbrev pub is_passed_over : Option Handler → Bool
is_passed_over None = true
is_passed_over (Some h) = nat_lt 0 h.blocks

-- the entries from the first one on that is not passed over
abbrev pub entries_left : List Handler → List PlanEntry → List PlanEntry
entries_left hs [] = []
entries_left hs (class_handler program cleanup ∷ entries) = class_handler program cleanup ∷ entries
entries_left hs (handler number ∷ entries) = cond (is_passed_over (handler_of number hs)) (entries_left hs entries) (handler number ∷ entries)
entries_left hs (transfer number back ∷ entries) = transfer number back ∷ entries

-- ** where there are no bindings

-- the turn and the entry of a handler that is connected and is not blocked
pub record OfHandler (hs : List Handler) (turn : Turn) (entry : PlanEntry) : Type 0 where
  pub from : Handler
  pub stands : handler_of from.number hs ≡ Some from
  pub is_free : nat_lt 0 from.blocks ≡ false
  pub has_turn : turn ≡ (of_handler stages.Before from).step.turn
  pub has_entry : entry ≡ handler from.number

-- whether an entry is that of a program's turn, which leads to a stage
abbrev pub IsEntry : List Handler → Turn → Stage → PlanEntry → Type 0
IsEntry hs (turns.Class program) next entry = entry ≡ class_handler program (is_over next)
IsEntry hs (turns.Handler program swapped arg) next entry = OfHandler hs (turns.Handler program swapped arg) entry
IsEntry hs turns.Transfers next entry = ⊥

-- Without a program's turn no entries are left. Else the first is that of the turn, and the others are to come once it is taken.
abbrev pub IsToldBy : Option Turn → Walk → List Handler → List PlanEntry → Type 0
IsToldBy None new hs entries = entries ≡ []
IsToldBy (Some turn) new hs entries =
    (entry : PlanEntry) × (entries ≡ entry ∷ flat_map (entries_of []) (to_come new hs)) × IsEntry hs turn new.stage entry

-- what the next turn of a program says of the entries
abbrev pub TurnsTell : Type 0
TurnsTell = (w : Walk) (hs : List Handler) (last : ℕ) → Numbered 0 hs last →
    IsToldBy (program_turn w hs) (after_program w hs) hs (entries_left hs (flat_map (entries_of []) (to_come w hs)))
