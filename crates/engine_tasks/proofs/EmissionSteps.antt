-- What an emission does next: a transfer, a program, or its end.
use Rattle.std.proofs.Common.{◌≡◌, ◌∙◌, refl, sym, ap, ℕ, ◌++◌, Bool, true, false, List, [], ◌∷◌, Option, None, Some, option_map}
use Rattle.ui_machine.specs.Definition.{Definition}
use Rattle.ui_machine.specs.Rules.Accumulation.{ending}
use Rattle.ui_machine.specs.Rules.Programs.{beginning_program}
use Rattle.ui_machine.specs.State.Config.{World}
use Rattle.ui_machine.specs.State.Handlers.{Handler}
use Rattle.ui_machine.specs.State.Tasks.{Emission, Emitting, PlanEntry, Task}
use Rattle.ui_machine.specs.Steps.{act, left, uncounted}
use Rattle.bindings.specs.Due.{entry_of, from_ready}
use Rattle.bindings.specs.declared.due.DueTransfer.{DueTransfer}
use Rattle.g_values.specs.declared.value.Value.{Value}
use Rattle.signal_core.specs.Connected.{Numbered}
use Rattle.signal_core.specs.Emission.{Due, Walk, is_over, is_transfers, next_step, stage_after, to_come}
use Rattle.signal_core.specs.declared.stage.Stage.{Stage}
use Rattle.signal_core.specs.declared.stage.Stage.TheVariants as stages
use Rattle.signal_core.specs.declared.turn.Turn.{Turn}
use Rattle.signal_core.specs.declared.turn.Turn.TheVariants as turns
use Rattle.engine_world.specs.Standing.{entries_due}
use Rattle.engine_stack.specs.TaskView.{emission_of, entries_to_come}
use Rattle.engine_stack.specs.TransferView.{due_later, due_now, entries_due_of}
use Rattle.engine_stack.specs.declared.task.Transfers.{Transfers}
use Rattle.engine_stack.specs.declared.task.Transfers.TheVariants as at
use Rattle.engine_world.proofs.SameTurns.{entries}
use Rattle.engine_tasks.specs.TurnView.{RunsProgram, given_by, program_of_turn}
use Rattle.engine_tasks.proofs.Emitted.{ends_on}
use Rattle.engine_tasks.proofs.EmissionTurns.{IsNext, bindings_first, due_left, ends_so, free_first, left_of, not_over, plain_behind}
use Rattle.engine_tasks.proofs.TurnTaking.{takes_turn, turn_runs}

-- ** transfers

module _ (v : World) (w : Walk) (old new : Transfers) (later : due_later new ≡ due_later old) where
  abbrev of : List PlanEntry
  of = entries_due_of (due_later old)

  -- the first that is due
  pub transfer_first : (t : DueTransfer) → from_ready v.bindings (due_now old) ≡ t ∷ due_now new → entries_due v (entries_to_come w v.handlers old) ≡ entry_of t ∷ entries_to_come w v.handlers new
  transfer_first t takes =
      due_left v (due_now old) (entries of (to_come w v.handlers))
      ∙ ap (λ (l : List DueTransfer). left_of v l (entries of (to_come w v.handlers))) takes
      ∙ ap (λ (l : List DueTransfer). entry_of t ∷ (entries_due_of (due_now new) ++ entries (entries_due_of l) (to_come w v.handlers))) (sym later)

  module _ (none : from_ready v.bindings (due_now old) ≡ []) (empty : due_now new ≡ []) where
    -- none is due
    pub none_due : entries_due v (entries_to_come w v.handlers old) ≡ entries_due v (entries of (to_come w v.handlers))
    none_due =
        due_left v (due_now old) (entries of (to_come w v.handlers))
        ∙ ap (λ (l : List DueTransfer). left_of v l (entries of (to_come w v.handlers))) none

    pub left_behind : (u : Walk) → entries_to_come u v.handlers new ≡ entries of (to_come u v.handlers)
    left_behind u =
        ap (λ (l : List DueTransfer). entries_due_of l ++ entries (entries_due_of (due_later new)) (to_come u v.handlers)) empty
        ∙ ap (λ (l : List DueTransfer). entries (entries_due_of l) (to_come u v.handlers)) later

    -- nothing is left at all: the emission ends
    pub ends_with : (d : Definition) (rest : List Task) (n : ℕ) (last : ℕ) (rises : Numbered 0 v.handlers last) → (args : List Value) (by_event : Bool) (u : Walk)
        → u ≡ record w { stage = stage_after (next_step w v.handlers) } → free_first (to_come w v.handlers) ≡ None
        → act d v None (Emitting (emission_of w args by_event) (entries_due v (entries_to_come w v.handlers old)) ∷ rest) n ≡ left n (ending d v (emission_of u args by_event) rest)
    ends_with d rest n last rises args by_event u moved stops =
        ends_on d v rest n w u args by_event (stage_after (next_step w v.handlers)) moved _ (none_due ∙ ends_so v last rises w of stops)

    -- a program's turn
    pub turns_with : (d : Definition) (rest : List Task) (n : ℕ) (last : ℕ) (rises : Numbered 0 v.handlers last) → (args : List Value) (by_event : Bool) (u : Walk)
        → u ≡ record w { stage = stage_after (next_step w v.handlers) } → (t : Due) → IsNext v last rises w t → is_transfers t.step.turn ≡ false → (turn : Turn) → t.step.turn ≡ turn
        → act d v None (Emitting (emission_of w args by_event) (entries_due v (entries_to_come w v.handlers old)) ∷ rest) n
        ≡ uncounted (Emitting (emission_of u args by_event) (entries_to_come u v.handlers new) ∷ rest) n (beginning_program d v (program_of_turn turn) (given_by (emission_of u args by_event) turn))
    turns_with d rest n last rises args by_event u moved t next plain turn is =
        takes_turn d v rest n last rises w args by_event of t next plain _ none_due
        u (moved ∙ ap (λ (o : Option Due). record w { stage = stage_after (option_map (λ (x : Due). x.step) o) }) next) (entries_to_come u v.handlers new) (left_behind u)
        ∙ ap (λ (x : Turn). uncounted (Emitting (emission_of u args by_event) (entries_to_come u v.handlers new) ∷ rest) n (beginning_program d v (program_of_turn x) (given_by (emission_of u args by_event) x))) is

    -- the bindings' turn
    pub bindings_with : (d : Definition) (rest : List Task) (n : ℕ) (last : ℕ) (rises : Numbered 0 v.handlers last) → (args : List Value) (by_event : Bool) (u : Walk)
        → u ≡ record w { stage = stage_after (next_step w v.handlers) } → (t : Due) → IsNext v last rises w t → is_transfers t.step.turn ≡ true
        → (begun : Transfers) → begun ≡ at.Due (due_later new)
        → act d v None (Emitting (emission_of w args by_event) (entries_due v (entries_to_come w v.handlers old)) ∷ rest) n
        ≡ act d v None (Emitting (emission_of u args by_event) (entries_due v (entries_to_come u v.handlers begun)) ∷ rest) n
    bindings_with d rest n last rises args by_event u moved t next so begun behind =
        let first = bindings_first v last rises w of t next so in
        let at_step : u ≡ record w { stage = t.step.then_at } = moved ∙ ap (λ (o : Option Due). record w { stage = stage_after (option_map (λ (x : Due). x.step) o) }) next in
        let own : emission_of u args by_event ≡ record (emission_of w args by_event) { cleanup = is_over (record w { stage = t.step.then_at }).stage } =
        ap (λ (x : Walk). emission_of x args by_event) at_step in
        let all : entries_due v (entries_to_come u v.handlers begun) ≡ entries_due v (entries_to_come w v.handlers old) =
        ap (λ (ts : Transfers). entries_due v (entries_to_come u v.handlers ts)) behind
        ∙ ap (λ (l : List DueTransfer). entries_due v (entries_due_of l ++ entries [] (to_come u v.handlers))) later
        ∙ ap (λ (x : Walk). entries_due v (of ++ entries [] (to_come x v.handlers))) at_step
        ∙ sym first.1 ∙ sym none_due in
        ap (λ (es : List PlanEntry). act d v None (Emitting (emission_of w args by_event) es ∷ rest) n) (sym all)
        ∙ ap (λ (e : Emission). act d v None (Emitting e (entries_due v (entries_to_come u v.handlers begun)) ∷ rest) n)
        (sym (own ∙ ap (λ (b : Bool). record (emission_of w args by_event) { cleanup = b }) (ap (λ (stage : Stage). is_over stage) first.0 ∙ sym (not_over v last rises w t next))))

    pub at_before : (last : ℕ) (rises : Numbered 0 v.handlers last) → (u : Walk) → u ≡ record w { stage = stage_after (next_step w v.handlers) } → (t : Due) → IsNext v last rises w t
        → is_transfers t.step.turn ≡ true → u.stage ≡ stages.Before 0
    at_before last rises u moved t next so =
        let first = bindings_first v last rises w of t next so in
        ap (λ (x : Walk). x.stage) moved ∙ ap (λ (o : Option Due). stage_after (option_map (λ (x : Due). x.step) o)) next ∙ first.0

    pub runs_one : (last : ℕ) (rises : Numbered 0 v.handlers last) → Definition → (t : Due) → IsNext v last rises w t → is_transfers t.step.turn ≡ false → RunsProgram t.step.turn
    runs_one last rises d t next plain = turn_runs d v [] 0 last rises w [] false of t next plain

-- behind the bindings' turn all turns are of programs
pub behind_plain : (v : World) (last : ℕ) (rises : Numbered 0 v.handlers last) → (w : Walk) → w.stage ≡ stages.Before 0 → (t : Due) → IsNext v last rises w t → is_transfers t.step.turn ≡ false
behind_plain v last rises w behind t next = plain_behind v last rises w behind t next

-- ** by what is asked of the handlers

twice_mapped : {A B C : Type 0} (f : A → B) (g : B → C) (o : Option A) → option_map g (option_map f o) ≡ option_map (λ a. g (f a)) o
twice_mapped f g None = refl
twice_mapped f g (Some a) = refl

found_some : {A B : Type 0} (f : A → B) (o : Option A) (b : B) → option_map f o ≡ Some b → (a : A) × (o ≡ Some a) × (f a ≡ b)
found_some f None b is = cc is
found_some f (Some a) b is = let same : f a ≡ b = cc is in (a, refl, same)

found_none : {A B : Type 0} (f : A → B) (o : Option A) → option_map f o ≡ None → o ≡ None
found_none f None is = refl
found_none f (Some a) is = cc is

module _ (w : Walk) (hs : List Handler) where
  turns_of : option_map (λ s. s.turn) (next_step w hs) ≡ option_map (λ (d : Due). d.step.turn) (free_first (to_come w hs))
  turns_of = twice_mapped (λ (d : Due). d.step) (λ s. s.turn) (free_first (to_come w hs))

  -- the turn that is the next one
  pub due_of : (t : Turn) → option_map (λ s. s.turn) (next_step w hs) ≡ Some t → (d : Due) × (free_first (to_come w hs) ≡ Some d) × (d.step.turn ≡ t)
  due_of t is = found_some (λ (d : Due). d.step.turn) (free_first (to_come w hs)) t (sym turns_of ∙ is)

  pub no_due : option_map (λ s. s.turn) (next_step w hs) ≡ None → free_first (to_come w hs) ≡ None
  no_due is = found_none (λ (d : Due). d.step.turn) (free_first (to_come w hs)) (sym turns_of ∙ is)

-- a turn that is not the bindings' is a program's
pub of_program : (t : Turn) → (t ≡ turns.Transfers → ⊥) → is_transfers t ≡ false
of_program (turns.Class program) other = refl
of_program (turns.Handler program swapped arg) other = refl
of_program turns.Transfers other = absurd (other refl)
