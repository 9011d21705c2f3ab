-- What the program of a turn is given, and how it begins in front of the rest of its emission.
use Rattle.std.proofs.Common.{◌≡◌, ◌∙◌, refl, sym, ap, append_assoc, ℕ, suc, ◌+◌, ◌<◌, ◌≤◌, ◌++◌, ◌||◌, Bool, true, false, cond, not, List, [], ◌∷◌, length, map, drop, get_or, Option, None, Some, option_map, Ok, arith, add-one}
use Rattle.std.proofs.Math.Seq.{drop-cons}
use Rattle.std.proofs.lemmas.List.{append-nil, length-drop, map-append, nil_from_length}
use Rattle.ui_machine.specs.Definition.{Definition}
use Rattle.ui_machine.specs.Definition.Values as values
use Rattle.ui_machine.specs.Rules.Accumulation.{given_to, in_stage, instance_of, running_handler}
use Rattle.ui_machine.specs.Rules.Programs.{beginning_program, program_before}
use Rattle.ui_machine.specs.State.Config.{Config, World, starts}
use Rattle.ui_machine.specs.State.Handlers.{Handler}
use Rattle.ui_machine.specs.Rules.Transfers.{transfer_for}
use Rattle.ui_machine.specs.State.Bindings.{Binding, binding_of}
use Rattle.ui_machine.specs.State.Tasks.{Emission, Emitting, PlanEntry, Registers, Task, Transferring}
use Rattle.ui_machine.specs.Outcome.{Answer}
use Rattle.ui_machine.specs.Steps.{act, uncounted}
use Rattle.g_values.specs.View.{value_view}
use Rattle.g_values.specs.declared.value.Value.{Value}
use Rattle.bytecode.specs.Computing.{registers_of}
use Rattle.signal_core.specs.Connected.{Numbered}
use Rattle.bindings.specs.Due.{entry_of, is_free}
use Rattle.bindings.specs.declared.due.DueTransfer.{DueTransfer}
use Rattle.signal_core.specs.Emission.{Due, Walk, is_over, is_transfers, of_handler, to_come}
use Rattle.signal_core.specs.Laws.{IsEntry}
use Rattle.signal_core.specs.declared.stage.Stage.{Stage}
use Rattle.signal_core.specs.declared.stage.Stage.TheVariants as stages
use Rattle.signal_core.specs.declared.turn.Turn.{Turn}
use Rattle.signal_core.specs.declared.turn.Turn.TheVariants as turns
use Rattle.engine_world.specs.Standing.{entries_due}
use Rattle.engine_stack.specs.TaskView.{emission_of}
use Rattle.engine_world.proofs.SameTurns.{entries}
use Rattle.engine_tasks.specs.TurnView.{RunsProgram, given_by, program_of_turn}
use Rattle.engine_tasks.proofs.ProgramStarts.{begins_before}
use Rattle.engine_tasks.proofs.EmissionTurns.{GoesOn, IsNext, not_over, program_first}

-- ** registers with values once more

-- registers that hold values
abbrev pub filled : List values.Value → Registers
filled vs = map (λ v. Some v) vs

module _ (vs : List Value) (i : ℕ) (all : Registers) where
  pub copies_on : (xs ys : List (Option Value)) (v w : Value) → i < length vs → v ≡ get_or vs i v → value_view w ≡ value_view v → ys ≡ xs ++ Some w ∷ []
      → registers_of xs ++ filled (map value_view (drop i vs)) ≡ all → registers_of ys ++ filled (map value_view (drop (i + 1) vs)) ≡ all
  copies_on xs ys v w lt is same more so =
      let rest = filled (map value_view (drop (i + 1) vs)) in
      let e : drop i vs ≡ get_or vs i v ∷ drop (suc i) vs = drop-cons vs i v lt in
      let next : filled (map value_view (drop i vs)) ≡ Some (value_view v) ∷ rest = rw (add-one, e, ← is) refl in
      ap (λ (zs : List (Option Value)). registers_of zs ++ rest) more
      ∙ ap (λ (l : Registers). l ++ rest) (map-append (option_map value_view) xs (Some w ∷ []))
      ∙ append_assoc (registers_of xs) (Some (value_view w) ∷ []) rest
      ∙ ap (λ (x : values.Value). registers_of xs ++ Some x ∷ rest) same
      ∙ ap (λ (l : Registers). registers_of xs ++ l) (sym next) ∙ so

  pub copies_end : (xs : List (Option Value)) → length vs ≤ i → registers_of xs ++ filled (map value_view (drop i vs)) ≡ all → registers_of xs ≡ all
  copies_end xs le so =
      let none : drop i vs ≡ [] = nil_from_length (drop i vs) (omega (arith, length-drop i vs)) in
      sym (append-nil (registers_of xs)) ∙ ap (λ (l : List Value). registers_of xs ++ filled (map value_view l)) (sym none) ∙ so

-- one register more
pub one_filled : (xs : List (Option Value)) (w : Value) → registers_of (xs ++ Some w ∷ []) ≡ registers_of xs ++ filled (value_view w ∷ [])
one_filled xs w = map-append (option_map value_view) xs (Some w ∷ [])

-- what is put in one after the other
pub filled_around : (before args behind : List values.Value) → (filled before ++ filled args) ++ filled behind ≡ filled (before ++ (args ++ behind))
filled_around before args behind =
    append_assoc (filled before) (filled args) (filled behind)
    ∙ ap (λ (l : Registers). filled before ++ l) (sym (map-append (λ v. Some v) args behind))
    ∙ sym (map-append (λ v. Some v) before (args ++ behind))

-- ** what a program is given

pub class_given : (e : Emission) (id : ℕ) → e.object ≡ id → values.object (Some id) ∷ (e.args ++ []) ≡ instance_of e ∷ e.args
class_given e id is = ap (λ (l : List values.Value). values.object (Some id) ∷ l) (append-nil e.args) ∙ ap (λ n. values.object (Some n) ∷ e.args) (sym is)

pub handler_given : (e : Emission) (id : ℕ) (own : List values.Value) → e.object ≡ id → values.object (Some id) ∷ (e.args ++ own) ≡ instance_of e ∷ (e.args ++ own)
handler_given e id own is = ap (λ n. values.object (Some n) ∷ (e.args ++ own)) (sym is)

pub swapped_given : (e : Emission) (id : ℕ) (own : List values.Value) → e.object ≡ id → own ++ (e.args ++ values.object (Some id) ∷ []) ≡ own ++ (e.args ++ instance_of e ∷ [])
swapped_given e id own is = ap (λ n. own ++ (e.args ++ values.object (Some n) ∷ [])) (sym is)

-- a handler's turn is given what the machine gives the handler
same_given : (e : Emission) (h : Handler) → given_by e (of_handler stages.Before h).step.turn ≡ given_to e h
same_given e h = by h.arg
  where
    by : (arg : Option ℕ) → given_by e (of_handler stages.Before (record h { arg = arg })).step.turn ≡ given_to e (record h { arg = arg })
    by None = refl
    by (Some i) = refl

-- a program that begins with the same
pub begins_as : (d : Definition) (ts us : List Task) (n m : ℕ) (w v : World) (p q : ℕ) (xs ys : List values.Value) → ts ≡ us → n ≡ m → w ≡ v → p ≡ q → xs ≡ ys
    → uncounted ts n (beginning_program d w p xs) ≡ uncounted us m (beginning_program d v q ys)
begins_as d ts us n m w v p q xs ys tasks count world program given = rw (tasks, count, world, program, given) refl

-- ** turns

-- a turn that has an entry runs a program
pub runs_program : (hs : List Handler) (t : Turn) (next : Stage) (entry : PlanEntry) → IsEntry hs t next entry → RunsProgram t
runs_program hs (turns.Class program) next entry is = tt
runs_program hs (turns.Handler program swapped arg) next entry is = tt
runs_program hs turns.Transfers next entry never = absurd never

module _ (d : Definition) (v : World) (rest : List Task) (n : ℕ) (w : Walk) (args : List Value) (by_event : Bool) (early : is_over w.stage ≡ false) (next : Stage) where
  abbrev new_walk : Walk
  new_walk = record w { stage = next }

  abbrev old : Emission
  old = emission_of w args by_event

  abbrev new : Emission
  new = emission_of new_walk args by_event

  abbrev begins : Turn → Emission → List PlanEntry → Answer Config
  begins t e left = uncounted (Emitting e left ∷ rest) n (beginning_program d v (program_of_turn t) (given_by new t))

  pub takes_entry : (t : Turn) (entry : PlanEntry) → IsEntry v.handlers t next entry → GoesOn v [] t next → (left : List PlanEntry)
      → act d v None (Emitting old (entry ∷ left) ∷ rest) n ≡ begins t new left
  takes_entry (turns.Class program) entry is onward left =
      let given = instance_of old ∷ old.args in
      ap (λ (x : PlanEntry). act d v None (Emitting old (x ∷ left) ∷ rest) n) is
      ∙ begins_before d v program given (Emitting (in_stage (is_over next) old) left ∷ []) rest n
      ∙ ap (λ b. uncounted (Emitting (record old { cleanup = b || is_over next }) left ∷ rest) n (beginning_program d v program given)) early
  takes_entry (turns.Handler program swapped arg) entry of onward left =
      let h = of.from in
      ap (λ (x : PlanEntry). act d v None (Emitting old (x ∷ left) ∷ rest) n) of.has_entry
      ∙ ap (λ (o : Option Handler). uncounted rest n (running_handler d v old left o)) of.stands
      ∙ ap (λ (b : Bool). uncounted rest n (cond b (starts v (Emitting old left ∷ [])) (program_before d v h.program (given_to old h) (Emitting old left ∷ [])))) of.is_free
      ∙ begins_before d v h.program (given_to old h) (Emitting old left ∷ []) rest n
      ∙ ap (λ (given : List values.Value). uncounted (Emitting old left ∷ rest) n (beginning_program d v h.program given)) (sym (same_given old h))
      ∙ ap (λ (t : Turn). uncounted (Emitting old left ∷ rest) n (beginning_program d v (program_of_turn t) (given_by old t))) (sym of.has_turn)
      ∙ ap (λ b. uncounted (Emitting (record old { cleanup = b }) left ∷ rest) n (beginning_program d v program (given_by old (turns.Handler program swapped arg)))) (early ∙ sym onward)
  takes_entry turns.Transfers entry never onward left = absurd never

-- the next turn, where no transfer is due
module _ (d : Definition) (v : World) (rest : List Task) (n : ℕ) (last : ℕ) (rises : Numbered 0 v.handlers last) (w : Walk) (args : List Value) (by_event : Bool) (of : List PlanEntry) where
  -- a program's turn begins its program
  pub takes_turn : (t : Due) → IsNext v last rises w t → is_transfers t.step.turn ≡ false
      → (all : List PlanEntry) → all ≡ entries_due v (entries of (to_come w v.handlers))
      → (u : Walk) → u ≡ record w { stage = t.step.then_at } → (left : List PlanEntry) → left ≡ entries of (to_come u v.handlers)
      → act d v None (Emitting (emission_of w args by_event) all ∷ rest) n
      ≡ uncounted (Emitting (emission_of u args by_event) left ∷ rest) n (beginning_program d v (program_of_turn t.step.turn) (given_by (emission_of u args by_event) t.step.turn))
  takes_turn t next plain all is u moved left behind =
      let first = program_first v last rises w of t next plain in
      ap (λ (es : List PlanEntry). act d v None (Emitting (emission_of w args by_event) es ∷ rest) n) (is ∙ first.1)
      ∙ takes_entry d v rest n w args by_event (not_over v last rises w t next) t.step.then_at t.step.turn first.0 first.2 first.3 (entries of (to_come (record w { stage = t.step.then_at }) v.handlers))
      ∙ ap (λ (x : Walk). uncounted (Emitting (emission_of x args by_event) (entries of (to_come x v.handlers)) ∷ rest) n (beginning_program d v (program_of_turn t.step.turn) (given_by (emission_of x args by_event) t.step.turn))) (sym moved)
      ∙ ap (λ (es : List PlanEntry). uncounted (Emitting (emission_of u args by_event) es ∷ rest) n (beginning_program d v (program_of_turn t.step.turn) (given_by (emission_of u args by_event) t.step.turn))) (sym behind)

  pub turn_runs : (t : Due) → IsNext v last rises w t → is_transfers t.step.turn ≡ false → RunsProgram t.step.turn
  turn_runs t next plain = let first = program_first v last rises w of t next plain in runs_program v.handlers t.step.turn t.step.then_at first.0 first.2

-- ** transfers

-- one that is due is put in front
pub takes_due : (d : Definition) (v : World) (rest : List Task) (n : ℕ) (e : Emission) (t : DueTransfer) (left : List PlanEntry) → is_free (binding_of t.number v.bindings) ≡ true
    → act d v None (Emitting e (entry_of t ∷ left) ∷ rest) n ≡ Ok (record { world = v; agenda = Transferring t.number t.back ∷ Emitting e left ∷ rest; counted = n })
takes_due d v rest n e t left free = ap (uncounted rest n) (by (binding_of t.number v.bindings) free)
  where
    by : (o : Option Binding) → is_free o ≡ true → starts v (transfer_for o t.number t.back ++ Emitting e left ∷ []) ≡ starts v (Transferring t.number t.back ∷ Emitting e left ∷ [])
    by None none = cc none
    by (Some b) free = made b.busy free
      where
        made : (busy : Bool) → not busy ≡ true → starts v (cond busy [] (Transferring t.number t.back ∷ []) ++ Emitting e left ∷ []) ≡ starts v (Transferring t.number t.back ∷ Emitting e left ∷ [])
        made true not_so = cc not_so
        made false so = refl
