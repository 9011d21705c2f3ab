-- The turns of emissions, and their transfers.
use Rattle.std.proofs.Common.{◌≡◌, ◌∙◌, refl, sym, ap, subst, ℕ, ◌++◌, Bool, true, false, cond, not, map, nat_eq, nat_lt, List, [], ◌∷◌, Option, None, Some, option_map}
use Rattle.std.specs.List.{filter, find}
use Rattle.ui_machine.specs.Definition.Properties.{has_flags}
use Rattle.ui_machine.specs.Definition.Signals.{Accumulator}
use Rattle.ui_machine.specs.Rules.EmissionPlan.{Planned, plan}
use Rattle.ui_machine.specs.State.Bindings.{Binding, binding_of}
use Rattle.ui_machine.specs.State.Config.{World}
use Rattle.ui_machine.specs.State.Handlers.{Handler, handler_of}
use Rattle.ui_machine.specs.State.Tasks.{PlanEntry, handler}
use Rattle.bindings.specs.Due.{entry_of, from_ready, is_free}
use Rattle.bindings.specs.declared.due.DueTransfer.{DueTransfer}
use Rattle.signal_core.specs.Connected.{Numbered}
use Rattle.signal_core.specs.Emission.{Due, Walk, due, from_after, from_before, from_cleanup, from_first, from_last, from_transfers, is_ahead, is_over, is_transfers, of_class, of_handler, of_handlers, to_come, turns_from}
use Rattle.signal_core.specs.Laws.{IsEntry, after_next, entries_of, is_passed_over, number_at, walk_for}
use Rattle.signal_core.specs.declared.stage.Stage.{Stage}
use Rattle.signal_core.specs.declared.stage.Stage.TheVariants as stages
use Rattle.signal_core.specs.declared.turn.Turn.{Turn}
use Rattle.signal_core.specs.declared.turn.Turn.TheVariants as turns
use Rattle.signal_core.proofs.GoingOn.{turns_go_on}
use Rattle.signal_core.proofs.PlanProofs.{plan_is_walked}
use Rattle.signal_core.proofs.Telling.{all_stand}
use Rattle.engine_world.specs.Standing.{entries_due, makes_no_transfer}
use Rattle.engine_stack.specs.TransferView.{entries_due_of}
use Rattle.engine_world.proofs.SameTurns.{both_entries, entries}

-- ** as an emission begins

-- the entries to come are the machine's plan
pub entries_planned : (w : World) (accumulator : Option Accumulator) (p : Planned) → Numbered 0 w.handlers w.last_handler → (nat_eq p.signal 0 ≡ false → p.transfers ≡ [])
    → entries p.transfers (to_come (walk_for w.last_handler accumulator p) w.handlers) ≡ plan w p
entries_planned w accumulator p rises others = plan_is_walked w accumulator p rises others

-- ** transfers that are due

-- one that is passed over
passed_or_made : (o : Option Binding) (later now : List PlanEntry) → cond (makes_no_transfer o) later now ≡ cond (is_free o) now later
passed_or_made None later now = refl
passed_or_made (Some b) later now = by b.busy
  where
    by : (busy : Bool) → cond busy later now ≡ cond (not busy) now later
    by true = refl
    by false = refl

-- the entries of some transfers, or else what is left behind them
abbrev pub left_of : World → List DueTransfer → List PlanEntry → List PlanEntry
left_of w [] rest = entries_due w rest
left_of w (t ∷ l) rest = entry_of t ∷ (entries_due_of l ++ rest)

pub due_left : (w : World) (l : List DueTransfer) (rest : List PlanEntry) → entries_due w (entries_due_of l ++ rest) ≡ left_of w (from_ready w.bindings l) rest
due_left w [] rest = refl
due_left w (t ∷ l) rest =
    passed_or_made (binding_of t.number w.bindings) (entries_due w (entries_due_of l ++ rest)) (entry_of t ∷ (entries_due_of l ++ rest))
    ∙ by (is_free (binding_of t.number w.bindings)) (due_left w l rest)
  where
    by : (free : Bool) → entries_due w (entries_due_of l ++ rest) ≡ left_of w (from_ready w.bindings l) rest
        → cond free (entry_of t ∷ (entries_due_of l ++ rest)) (entries_due w (entries_due_of l ++ rest)) ≡ left_of w (cond free (t ∷ l) (from_ready w.bindings l)) rest
    by true same = refl
    by false same = same

-- the binding of the first that is left has not ended, and does not set
pub ready_free : (bs : List Binding) (l : List DueTransfer) (t : DueTransfer) (r : List DueTransfer) → from_ready bs l ≡ t ∷ r → is_free (binding_of t.number bs) ≡ true
ready_free bs [] t r is = absurd (cc is)
ready_free bs (x ∷ l) t r is = by (is_free (binding_of x.number bs)) refl is (ready_free bs l t r)
  where
    by : (free : Bool) → is_free (binding_of x.number bs) ≡ free → cond free (x ∷ l) (from_ready bs l) ≡ t ∷ r → (from_ready bs l ≡ t ∷ r → is_free (binding_of t.number bs) ≡ true)
        → is_free (binding_of t.number bs) ≡ true
    by true free e rec = let same : x ≡ t = cc e in subst (λ (y : DueTransfer). is_free (binding_of y.number bs) ≡ true) same free
    by false busy e rec = rec e

-- ** what is to come

-- each of these handlers is found by its number
abbrev AllStand : List Handler → List Handler → Type 0
AllStand hs [] = Unit {0}
AllStand hs (x ∷ xs) = (handler_of x.number hs ≡ Some x) × AllStand hs xs

-- what a turn is that is to come; the bindings have one where that is said
data IsOf (hs : List Handler) (binds : Bool) (d : Due) : Type 0 where
  of_program : (program : ℕ) (next : Stage) → d ≡ due (turns.Class program) next → IsOf hs binds d
  of_bindings : binds ≡ true → d ≡ due turns.Transfers (stages.Before 0) → IsOf hs binds d
  of_standing : (h : Handler) (stage : ℕ → Stage) → number_at (stage h.number) ≡ h.number → is_over (stage h.number) ≡ false → handler_of h.number hs ≡ Some h → d ≡ of_handler stage h → IsOf hs binds d

abbrev Sorted : List Handler → Bool → List Due → Type 0
Sorted hs binds [] = Unit {0}
Sorted hs binds (d ∷ dues) = IsOf hs binds d × Sorted hs binds dues

module _ (hs : List Handler) where
  sorted_append : (binds : Bool) (xs ys : List Due) → Sorted hs binds xs → Sorted hs binds ys → Sorted hs binds (xs ++ ys)
  sorted_append binds [] ys first later = later
  sorted_append binds (d ∷ xs) ys first later = (first.0, sorted_append binds xs ys first.1 later)

  may_bind : (d : Due) → IsOf hs false d → IsOf hs true d
  may_bind d (of_program program next is) = of_program program next is
  may_bind d (of_bindings never is) = of_bindings refl is
  may_bind d (of_standing h stage same early stands is) = of_standing h stage same early stands is

  all_may_bind : (dues : List Due) → Sorted hs false dues → Sorted hs true dues
  all_may_bind [] s = tt
  all_may_bind (d ∷ dues) s = (may_bind d s.0, all_may_bind dues s.1)

  class_sorted : (runs : Bool) (program : Option ℕ) (next : Stage) → Sorted hs false (of_class runs program next)
  class_sorted runs None next = tt
  class_sorted true (Some program) next = (of_program program next refl, tt)
  class_sorted false (Some program) next = tt

  handlers_sorted : (stage : ℕ → Stage) → ((n : ℕ) → number_at (stage n) ≡ n) → ((n : ℕ) → is_over (stage n) ≡ false) → (p : Handler → Bool) (xs : List Handler) → AllStand hs xs
      → Sorted hs false (map (of_handler stage) (filter p xs))
  handlers_sorted stage same early p [] s = tt
  handlers_sorted stage same early p (x ∷ xs) s = by (p x) (handlers_sorted stage same early p xs s.1)
    where
      by : (b : Bool) → Sorted hs false (map (of_handler stage) (filter p xs)) → Sorted hs false (map (of_handler stage) (cond b (x ∷ filter p xs) (filter p xs)))
      by true rest = (of_standing x stage (same x.number) (early x.number) s.0 refl, rest)
      by false rest = rest

  module _ (w : Walk) (stand : AllStand hs hs) where
    cleanup_sorted : Sorted hs false (from_cleanup w)
    cleanup_sorted = class_sorted (has_flags 4 w.flags) w.class_program stages.Over

    after_sorted : (given : ℕ) → Sorted hs false (from_after given w hs)
    after_sorted given =
        sorted_append false (of_handlers w given true stages.After hs) (from_cleanup w) (handlers_sorted stages.After (λ n. refl) (λ n. refl) (is_ahead w given true) hs stand) cleanup_sorted

    last_sorted : Sorted hs false (from_last w hs)
    last_sorted = sorted_append false (of_class (has_flags 2 w.flags) w.class_program (stages.After 0)) (from_after 0 w hs) (class_sorted (has_flags 2 w.flags) w.class_program (stages.After 0)) (after_sorted 0)

    before_sorted : (given : ℕ) → Sorted hs false (from_before given w hs)
    before_sorted given =
        sorted_append false (of_handlers w given false stages.Before hs) (from_last w hs) (handlers_sorted stages.Before (λ n. refl) (λ n. refl) (is_ahead w given false) hs stand) last_sorted

    transfers_sorted : Sorted hs true (from_transfers w hs)
    transfers_sorted = by (nat_eq w.signal 0) (all_may_bind (from_before 0 w hs) (before_sorted 0))
      where
        by : (b : Bool) → Sorted hs true (from_before 0 w hs) → Sorted hs true (cond b (due turns.Transfers (stages.Before 0) ∷ []) [] ++ from_before 0 w hs)
        by true rest = (of_bindings refl refl, rest)
        by false rest = rest

    first_sorted : Sorted hs true (from_first w hs)
    first_sorted =
        sorted_append true (of_class (has_flags 1 w.flags) w.class_program stages.Transfers) (from_transfers w hs)
        (all_may_bind (of_class (has_flags 1 w.flags) w.class_program stages.Transfers) (class_sorted (has_flags 1 w.flags) w.class_program stages.Transfers)) transfers_sorted

    sorted_from : (stage : Stage) → Sorted hs true (turns_from stage w hs)
    sorted_from stages.First = first_sorted
    sorted_from stages.Transfers = transfers_sorted
    sorted_from (stages.Before given) = all_may_bind (from_before given w hs) (before_sorted given)
    sorted_from stages.Last = all_may_bind (from_last w hs) last_sorted
    sorted_from (stages.After given) = all_may_bind (from_after given w hs) (after_sorted given)
    sorted_from stages.Cleanup = all_may_bind (from_cleanup w) cleanup_sorted
    sorted_from stages.Over = tt

-- ** the first that is not passed over

-- the first turn that is not blocked
abbrev pub free_first : List Due → Option Due
free_first dues = find (λ (d : Due). not d.is_blocked) dues

module _ (w : World) (of : List PlanEntry) where
  abbrev own : List Handler
  own = w.handlers

  -- what is blocked is passed over
  blocked_passes : (binds : Bool) (d : Due) (rest : List PlanEntry) → IsOf own binds d → d.is_blocked ≡ true → entries_due w (entries_of of d ++ rest) ≡ entries_due w rest
  blocked_passes binds d rest (of_program program next is) blocked = let free : d.is_blocked ≡ false = ap (λ (x : Due). x.is_blocked) is in absurd (cc (free, blocked))
  blocked_passes binds d rest (of_bindings may is) blocked = let free : d.is_blocked ≡ false = ap (λ (x : Due). x.is_blocked) is in absurd (cc (free, blocked))
  blocked_passes binds d rest (of_standing h stage same early stands is) blocked =
      let over : nat_lt 0 h.blocks ≡ true = sym (ap (λ (x : Due). x.is_blocked) is) ∙ blocked in
      ap (λ (x : Due). entries_due w (entries_of of x ++ rest)) is
      ∙ ap (λ n. entries_due w (handler n ∷ rest)) same
      ∙ ap (λ o. cond (is_passed_over o) (entries_due w rest) (handler h.number ∷ rest)) stands
      ∙ ap (λ b. cond b (entries_due w rest) (handler h.number ∷ rest)) over

  -- without one that is not blocked all are passed over
  none_left : (binds : Bool) (dues : List Due) → Sorted own binds dues → free_first dues ≡ None → entries_due w (entries of dues) ≡ []
  none_left binds [] s none = refl
  none_left binds (d ∷ dues) s none = by d.is_blocked refl none (λ later. none_left binds dues s.1 later)
    where
      by : (b : Bool) → d.is_blocked ≡ b → cond (not b) (Some d) (free_first dues) ≡ None → (free_first dues ≡ None → entries_due w (entries of dues) ≡ []) → entries_due w (entries of (d ∷ dues)) ≡ []
      by true blocked e rec = blocked_passes binds d (entries of dues) s.0 blocked ∙ rec e
      by false free e rec = absurd (cc e)

  -- the first that is not blocked
  record First (binds : Bool) (dues : List Due) (turn : Due) : Type 0 where
    of_sort : IsOf own binds turn
    free : turn.is_blocked ≡ false
    left : entries_due w (entries of dues) ≡ entries_due w (entries_of of turn ++ entries of (after_next dues))

  first_of : (binds : Bool) (dues : List Due) (turn : Due) → Sorted own binds dues → free_first dues ≡ Some turn → First binds dues turn
  first_of binds [] turn s e = absurd (cc e)
  first_of binds (d ∷ dues) turn s e = by d.is_blocked refl e (λ later. first_of binds dues turn s.1 later)
    where
      by : (b : Bool) → d.is_blocked ≡ b → cond (not b) (Some d) (free_first dues) ≡ Some turn → (free_first dues ≡ Some turn → First binds dues turn) → First binds (d ∷ dues) turn
      by true blocked e rec =
          let n = rec e in
          record {
            of_sort = n.of_sort;
            free = n.free;
            left = blocked_passes binds d (entries of dues) s.0 blocked ∙ n.left ∙ ap (λ b. entries_due w (entries_of of turn ++ entries of (cond b (after_next dues) dues))) (sym blocked);
          }
      by false blocked e rec =
          let same : d ≡ turn = cc e in
          subst (λ (x : Due). First binds (d ∷ dues) x) same
          (record { of_sort = s.0; free = blocked; left = ap (λ b. entries_due w (entries_of of d ++ entries of (cond b (after_next dues) dues))) (sym blocked) })

  -- a program's turn has its entry first, and a handler's does not lead to the end
  abbrev pub GoesOn : Turn → Stage → Type 0
  GoesOn (turns.Handler program swapped arg) next = is_over next ≡ false
  GoesOn _ next = Unit {0}

  abbrev pub HasEntry : Due → List PlanEntry → List PlanEntry → Type 0
  HasEntry d all rest = (entry : PlanEntry) × (entries_due w all ≡ entry ∷ rest) × IsEntry own d.step.turn d.step.then_at entry × GoesOn d.step.turn d.step.then_at

  entry_of_turn : (binds : Bool) (d : Due) (rest : List PlanEntry) → IsOf own binds d → d.is_blocked ≡ false → is_transfers d.step.turn ≡ false → HasEntry d (entries_of of d ++ rest) rest
  entry_of_turn binds d rest (of_program program next is) free plain = subst (λ (x : Due). HasEntry x (entries_of of x ++ rest) rest) (sym is) (_, refl, refl, tt)
  entry_of_turn binds d rest (of_bindings may is) free plain =
      let so : is_transfers d.step.turn ≡ true = ap (λ (x : Due). is_transfers x.step.turn) is in absurd (cc (so, plain))
  entry_of_turn binds d rest (of_standing h stage same early stands is) free plain =
      let open_now : nat_lt 0 h.blocks ≡ false = sym (ap (λ (x : Due). x.is_blocked) is) ∙ free in
      subst (λ (x : Due). HasEntry x (entries_of of x ++ rest) rest) (sym is) (
        handler h.number,
        ap (λ n. entries_due w (handler n ∷ rest)) same
            ∙ ap (λ o. cond (is_passed_over o) (entries_due w rest) (handler h.number ∷ rest)) stands
            ∙ ap (λ b. cond b (entries_due w rest) (handler h.number ∷ rest)) open_now,
        record { from = h; stands = stands; is_free = open_now; has_turn = refl; has_entry = refl },
        early,
      )

  -- the bindings' turn has their transfers first
  transfers_first : (binds : Bool) (d : Due) (rest : List PlanEntry) → IsOf own binds d → is_transfers d.step.turn ≡ true → (entries_of of d ++ rest ≡ of ++ rest) × (d.step.then_at ≡ stages.Before 0)
  transfers_first binds d rest (of_program program next is) so = let plain : is_transfers d.step.turn ≡ false = ap (λ (x : Due). is_transfers x.step.turn) is in absurd (cc (so, plain))
  transfers_first binds d rest (of_bindings may is) so = (ap (λ (x : Due). entries_of of x ++ rest) is, ap (λ (x : Due). x.step.then_at) is)
  transfers_first binds d rest (of_standing h stage same early stands is) so = let plain : is_transfers d.step.turn ≡ false = ap (λ (x : Due). is_transfers x.step.turn) is in absurd (cc (so, plain))

  never_bound : (d : Due) → IsOf own false d → is_transfers d.step.turn ≡ false
  never_bound d (of_program program next is) = ap (λ (x : Due). is_transfers x.step.turn) is
  never_bound d (of_bindings never is) = absurd (cc never)
  never_bound d (of_standing h stage same early stands is) = ap (λ (x : Due). is_transfers x.step.turn) is

-- ** where the bindings had their turn

-- turns of programs have the same entries whatever the transfers are
class_plain : (of : List PlanEntry) (runs : Bool) (program : Option ℕ) (next : Stage) → entries of (of_class runs program next) ≡ entries [] (of_class runs program next)
class_plain of runs None next = refl
class_plain of true (Some program) next = refl
class_plain of false (Some program) next = refl

handlers_plain : (of : List PlanEntry) (stage : ℕ → Stage) (hs : List Handler) → entries of (map (of_handler stage) hs) ≡ entries [] (map (of_handler stage) hs)
handlers_plain of stage [] = refl
handlers_plain of stage (h ∷ hs) = ap (λ (l : List PlanEntry). handler (number_at (stage h.number)) ∷ l) (handlers_plain of stage hs)

both_plain : (of : List PlanEntry) (xs ys : List Due) → entries of xs ≡ entries [] xs → entries of ys ≡ entries [] ys → entries of (xs ++ ys) ≡ entries [] (xs ++ ys)
both_plain of xs ys first later = both_entries of xs ys ∙ ap (λ l. l ++ entries of ys) first ∙ ap (λ l. entries [] xs ++ l) later ∙ sym (both_entries [] xs ys)

module _ (of : List PlanEntry) (w : Walk) (hs : List Handler) where
  after_plain : (given : ℕ) → entries of (from_after given w hs) ≡ entries [] (from_after given w hs)
  after_plain given =
      both_plain of (of_handlers w given true stages.After hs) (from_cleanup w) (handlers_plain of stages.After (filter (is_ahead w given true) hs)) (class_plain of (has_flags 4 w.flags) w.class_program stages.Over)

  last_plain : entries of (from_last w hs) ≡ entries [] (from_last w hs)
  last_plain = both_plain of (of_class (has_flags 2 w.flags) w.class_program (stages.After 0)) (from_after 0 w hs) (class_plain of (has_flags 2 w.flags) w.class_program (stages.After 0)) (after_plain 0)

  before_plain : (given : ℕ) → entries of (from_before given w hs) ≡ entries [] (from_before given w hs)
  before_plain given = both_plain of (of_handlers w given false stages.Before hs) (from_last w hs) (handlers_plain of stages.Before (filter (is_ahead w given false) hs)) last_plain

-- ** the next turn

module _ (v : World) (last : ℕ) (rises : Numbered 0 v.handlers last) (w : Walk) where
  abbrev at_turn : Due → Walk
  at_turn d = record w { stage = d.step.then_at }

  abbrev pub IsNext : Due → Type 0
  IsNext d = free_first (to_come w v.handlers) ≡ Some d

  stands : AllStand v.handlers v.handlers
  stands = all_stand 0 v.handlers last rises

  goes_on : (d : Due) → IsNext d → to_come (at_turn d) v.handlers ≡ after_next (to_come w v.handlers)
  goes_on d next = turns_go_on w v.handlers last rises d.step (ap (λ (o : Option Due). option_map (λ (x : Due). x.step) o) next)

  -- an emission that has a turn left is not over
  pub not_over : (d : Due) → IsNext d → is_over w.stage ≡ false
  not_over d next = by w.stage next
    where
      by : (stage : Stage) → free_first (turns_from stage w v.handlers) ≡ Some d → is_over stage ≡ false
      by stages.First e = refl
      by stages.Transfers e = refl
      by (stages.Before given) e = refl
      by stages.Last e = refl
      by (stages.After given) e = refl
      by stages.Cleanup e = refl
      by stages.Over e = absurd (cc e)

  module _ (of : List PlanEntry) where
    -- without a turn nothing is left
    pub ends_so : free_first (to_come w v.handlers) ≡ None → entries_due v (entries of (to_come w v.handlers)) ≡ []
    ends_so none = none_left v of true (to_come w v.handlers) (sorted_from v.handlers w stands w.stage) none

    module _ (d : Due) (next : IsNext d) where
      first : First v of true (to_come w v.handlers) d
      first = first_of v of true (to_come w v.handlers) d (sorted_from v.handlers w stands w.stage) next

      -- a program's turn
      pub program_first : is_transfers d.step.turn ≡ false → HasEntry v of d (entries of (to_come w v.handlers)) (entries of (to_come (at_turn d) v.handlers))
      program_first plain =
          let f = first in
          let here = entry_of_turn v of true d (entries of (after_next (to_come w v.handlers))) f.of_sort f.free plain in
          (here.0, f.left ∙ here.1 ∙ ap (λ (dues : List Due). here.0 ∷ entries of dues) (sym (goes_on d next)), here.2, here.3)

      -- the bindings' turn
      pub bindings_first : is_transfers d.step.turn ≡ true
          → (d.step.then_at ≡ stages.Before 0) × (entries_due v (entries of (to_come w v.handlers)) ≡ entries_due v (of ++ entries [] (to_come (at_turn d) v.handlers)))
      bindings_first so =
          let f = first in
          let here = transfers_first v of true d (entries of (after_next (to_come w v.handlers))) f.of_sort so in
          let plain : entries of (to_come (at_turn d) v.handlers) ≡ entries [] (to_come (at_turn d) v.handlers) =
          subst (λ (stage : Stage). entries of (turns_from stage (record w { stage = stage }) v.handlers) ≡ entries [] (turns_from stage (record w { stage = stage }) v.handlers)) (sym here.1)
          (before_plain of (record w { stage = stages.Before 0 }) v.handlers 0) in (
            here.1,
            f.left ∙ ap (entries_due v) here.0
                ∙ ap (λ (dues : List Due). entries_due v (of ++ entries of dues)) (sym (goes_on d next))
                ∙ ap (λ (l : List PlanEntry). entries_due v (of ++ l)) plain,
          )

  -- behind the bindings' turn all turns are of programs
  pub plain_behind : w.stage ≡ stages.Before 0 → (d : Due) → IsNext d → is_transfers d.step.turn ≡ false
  plain_behind behind d next =
      let at : turns_from w.stage w v.handlers ≡ from_before 0 w v.handlers = ap (λ (stage : Stage). turns_from stage w v.handlers) behind in
      let found = first_of v [] false (from_before 0 w v.handlers) d (before_sorted v.handlers w stands 0) (sym (ap (λ (dues : List Due). free_first dues) at) ∙ next) in
      never_bound v [] d found.of_sort
