-- The next turn of a program, and the entries from the first one on that is not passed over.
use Rattle.std.proofs.Common.{◌≡◌, ◌∙◌, refl, sym, ap, subst, ℕ, ◌<◌, ◌++◌, Bool, true, false, cond, not, map, nat_eq, nat_lt, List, [], ◌∷◌, Option, None, Some, option_map, arith}
use Rattle.std.specs.List.{filter, find, flat_map}
use Rattle.std.proofs.lemmas.Bool.Decides.{nat_tests}
use Rattle.ui_machine.specs.Definition.Properties.{has_flags}
use Rattle.ui_machine.specs.State.Handlers.{Handler, handler_of}
use Rattle.ui_machine.specs.State.Tasks.{PlanEntry, handler}
use Rattle.signal_core.specs.Connected.{Numbered}
use Rattle.signal_core.specs.Emission.{Due, Walk, due, first_step, from_after, from_before, from_cleanup, from_first, from_last, from_transfers, is_ahead, is_transfers, next_step, of_class, of_handler, of_handlers, past, stage_after, to_come, turns_from}
use Rattle.signal_core.specs.Laws.{IsEntry, IsToldBy, TurnsTell, after_next, entries_left, entries_of, is_passed_over, number_at}
use Rattle.signal_core.specs.declared.stage.Stage.{Stage}
use Rattle.signal_core.specs.declared.stage.Stage.TheVariants as stages
use Rattle.signal_core.specs.declared.step.Step.{Step}
use Rattle.signal_core.specs.declared.turn.Turn.{Turn}
use Rattle.signal_core.specs.declared.turn.Turn.TheVariants as turns
use Rattle.signal_core.proofs.GoingOn.{turns_go_on}
use Rattle.signal_core.proofs.Numbers.{numbered_lower}

-- ** handlers that are connected

-- each of these is under its number
abbrev AllStand : List Handler → List Handler → Type 0
AllStand hs [] = Unit {0}
AllStand hs (x ∷ xs) = (handler_of x.number hs ≡ Some x) × AllStand hs xs

other_number : (n m : ℕ) → n < m → nat_eq n m ≡ false
other_number n m less = grind (arith, nat_tests)

own_number : (n : ℕ) → nat_eq n n ≡ true
own_number n = grind (arith, nat_tests)

stand_behind : (h : Handler) (hs xs : List Handler) (last : ℕ) → Numbered h.number xs last → AllStand hs xs → AllStand (h ∷ hs) xs
stand_behind h hs [] last n s = tt
stand_behind h hs (x ∷ xs) last n s = (
  ap (λ b. cond b (Some h) (handler_of x.number hs)) (other_number h.number x.number n.0) ∙ s.0,
  stand_behind h hs xs last (numbered_lower h.number x.number xs last (omega (arith, n.0)) n.1) s.1,
)

pub all_stand : (above : ℕ) (hs : List Handler) (last : ℕ) → Numbered above hs last → AllStand hs hs
all_stand above [] last n = tt
all_stand above (h ∷ hs) last n = (
  ap (λ b. cond b (Some h) (handler_of h.number hs)) (own_number h.number),
  stand_behind h hs hs last n.1 (all_stand h.number hs last n.1),
)

-- ** what is to come

-- what a turn is that is to come; the bindings have one where that is said
data IsOf (hs : List Handler) (binds : Bool) (d : Due) : Type 0 where
  of_program : (program : ℕ) (next : Stage) → d ≡ due (turns.Class program) next → IsOf hs binds d
  of_bindings : binds ≡ true → d ≡ due turns.Transfers (stages.Before 0) → IsOf hs binds d
  of_standing : (h : Handler) (stage : ℕ → Stage) → number_at (stage h.number) ≡ h.number → handler_of h.number hs ≡ Some h → d ≡ of_handler stage h → IsOf hs binds d

abbrev Sorted : List Handler → Bool → List Due → Type 0
Sorted hs binds [] = Unit {0}
Sorted hs binds (d ∷ dues) = IsOf hs binds d × Sorted hs binds dues

-- the turns from the first one on that a program has
abbrev to_take : List Due → List Due
to_take [] = []
to_take (d ∷ dues) = cond d.is_blocked (to_take dues) (cond (is_transfers d.step.turn) (to_take dues) (d ∷ dues))

abbrev entries_in : List Due → List PlanEntry
entries_in dues = flat_map (entries_of []) dues

-- the turn of a step that is the next one
record Next (hs : List Handler) (binds : Bool) (dues : List Due) (step : Step) : Type 0 where
  turn : Due
  is : turn.step ≡ step
  of : IsOf hs binds turn
  free : turn.is_blocked ≡ false
  taken : to_take dues ≡ cond (is_transfers step.turn) (to_take (after_next dues)) (turn ∷ after_next dues)
  behind : Sorted hs binds (after_next dues)

module _ (hs : List Handler) where
  sorted_append : (binds : Bool) (xs ys : List Due) → Sorted hs binds xs → Sorted hs binds ys → Sorted hs binds (xs ++ ys)
  sorted_append binds [] ys first later = later
  sorted_append binds (d ∷ xs) ys first later = (first.0, sorted_append binds xs ys first.1 later)

  may_bind : (d : Due) → IsOf hs false d → IsOf hs true d
  may_bind d (of_program program next is) = of_program program next is
  may_bind d (of_bindings never is) = of_bindings refl is
  may_bind d (of_standing h stage same stands is) = of_standing h stage same stands is

  all_may_bind : (dues : List Due) → Sorted hs false dues → Sorted hs true dues
  all_may_bind [] s = tt
  all_may_bind (d ∷ dues) s = (may_bind d s.0, all_may_bind dues s.1)

  class_sorted : (runs : Bool) (program : Option ℕ) (next : Stage) → Sorted hs false (of_class runs program next)
  class_sorted runs None next = tt
  class_sorted true (Some program) next = (of_program program next refl, tt)
  class_sorted false (Some program) next = tt

  handlers_sorted : (stage : ℕ → Stage) → ((n : ℕ) → number_at (stage n) ≡ n) → (p : Handler → Bool) (xs : List Handler) → AllStand hs xs → Sorted hs false (map (of_handler stage) (filter p xs))
  handlers_sorted stage same p [] s = tt
  handlers_sorted stage same p (x ∷ xs) s = by (p x) (handlers_sorted stage same p xs s.1)
    where
      by : (b : Bool) → Sorted hs false (map (of_handler stage) (filter p xs)) → Sorted hs false (map (of_handler stage) (cond b (x ∷ filter p xs) (filter p xs)))
      by true rest = (of_standing x stage (same x.number) s.0 refl, rest)
      by false rest = rest

  module _ (w : Walk) (stand : AllStand hs hs) where
    cleanup_sorted : Sorted hs false (from_cleanup w)
    cleanup_sorted = class_sorted (has_flags 4 w.flags) w.class_program stages.Over

    after_sorted : (given : ℕ) → Sorted hs false (from_after given w hs)
    after_sorted given = sorted_append false (of_handlers w given true stages.After hs) (from_cleanup w) (handlers_sorted stages.After (λ n. refl) (is_ahead w given true) hs stand) cleanup_sorted

    last_sorted : Sorted hs false (from_last w hs)
    last_sorted = sorted_append false (of_class (has_flags 2 w.flags) w.class_program (stages.After 0)) (from_after 0 w hs) (class_sorted (has_flags 2 w.flags) w.class_program (stages.After 0)) (after_sorted 0)

    before_sorted : (given : ℕ) → Sorted hs false (from_before given w hs)
    before_sorted given = sorted_append false (of_handlers w given false stages.Before hs) (from_last w hs) (handlers_sorted stages.Before (λ n. refl) (is_ahead w given false) hs stand) last_sorted

    transfers_sorted : Sorted hs true (from_transfers w hs)
    transfers_sorted = by (nat_eq w.signal 0) (all_may_bind (from_before 0 w hs) (before_sorted 0))
      where
        by : (b : Bool) → Sorted hs true (from_before 0 w hs) → Sorted hs true (cond b (due turns.Transfers (stages.Before 0) ∷ []) [] ++ from_before 0 w hs)
        by true rest = (of_bindings refl refl, rest)
        by false rest = rest

    first_sorted : Sorted hs true (from_first w hs)
    first_sorted =
        sorted_append true (of_class (has_flags 1 w.flags) w.class_program stages.Transfers) (from_transfers w hs)
        (all_may_bind (of_class (has_flags 1 w.flags) w.class_program stages.Transfers) (class_sorted (has_flags 1 w.flags) w.class_program stages.Transfers)) transfers_sorted

    sorted_from : (stage : Stage) → Sorted hs true (turns_from stage w hs)
    sorted_from stages.First = first_sorted
    sorted_from stages.Transfers = transfers_sorted
    sorted_from (stages.Before given) = all_may_bind (from_before given w hs) (before_sorted given)
    sorted_from stages.Last = all_may_bind (from_last w hs) last_sorted
    sorted_from (stages.After given) = all_may_bind (from_after given w hs) (after_sorted given)
    sorted_from stages.Cleanup = all_may_bind (from_cleanup w) cleanup_sorted
    sorted_from stages.Over = tt

  -- ** what is passed over

  left_one : (binds : Bool) (d : Due) (dues : List Due) → IsOf hs binds d → entries_left hs (entries_in dues) ≡ entries_in (to_take dues)
      → entries_left hs (entries_in (d ∷ dues)) ≡ entries_in (to_take (d ∷ dues))
  left_one binds d dues (of_program program next is) rest = subst (λ (x : Due). entries_left hs (entries_in (x ∷ dues)) ≡ entries_in (to_take (x ∷ dues))) (sym is) refl
  left_one binds d dues (of_bindings may is) rest = subst (λ (x : Due). entries_left hs (entries_in (x ∷ dues)) ≡ entries_in (to_take (x ∷ dues))) (sym is) rest
  left_one binds d dues (of_standing h stage same stands is) rest =
      subst (λ (x : Due). entries_left hs (entries_in (x ∷ dues)) ≡ entries_in (to_take (x ∷ dues))) (sym is)
      (ap (λ n. entries_left hs (handler n ∷ entries_in dues)) same
      ∙ ap (λ o. cond (is_passed_over o) (entries_left hs (entries_in dues)) (handler h.number ∷ entries_in dues)) stands
      ∙ by (nat_lt 0 h.blocks) rest)
    where
      by : (b : Bool) → entries_left hs (entries_in dues) ≡ entries_in (to_take dues)
          → cond b (entries_left hs (entries_in dues)) (handler h.number ∷ entries_in dues) ≡ entries_in (cond b (to_take dues) (of_handler stage h ∷ dues))
      by true rest = rest
      by false rest = ap (λ n. handler n ∷ entries_in dues) (sym same)

  left_taken : (binds : Bool) (dues : List Due) → Sorted hs binds dues → entries_left hs (entries_in dues) ≡ entries_in (to_take dues)
  left_taken binds [] s = refl
  left_taken binds (d ∷ dues) s = left_one binds d dues s.0 (left_taken binds dues s.1)

  -- without a step all are blocked
  none_taken : (dues : List Due) → first_step dues ≡ None → to_take dues ≡ []
  none_taken [] none = refl
  none_taken (d ∷ dues) none = by d.is_blocked none (λ later. none_taken dues later)
    where
      by : (b : Bool) → option_map (λ (x : Due). x.step) (cond (not b) (Some d) (find (λ (x : Due). not x.is_blocked) dues)) ≡ None → (first_step dues ≡ None → to_take dues ≡ [])
          → cond b (to_take dues) (cond (is_transfers d.step.turn) (to_take dues) (d ∷ dues)) ≡ []
      by true e rec = rec e
      by false e rec = absurd (cc)

  next_of : (binds : Bool) (dues : List Due) (step : Step) → Sorted hs binds dues → first_step dues ≡ Some step → Next hs binds dues step
  next_of binds [] step s e = absurd (cc)
  next_of binds (d ∷ dues) step s e = by d.is_blocked refl e (λ later. next_of binds dues step s.1 later)
    where
      by : (b : Bool) → d.is_blocked ≡ b → option_map (λ (x : Due). x.step) (cond (not b) (Some d) (find (λ (x : Due). not x.is_blocked) dues)) ≡ Some step
          → (first_step dues ≡ Some step → Next hs binds dues step) → Next hs binds (d ∷ dues) step
      by true blocked e rec =
          let n = rec e in
          record {
            turn = n.turn;
            is = n.is;
            of = n.of;
            free = n.free;
            taken = rw blocked n.taken;
            behind = rw blocked n.behind;
          }
      by false blocked e rec =
          let same : d.step ≡ step = cc in
          record { turn = d; is = same; of = s.0; free = blocked; taken = rw (blocked, same) refl; behind = rw blocked s.1 }

  -- a program's step has its entry first
  entry_of_step : (binds : Bool) (d : Due) (rest : List PlanEntry) → IsOf hs binds d → d.is_blocked ≡ false → is_transfers d.step.turn ≡ false
      → (entry : PlanEntry) × (entries_of [] d ++ rest ≡ entry ∷ rest) × IsEntry hs d.step.turn d.step.then_at entry
  entry_of_step binds d rest (of_program program next is) free plain =
      subst (λ (x : Due). (entry : PlanEntry) × (entries_of [] x ++ rest ≡ entry ∷ rest) × IsEntry hs x.step.turn x.step.then_at entry) (sym is) (_, refl, refl)
  entry_of_step binds d rest (of_bindings may is) free plain =
      let so : is_transfers d.step.turn ≡ true = ap (λ (x : Due). is_transfers x.step.turn) is in absurd (cc (so, plain))
  entry_of_step binds d rest (of_standing h stage same stands is) free plain =
      let open_now : nat_lt 0 h.blocks ≡ false = sym (ap (λ (x : Due). x.is_blocked) is) ∙ free in
      subst (λ (x : Due). (entry : PlanEntry) × (entries_of [] x ++ rest ≡ entry ∷ rest) × IsEntry hs x.step.turn x.step.then_at entry) (sym is)
      (handler h.number, ap (λ n. handler n ∷ rest) same, record { from = h; stands = stands; is_free = open_now; has_turn = refl; has_entry = refl })

  no_bindings : (d : Due) → IsOf hs false d → is_transfers d.step.turn ≡ false
  no_bindings d (of_program program next is) = ap (λ (x : Due). is_transfers x.step.turn) is
  no_bindings d (of_bindings never is) = absurd (cc)
  no_bindings d (of_standing h stage same stands is) = ap (λ (x : Due). is_transfers x.step.turn) is

  -- those of the bindings go on to the handlers
  then_before : (binds : Bool) (d : Due) → IsOf hs binds d → is_transfers d.step.turn ≡ true → d.step.then_at ≡ stages.Before 0
  then_before binds d (of_program program next is) so = let not_so : is_transfers d.step.turn ≡ false = ap (λ (x : Due). is_transfers x.step.turn) is in absurd (cc (so, not_so))
  then_before binds d (of_bindings may is) so = ap (λ (x : Due). x.step.then_at) is
  then_before binds d (of_standing h stage same stands is) so = let not_so : is_transfers d.step.turn ≡ false = ap (λ (x : Due). is_transfers x.step.turn) is in absurd (cc (so, not_so))

  -- ** the turn of a program

  module _ (last : ℕ) (n : Numbered 0 hs last) where
    turn_of : Walk → Option Turn
    turn_of w = option_map (λ (s : Step). s.turn) (next_step w hs)

    -- where the next step is a program's
    plain_tells : (w : Walk) (binds : Bool) → Sorted hs binds (to_come w hs) → (o : Option Step) → next_step w hs ≡ o → ((step : Step) → o ≡ Some step → is_transfers step.turn ≡ false)
        → IsToldBy (option_map (λ (s : Step). s.turn) o) (record w { stage = stage_after o }) hs (entries_left hs (entries_in (to_come w hs)))
    plain_tells w binds s None none plain = left_taken binds (to_come w hs) s ∙ ap entries_in (none_taken (to_come w hs) none)
    plain_tells w binds s (Some step) some plain =
        let next = next_of binds (to_come w hs) step s some in
        let own = plain step refl in
        let on : to_come (record w { stage = step.then_at }) hs ≡ after_next (to_come w hs) = turns_go_on w hs last n step some in
        let taken : to_take (to_come w hs) ≡ next.turn ∷ after_next (to_come w hs) =
        next.taken ∙ ap (λ b. cond b (to_take (after_next (to_come w hs))) (next.turn ∷ after_next (to_come w hs))) own in
        let e = entry_of_step binds next.turn (entries_in (after_next (to_come w hs))) next.of next.free (ap (λ (x : Step). is_transfers x.turn) next.is ∙ own) in (
          e.0,
          left_taken binds (to_come w hs) s ∙ ap entries_in taken ∙ e.1 ∙ ap (λ (dues : List Due). e.0 ∷ entries_in dues) (sym on),
          subst (λ (x : Step). IsEntry hs x.turn x.then_at e.0) next.is e.2,
        )

    -- where it is the bindings', and a program's comes behind it
    behind_tells : (w : Walk) (step : Step) → next_step w hs ≡ Some step → is_transfers step.turn ≡ true → AllStand hs hs
        → IsToldBy (turn_of (record w { stage = step.then_at })) (record w { stage = stage_after (next_step (record w { stage = step.then_at }) hs) }) hs (entries_left hs (entries_in (to_come w hs)))
    unfolding turn_of
    behind_tells w step some so stand =
        let all = sorted_from w stand w.stage in
        let next = next_of true (to_come w hs) step all some in
        let u : Walk = record w { stage = step.then_at } in
        let on : to_come u hs ≡ after_next (to_come w hs) = turns_go_on w hs last n step some in
        let before : step.then_at ≡ stages.Before 0 =
        sym (ap (λ (x : Step). x.then_at) next.is) ∙ then_before true next.turn next.of (ap (λ (x : Step). is_transfers x.turn) next.is ∙ so) in
        let sorted : Sorted hs false (to_come u hs) = subst (λ (at : Stage). Sorted hs false (turns_from at (record w { stage = at }) hs)) (sym before) (before_sorted (record w { stage = stages.Before 0 }) stand 0) in
        let taken : to_take (to_come w hs) ≡ to_take (after_next (to_come w hs)) =
        next.taken ∙ ap (λ b. cond b (to_take (after_next (to_come w hs))) (next.turn ∷ after_next (to_come w hs))) so in
        let same : entries_left hs (entries_in (to_come w hs)) ≡ entries_left hs (entries_in (to_come u hs)) =
        left_taken true (to_come w hs) all ∙ ap entries_in taken ∙ ap (λ (dues : List Due). entries_in (to_take dues)) (sym on) ∙ sym (left_taken false (to_come u hs) sorted) in
        subst (λ (entries : List PlanEntry). IsToldBy (turn_of u) (record w { stage = stage_after (next_step u hs) }) hs entries) (sym same)
        (plain_tells u false sorted (next_step u hs) refl (λ later e.
        let found = next_of false (to_come u hs) later sorted e in
        sym (ap (λ (x : Step). is_transfers x.turn) found.is) ∙ no_bindings found.turn found.of))

    tells : (w : Walk) → AllStand hs hs → IsToldBy (turn_of (past w (next_step w hs))) (record w { stage = stage_after (next_step (past w (next_step w hs)) hs) }) hs (entries_left hs (entries_in (to_come w hs)))
    unfolding turn_of
    tells w stand = by (next_step w hs) refl
      where
        Told : Walk → Type 0
        Told = λ v. IsToldBy (option_map (λ (s : Step). s.turn) (next_step v hs)) (record w { stage = stage_after (next_step v hs) }) hs (entries_left hs (entries_in (to_come w hs)))

        plainly : (o : Option Step) → next_step w hs ≡ o → ((step : Step) → o ≡ Some step → is_transfers step.turn ≡ false) → Told w
        plainly o is plain =
            subst (λ (x : Option Step). IsToldBy (option_map (λ (s : Step). s.turn) x) (record w { stage = stage_after x }) hs (entries_left hs (entries_in (to_come w hs)))) (sym is)
            (plain_tells w true (sorted_from w stand w.stage) o is plain)

        on : (step : Step) → next_step w hs ≡ Some step → (b : Bool) → is_transfers step.turn ≡ b → Told (cond b (record w { stage = step.then_at }) w)
        on step some true so = behind_tells w step some so stand
        on step some false not_so = plainly (Some step) some (λ other e. let same : step ≡ other = cc in subst (λ (x : Step). is_transfers x.turn ≡ false) same not_so)

        by : (o : Option Step) → next_step w hs ≡ o → Told (past w o)
        by None none = plainly None none (λ other e. absurd (cc))
        by (Some step) some = on step some (is_transfers step.turn) refl

pub turns_tell : TurnsTell
unfolding turn_of
turns_tell w hs last n = tells hs last n w (all_stand 0 hs last n)
