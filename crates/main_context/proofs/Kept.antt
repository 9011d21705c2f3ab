-- What a context keeps, through each change.
use Rattle.std.proofs.Common.{◌≡◌, ℕ, ◌<◌, ◌+◌, pos, Bool, true, false, cond, List, [], ◌∷◌, ◌++◌, length, option_map, option_and_then, Option, None, Some, refl, sym, ap, subst, ◌∙◌, inl, inr}
use Rattle.std.specs.List.{find}
use Rattle.std.proofs.lemmas.Bool.{cases_Bool}
use Rattle.std.proofs.lemmas.Option.{none-some}
use Rattle.ui_machine.specs.State.Sources.{Source, due_after, is_numbered, runs_program, source_of, without_first, without_source}
use Rattle.ui_machine.specs.Rules.MainLoop.{rescheduled}
use Rattle.main_context.specs.Attached.{IsKept}
use Rattle.main_context.specs.Order.{AreInOrder, RisesFrom}
use Rattle.main_context.specs.Places.{IsAscending, IsThere, has_rank, idle_rank, index_from, place_by, program_place, program_rank, ranked, timeout_rank, with_any, with_place, without_any, without_place}
use Rattle.main_context.specs.declared.places.Place.{Place}
use Rattle.main_context.proofs.First.{without_none}
use Rattle.main_context.proofs.Order.{in_order_again, in_order_more, in_order_without, restarted, same_number}
use Rattle.main_context.proofs.PlaceOrder.{place}
use Rattle.main_context.proofs.Ranked.{ascending, first_by_number, first_of_program, place_taken, place_there, ranked_more, ranked_restarted, ranked_same, ranked_without}

-- ** one source more or less

pub kept_more : (s : Source) (l : List Source) (programs idles timeouts : List Place) (last : ℕ) → s.number ≡ last + 1 → length l < 256 → IsKept l programs idles timeouts last
    → IsKept (l ++ s ∷ []) (with_place (program_place s) programs) (with_any (place_by idle_rank s) idles) (with_any (place_by timeout_rank s) timeouts) (last + 1)
kept_more s l programs idles timeouts last next room kept = record {
  order = in_order_more s l last next room kept.order;
  by_program = ap (with_place (program_place s)) kept.by_program ∙ sym (ranked_more program_rank s l);
  by_priority = ap (with_any (place_by idle_rank s)) kept.by_priority ∙ sym (ranked_more idle_rank s l);
  by_due = ap (with_any (place_by timeout_rank s)) kept.by_due ∙ sym (ranked_more timeout_rank s l);
}

pub kept_less : (number : ℕ) (s : Source) (l : List Source) (programs idles timeouts : List Place) (last : ℕ) → source_of number l ≡ Some s → IsKept l programs idles timeouts last
    → IsKept (without_source number l) (without_place (program_place s) programs) (without_any (place_by idle_rank s) idles) (without_any (place_by timeout_rank s) timeouts) last
kept_less number s l programs idles timeouts last found kept = record {
  order = in_order_without (is_numbered number) l last kept.order;
  by_program = place_taken program_rank (is_numbered number) s l programs found kept.by_program;
  by_priority = place_taken idle_rank (is_numbered number) s l idles found kept.by_priority;
  by_due = place_taken timeout_rank (is_numbered number) s l timeouts found kept.by_due;
}

pub kept_none : (number : ℕ) (l : List Source) (programs idles timeouts : List Place) (last : ℕ) → source_of number l ≡ None → IsKept l programs idles timeouts last
    → IsKept (without_source number l) programs idles timeouts last
kept_none number l programs idles timeouts last none kept = subst (λ m. IsKept m programs idles timeouts last) (sym (without_none (is_numbered number) l none)) kept

-- ** a source that is due anew

module _ (moment number : ℕ) where
  same_program : (s : Source) → program_rank (restarted moment number s) ≡ program_rank s
  same_program s = by (is_numbered number s)
    where
      by : (b : Bool) → program_rank (cond b (record s { due = due_after moment s.interval }) s) ≡ program_rank s
      by true = refl
      by false = refl

  same_priority : (s : Source) → idle_rank (restarted moment number s) ≡ idle_rank s
  same_priority s = by (is_numbered number s)
    where
      by : (b : Bool) → idle_rank (cond b (record s { due = due_after moment s.interval }) s) ≡ idle_rank s
      by true = refl
      by false = refl

  -- the place among the timeouts of the source of the number
  abbrev pub timeout_place : List Source → Option Place
  timeout_place l = option_and_then (place_by timeout_rank) (source_of number l)

  restarted_found : (l : List Source) → source_of number (rescheduled moment number l) ≡ option_map (restarted moment number) (source_of number l)
  restarted_found [] = refl
  restarted_found (x ∷ l) = elim (cases_Bool (is_numbered number x)) [
    | inl e ↦ simp e refl
    | inr e ↦ simp e (restarted_found l)
  ]

  unchanged : (l : List Source) → source_of number l ≡ None → rescheduled moment number l ≡ l
  unchanged [] h = refl
  unchanged (x ∷ l) h = elim (cases_Bool (is_numbered number x)) [
    | inl e ↦ let found = simp e at h in cc
    | inr e ↦ let none = simp e at h in rw e (ap (λ m. x ∷ m) (unchanged l none))
  ]

  idle_again : (s : Source) → place_by timeout_rank s ≡ None → place_by timeout_rank (restarted moment number s) ≡ None
  idle_again s h = by (is_numbered number s) s.interval refl h
    where
      of : (interval : Option ℕ) → option_map (λ r. place r s.number) (timeout_rank (record s { interval = interval })) ≡ None
          → option_map (λ r. place r s.number) (timeout_rank (record s { interval = interval; due = due_after moment interval })) ≡ None
      of None h = refl
      of (Some i) h = cc

      by : (b : Bool) (interval : Option ℕ) → s.interval ≡ interval → place_by timeout_rank s ≡ None → place_by timeout_rank (cond b (record s { due = due_after moment s.interval }) s) ≡ None
      by true interval e h = of s.interval h
      by false interval e h = h

  -- where the number is of no timeout, the timeouts stay
  pub stays : (l : List Source) → RisesFrom 0 l → timeout_place l ≡ None → ranked timeout_rank (rescheduled moment number l) ≡ ranked timeout_rank l
  stays l rises h = by (source_of number l) refl h
    where
      by : (o : Option Source) → source_of number l ≡ o → option_and_then (place_by timeout_rank) o ≡ None → ranked timeout_rank (rescheduled moment number l) ≡ ranked timeout_rank l
      by None e h = ap (ranked timeout_rank) (unchanged l e)
      by (Some s) e h =
          ranked_restarted timeout_rank moment number 0 s l rises e
          ∙ ap (λ o. with_any o (ranked timeout_rank (without_source number l))) (idle_again s h ∙ sym h)
          ∙ sym (ranked_without timeout_rank (is_numbered number) s l e)

  -- otherwise its place is moved
  pub record Moves (before : Place) (l : List Source) (timeouts : List Place) : Type 0 where
    pub there : index_from before timeouts < length timeouts
    pub left : IsAscending (without_place before timeouts)
    pub moved : with_any (timeout_place (rescheduled moment number l)) (without_place before timeouts) ≡ ranked timeout_rank (rescheduled moment number l)

  pub moves : (before : Place) (l : List Source) (timeouts : List Place) → RisesFrom 0 l → timeouts ≡ ranked timeout_rank l → timeout_place l ≡ Some before → Moves before l timeouts
  moves before l timeouts rises are h = by (source_of number l) refl h
    where
      by : (o : Option Source) → source_of number l ≡ o → option_and_then (place_by timeout_rank) o ≡ Some before → Moves before l timeouts
      by None e h = absurd (none-some _ h)
      by (Some s) e h =
          let taken = ap (λ o. without_any o timeouts) (sym h) ∙ place_taken timeout_rank (is_numbered number) s l timeouts e are in
          record {
            there = subst (λ o. IsThere o timeouts) h (place_there timeout_rank (is_numbered number) s l timeouts e are);
            left = subst IsAscending (sym taken) (ascending timeout_rank (without_source number l));
            moved =
                ap (λ o. with_any (option_and_then (place_by timeout_rank) o) (without_place before timeouts)) (restarted_found l ∙ ap (option_map (restarted moment number)) e)
                ∙ ap (with_any (place_by timeout_rank (restarted moment number s))) taken
                ∙ sym (ranked_restarted timeout_rank moment number 0 s l rises e);
          }

  pub kept_again : (l : List Source) (programs idles timeouts others : List Place) (last : ℕ) → IsKept l programs idles timeouts last → others ≡ ranked timeout_rank (rescheduled moment number l)
      → IsKept (rescheduled moment number l) programs idles others last
  kept_again l programs idles timeouts others last kept due = record {
    order = in_order_again moment number l last kept.order;
    by_program = kept.by_program ∙ sym (ranked_same program_rank (restarted moment number) same_program (same_number moment number) l);
    by_priority = kept.by_priority ∙ sym (ranked_same idle_rank (restarted moment number) same_priority (same_number moment number) l);
    by_due = due;
  }

-- ** the first of a program

-- the first source of a program, found by its number
pub record IsFirstOf (program number : ℕ) (l : List Source) : Type 0 where
  pub source : Source
  pub found : find (runs_program program) l ≡ Some source
  pub numbered : source_of number l ≡ Some source
  pub left : without_source number l ≡ without_first (runs_program program) l

mapped_none : {A B : Type 0} (f : A → B) (o : Option A) → None ≡ option_map f o → o ≡ None
mapped_none f None h = refl
mapped_none f (Some a) h = absurd (none-some _ h)

mapped_some : {A B : Type 0} (f : A → B) (o : Option A) (b : B) → Some b ≡ option_map f o → (a : A) × (o ≡ Some a) × (f a ≡ b)
mapped_some f None b h = absurd (none-some _ (sym h))
mapped_some f (Some a) b h = (a, refl, cc)

first_number : (program : ℕ) (l : List Source) (programs : List Place) → RisesFrom 0 l → programs ≡ ranked program_rank l
    → option_map (λ (q : Place). q.number) (find (has_rank (pos program)) programs) ≡ option_map (λ (s : Source). s.number) (find (runs_program program) l)
first_number program l programs rising are =
    ap (λ m. option_map (λ (q : Place). q.number) (find (has_rank (pos program)) m)) are ∙ first_of_program program 0 l rising

pub no_first : (program : ℕ) (l : List Source) (programs : List Place) → RisesFrom 0 l → programs ≡ ranked program_rank l
    → None ≡ option_map (λ (q : Place). q.number) (find (has_rank (pos program)) programs) → find (runs_program program) l ≡ None
no_first program l programs rising are none = mapped_none (λ (s : Source). s.number) (find (runs_program program) l) (none ∙ first_number program l programs rising are)

pub first : (program number : ℕ) (l : List Source) (programs : List Place) → RisesFrom 0 l → programs ≡ ranked program_rank l
    → Some number ≡ option_map (λ (q : Place). q.number) (find (has_rank (pos program)) programs) → IsFirstOf program number l
first program number l programs rising are some =
    let here = mapped_some (λ (s : Source). s.number) (find (runs_program program) l) number (some ∙ first_number program l programs rising are) in
    let by = first_by_number (runs_program program) 0 l here.0 rising here.1 in
    record {
      source = here.0;
      found = here.1;
      numbered = ap (λ n. source_of n l) (sym here.2) ∙ by.found;
      left = ap (λ n. without_source n l) (sym here.2) ∙ by.left;
    }
