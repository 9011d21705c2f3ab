-- Sources of rising numbers: what attaching and removing one keeps, and what a search by halves finds.
use Rattle.std.proofs.Common.{◌≡◌, ℕ, zero, suc, ◌+◌, ◌<◌, ◌≤◌, Bool, true, false, cond, not, nat_eq, nat_lt, List, [], ◌∷◌, ◌++◌, length, get_or, slice_set, pos, Option, None, Some, Result, Ok, Err, refl, sym, ap, subst, ◌∙◌, arith, position, length-append, inl, inr, ◌⊎◌}
use Rattle.std.specs.List.{AllByRecursion, position_or_len}
use Rattle.std.specs.List.Sorted.{IsSearchInRange, IsBinarySearchResult, IsNonDecreasingBy}
use Rattle.std.specs.Ordering.{nat_cmp, ordering_index}
use Rattle.std.proofs.lemmas.Bool.Decides.{nat_tests}
use Rattle.std.proofs.lemmas.Bool.{cases_lt}
use Rattle.std.proofs.lemmas.Cmp.{ranked}
use Rattle.std.proofs.lemmas.List.{length-map}
use Rattle.std.proofs.lemmas.Option.{none-some}
use Rattle.std.proofs.lemmas.List.Sorted.{IsNonDecreasingBy-from_default}
use Rattle.ui_machine.specs.State.Sources.{Source, due_after, is_numbered, new_source, without_first}
use Rattle.ui_machine.specs.Rules.MainLoop.{rescheduled}
use Rattle.main_context.specs.Order.{AreInOrder, RisesFrom}
use Rattle.main_context.proofs.First.{few_without_first}

-- ** what is kept

lower_rises : (below above : ℕ) (l : List Source) → below ≤ above → RisesFrom above l → RisesFrom below l
lower_rises below above [] le rises = tt
lower_rises below above (s ∷ l) le rises = (omega (arith, le, rises.0), rises.1)

-- of one source less
rises_without : (p : Source → Bool) (above : ℕ) (l : List Source) → RisesFrom above l → RisesFrom above (without_first p l)
rises_without p above [] rises = tt
rises_without p above (s ∷ l) rises = by (p s) (rises_without p s.number l rises.1)
  where
    by : (b : Bool) → RisesFrom s.number (without_first p l) → RisesFrom above (cond b l (s ∷ without_first p l))
    by true rest = lower_rises above s.number l (omega (arith, rises.0)) rises.1
    by false rest = (rises.0, rest)

given_without : (p : Source → Bool) (last : ℕ) (l : List Source) → AllByRecursion (λ s. s.number ≤ last) l → AllByRecursion (λ s. s.number ≤ last) (without_first p l)
given_without p last [] given = tt
given_without p last (s ∷ l) given = by (p s) (given_without p last l given.1)
  where
    by : (b : Bool) → AllByRecursion (λ s. s.number ≤ last) (without_first p l) → AllByRecursion (λ s. s.number ≤ last) (cond b l (s ∷ without_first p l))
    by true rest = given.1
    by false rest = (given.0, rest)

pub in_order_without : (p : Source → Bool) (l : List Source) (last : ℕ) → AreInOrder l last → AreInOrder (without_first p l) last
in_order_without p l last order = record {
  few = omega (arith, few_without_first p l, order.few);
  rising = rises_without p 0 l order.rising;
  given = given_without p last l order.given;
}

-- of one source more, which has the next number
rises_more : (s : Source) (above last : ℕ) (l : List Source) → last < s.number → above ≤ last → RisesFrom above l → AllByRecursion (λ s. s.number ≤ last) l
    → RisesFrom above (l ++ s ∷ [])
rises_more s above last [] next low rises given = (omega (arith, next, low), tt)
rises_more s above last (x ∷ l) next low rises given = (rises.0, rises_more s x.number last l next given.0 rises.1 given.1)

given_more : (s : Source) (last new : ℕ) (l : List Source) → last ≤ new → s.number ≤ new → AllByRecursion (λ s. s.number ≤ last) l
    → AllByRecursion (λ s. s.number ≤ new) (l ++ s ∷ [])
given_more s last new [] le next given = (next, tt)
given_more s last new (x ∷ l) le next given = (omega (arith, given.0, le), given_more s last new l le next given.1)

pub in_order_more : (s : Source) (l : List Source) (last : ℕ) → s.number ≡ last + 1 → length l < 256 → AreInOrder l last → AreInOrder (l ++ s ∷ []) (last + 1)
in_order_more s l last next room order = record {
  few = omega (arith, length-append l (s ∷ []), room);
  rising = rises_more s 0 last l (omega (arith, next)) (omega arith) order.rising order.given;
  given = given_more s last (last + 1) l (omega arith) (omega (arith, next)) order.given;
}

-- of a source that is due anew
module _ (moment number : ℕ) where
  abbrev pub restarted : Source → Source
  restarted s = cond (is_numbered number s) (record s { due = due_after moment s.interval }) s

  pub same_number : (s : Source) → (restarted s).number ≡ s.number
  same_number s = by (is_numbered number s)
    where
      by : (b : Bool) → (cond b (record s { due = due_after moment s.interval }) s).number ≡ s.number
      by true = refl
      by false = refl

  rises_again : (above : ℕ) (l : List Source) → RisesFrom above l → RisesFrom above (rescheduled moment number l)
  rises_again above [] rises = tt
  rises_again above (s ∷ l) rises = (
    omega (arith, rises.0, same_number s),
    subst (λ n. RisesFrom n (rescheduled moment number l)) (sym (same_number s)) (rises_again s.number l rises.1),
  )

  given_again : (last : ℕ) (l : List Source) → AllByRecursion (λ s. s.number ≤ last) l → AllByRecursion (λ s. s.number ≤ last) (rescheduled moment number l)
  given_again last [] given = tt
  given_again last (s ∷ l) given = (omega (arith, given.0, same_number s), given_again last l given.1)

  pub in_order_again : (l : List Source) (last : ℕ) → AreInOrder l last → AreInOrder (rescheduled moment number l) last
  in_order_again l last order = record {
    few = omega (arith, length-map l restarted, order.few);
    rising = rises_again 0 l order.rising;
    given = given_again last l order.given;
  }

-- ** what a search finds

abbrev pub number_found : Result ℕ ℕ → Option ℕ
number_found (Ok i) = Some i
number_found (Err i) = None

-- no source
abbrev pub nobody : Source
nobody = new_source 0 0 0 (pos 0) None None

-- the number of the source at a place
abbrev pub number_at : List Source → Source → ℕ → ℕ
number_at l d i = (get_or l i d).number

above_all : (above : ℕ) (l : List Source) (d : Source) (i : ℕ) → RisesFrom above l → i < length l → above < number_at l d i
above_all above [] d i rises small = absurd (omega (arith, small))
above_all above (s ∷ l) d zero rises small = rises.0
above_all above (s ∷ l) d (suc i) rises small = omega (arith, rises.0, above_all s.number l d i rises.1 (omega (arith, small)))

no_fall : (above : ℕ) (l : List Source) (d : Source) (i j : ℕ) → RisesFrom above l → i ≤ j → j < length l → number_at l d i ≤ number_at l d j
no_fall above [] d i j rises le small = absurd (omega (arith, small))
no_fall above (s ∷ l) d zero zero rises le small = omega arith
no_fall above (s ∷ l) d zero (suc j) rises le small = omega (arith, above_all s.number l d j rises.1 (omega (arith, small)))
no_fall above (s ∷ l) d (suc i) zero rises le small = absurd (omega (arith, le))
no_fall above (s ∷ l) d (suc i) (suc j) rises le small = no_fall s.number l d i j rises.1 (omega (arith, le)) (omega (arith, small))

-- the first of the number is where the number is
first_at : (above : ℕ) (l : List Source) (d : Source) (i k : ℕ) → RisesFrom above l → i < length l → number_at l d i ≡ k → position_or_len (is_numbered k) l ≡ i
first_at above [] d i k rises small is = absurd (omega (arith, small))
first_at above (s ∷ l) d zero k rises small is =
    let same : nat_eq s.number k ≡ true = grind (arith, nat_tests, is) in
    ap (λ b. cond (not b) (1 + position_or_len (is_numbered k) l) 0) same
first_at above (s ∷ l) d (suc i) k rises small is =
    let later = above_all s.number l d i rises.1 (omega (arith, small)) in
    let other : nat_eq s.number k ≡ false = grind (arith, nat_tests, is, later) in
    let step = ap (λ b. cond (not b) (1 + position_or_len (is_numbered k) l) 0) other in
    omega (arith, step, first_at s.number l d i k rises.1 (omega (arith, small)) is)

-- where no source has it, none is the first
first_past : (l : List Source) (d : Source) (k : ℕ) → ((i : ℕ) → i < length l → number_at l d i ≡ k → ⊥) → position_or_len (is_numbered k) l ≡ length l
first_past [] d k none = refl
first_past (s ∷ l) d k none =
    let other : nat_eq s.number k ≡ false = grind (arith, nat_tests, none 0 (omega arith)) in
    let step = ap (λ b. cond (not b) (1 + position_or_len (is_numbered k) l) 0) other in
    omega (arith, step, first_past l d k (λ i small is. none (suc i) (omega (arith, small)) is))

module _ (l : List Source) (rising : RisesFrom 0 l) (k : ℕ) where
  -- the comparisons with the number rise along the list, as a search by halves asks
  comparisons_rise : Source → IsNonDecreasingBy (λ (s : Source). ordering_index (nat_cmp s.number k)) l
  comparisons_rise d = IsNonDecreasingBy-from_default (λ (s : Source). ordering_index (nat_cmp s.number k)) l d (λ i j le small.
      let rise = no_fall 0 l d i j rising le small in
      grind (arith, nat_tests, rise))

  pub search_found : (d : Source) (i : ℕ) → i < length l → number_at l d i ≡ k → Some i ≡ position (is_numbered k) l
  search_found d i small is =
      let first = first_at 0 l d i k rising small is in
      let within : nat_lt i (length l) ≡ true = grind (arith, nat_tests, small) in
      sym (ap (λ n. cond (nat_lt n (length l)) (Some n) None) first ∙ ap (λ b. cond b (Some i) None) within)

  pub search_missed : (d : Source) → ((i : ℕ) → i < length l → number_at l d i ≡ k → ⊥) → None ≡ position (is_numbered k) l
  search_missed d none =
      let first = first_past l d k none in
      let past : nat_lt (length l) (length l) ≡ false = grind (arith, nat_tests) in
      sym (ap (λ n. cond (nat_lt n (length l)) (Some n) None) first ∙ ap (λ b. cond b (Some (length l)) None) past)

  pub searched : (d : Source) (r : Result ℕ ℕ) → IsSearchInRange r (length l) → IsBinarySearchResult (λ (s : Source). nat_cmp s.number k) l r → number_found r ≡ position (is_numbered k) l
  searched d (Ok i) in_range equal = search_found d i in_range (ranked _ k _ (sym (equal d)))
  searched d (Err at) in_range parted = search_missed d (λ i small is. elim (before_or_after i) [
    | inl before ↦ omega (arith, is, ranked _ k _ (sym ((parted (comparisons_rise d)).0 i d (omega arith) before)))
    | inr after ↦ omega (arith, is, ranked _ k _ (sym ((parted (comparisons_rise d)).1 i d after small)))
  ])
    where
      before_or_after : (i : ℕ) → (i < at) ⊎ (at ≤ i)
      before_or_after i = cases_lt i at

-- ** what a restart of one source does to the list

module _ (moment number : ℕ) where
  pub not_numbered : (l : List Source) (above : ℕ) → RisesFrom above l → number ≤ above → l ≡ rescheduled moment number l
  not_numbered [] above rises le = refl
  not_numbered (s ∷ l) above rises le =
      let other : is_numbered number s ≡ false = grind (arith, nat_tests, rises.0, le) in
      ap (λ b. cond b (record s { due = due_after moment s.interval }) s ∷ l) (sym other)
      ∙ ap (λ rest. restarted moment number s ∷ rest) (not_numbered l s.number rises.1 (omega (arith, rises.0, le)))

  pub restarted_at : (above : ℕ) (l : List Source) (i : ℕ) (new : Source) → RisesFrom above l → i < length l → number_at l nobody i ≡ number
      → new ≡ record (get_or l i nobody) { due = due_after moment (get_or l i nobody).interval } → slice_set l i new ≡ rescheduled moment number l
  restarted_at above [] i new rises small is new_is = absurd (omega (arith, small))
  restarted_at above (s ∷ l) zero new rises small is new_is =
      let same : is_numbered number s ≡ true = grind (arith, nat_tests, is) in
      ap (λ x. x ∷ l) new_is
      ∙ ap (λ b. cond b (record s { due = due_after moment s.interval }) s ∷ l) (sym same)
      ∙ ap (λ rest. restarted moment number s ∷ rest) (not_numbered l s.number rises.1 (omega (arith, is)))
  restarted_at above (s ∷ l) (suc i) new rises small is new_is =
      let later = above_all s.number l nobody i rises.1 (omega (arith, small)) in
      let other : is_numbered number s ≡ false = grind (arith, nat_tests, is, later) in
      ap (λ b. cond b (record s { due = due_after moment s.interval }) s ∷ slice_set l i new) (sym other)
      ∙ ap (λ rest. restarted moment number s ∷ rest) (restarted_at s.number l i new rises.1 (omega (arith, small)) is new_is)

  -- where no source has the number, none is due anew
  pub restarted_none : (l : List Source) → position_or_len (is_numbered number) l ≡ length l → l ≡ rescheduled moment number l
  restarted_none [] none = refl
  restarted_none (s ∷ l) none = by (is_numbered number s) refl none (restarted_none l)
    where
      by : (b : Bool) → is_numbered number s ≡ b → cond (not b) (1 + position_or_len (is_numbered number) l) 0 ≡ suc (length l)
          → (position_or_len (is_numbered number) l ≡ length l → l ≡ rescheduled moment number l) → s ∷ l ≡ rescheduled moment number (s ∷ l)
      by true is none rest = absurd (omega (arith, none))
      by false is none rest =
          ap (λ b. cond b (record s { due = due_after moment s.interval }) s ∷ l) (sym is)
          ∙ ap (λ more. restarted moment number s ∷ more) (rest (omega (arith, none)))

few_before : (p : Source → Bool) (l : List Source) → position_or_len p l ≤ length l
few_before p [] = omega arith
few_before p (s ∷ l) = by (p s) (few_before p l)
  where
    by : (b : Bool) → position_or_len p l ≤ length l → cond (not b) (1 + position_or_len p l) 0 ≤ suc (length l)
    by true few = omega arith
    by false few = omega (arith, few)

-- where a search finds nothing, none has the number
pub position_none : (p : Source → Bool) (l : List Source) → None ≡ position p l → position_or_len p l ≡ length l
position_none p l none = by (nat_lt (position_or_len p l) (length l)) refl none
  where
    by : (b : Bool) → nat_lt (position_or_len p l) (length l) ≡ b → None ≡ cond b (Some (position_or_len p l)) None → position_or_len p l ≡ length l
    by true is none = absurd (none-some _ none)
    by false is none = let over : length l ≤ position_or_len p l = grind (arith, nat_tests, is) in omega (arith, over, few_before p l)
