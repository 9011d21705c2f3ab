-- The ready sources of the least priority are the first of a turn.
use Rattle.std.proofs.Common.{◌≡◌, ℕ, ◌≤◌, ◌<◌, ℤ, pos, Bool, true, false, cond, not, ◌&&◌, ◌||◌, ◌⊎◌, nat_le, int_le, List, [], ◌∷◌, map, slice_get, option_map, Option, None, Some, refl, sym, ap, subst, ◌∙◌, arith, inl, inr}
use Rattle.std.specs.List.{AllByRecursion, filter}
use Rattle.std.specs.Ordering.{int_eq}
use Rattle.std.proofs.lemmas.Bool.{cases_Bool}
use Rattle.std.proofs.lemmas.Bool.Decides.{nat_tests}
use Rattle.std.proofs.lemmas.Int.{ints}
use Rattle.ui_machine.specs.State.Sources.{Source, is_numbered, source_of}
use Rattle.ui_machine.specs.Rules.MainLoop.{is_ready, ready}
use Rattle.main_context.specs.Order.{RisesFrom}
use Rattle.main_context.specs.Places.{all_added, by_priority, idle_rank, is_before, is_up_to, least_rank, ranked, ready_rank, timeout_rank, up_to, with_any}
use Rattle.main_context.specs.Priorities.{IsLeast, is_lowest, is_ready_at}
use Rattle.main_context.specs.declared.places.Place.{Place}
use Rattle.main_context.proofs.Integers.{int_le_same, same_from_int_eq}
use Rattle.main_context.proofs.Joined.{both_of, implied_of}
use Rattle.main_context.proofs.LeastPriority.{least_of_firsts, ready_at_least, ready_none}
use Rattle.main_context.proofs.PlaceOrder.{all_with, place, put_first, without_it}
use Rattle.main_context.proofs.Turns.{due_ranked, joined, turn_rank}

-- ** each source is found by its number

found_later : (x : Source) (all : List Source) (above : ℕ) (l : List Source) → x.number ≤ above → RisesFrom above l
    → AllByRecursion (λ (s : Source). source_of s.number all ≡ Some s) l → AllByRecursion (λ (s : Source). source_of s.number (x ∷ all) ≡ Some s) l
found_later x all above [] le rises h = tt
found_later x all above (s ∷ l) le rises h =
    let other : is_numbered s.number x ≡ false = grind (arith, nat_tests, le, rises.0) in
    (ap (λ t. cond t (Some x) (source_of s.number all)) other ∙ h.0, found_later x all s.number l (omega (arith, le, rises.0)) rises.1 h.1)

pub all_found : (above : ℕ) (l : List Source) → RisesFrom above l → AllByRecursion (λ (s : Source). source_of s.number l ≡ Some s) l
all_found above [] rises = tt
all_found above (s ∷ l) rises =
    let same : is_numbered s.number s ≡ true = grind (arith, nat_tests) in
    (ap (λ t. cond t (Some s) (source_of s.number l)) same, found_later s l s.number l (omega arith) rises.1 (all_found s.number l rises.1))

-- ** the numbers of the least priority

higher : (a p : ℤ) → int_le a p ≡ false → int_eq a p ≡ false
higher a p h = grind (arith, ints)

above_least : (a p : ℤ) → int_le p a ≡ true → int_eq a p ≡ false → int_le a p ≡ false
above_least a p le other = grind (arith, ints)

not_before : (r p : ℤ) (n number : ℕ) → int_le p r ≡ true → number < n → is_before (place r n) (place p number) ≡ false
unfolding is_before
not_before r p n number le later = grind (arith, ints, nat_tests)

module _ (moment : ℕ) (p : ℤ) (sources : List Source) where
  abbrev turn : Source → Option ℤ
  turn s = turn_rank moment p sources s

  -- a source without a rank in the turn is not ready with this priority; one with a rank is ready
  record Passes (s : Source) : Type 0 where
    pub rank : turn s ≡ None
    pub out : is_ready_at moment p s ≡ false

  record Takes (s : Source) : Type 0 where
    pub rank : turn s ≡ Some s.priority
    pub on : is_ready moment s ≡ true

  takes_or_passes : (s : Source) → Takes s ⊎ Passes s
  takes_or_passes s = by s.interval refl
    where
      by : (o : Option ℕ) → s.interval ≡ o → Takes s ⊎ Passes s
      by None e = elim (cases_Bool (int_le s.priority p)) [
        | inl f ↦ inl (record { rank = rw (e, f) refl; on = rw e refl })
        | inr f ↦ inr (record { rank = rw (e, f) refl; out = rw (e, higher s.priority p f) refl })
      ]
      by (Some i) e = elim (cases_Bool (nat_le s.due moment)) [
        | inl f ↦ inl (record { rank = rw (e, f) refl; on = rw (e, f) refl })
        | inr f ↦ inr (record { rank = rw (e, f) refl; out = rw (e, f) refl })
      ]

  -- the places of a turn with one more
  abbrev more : Option ℤ → ℕ → List Source → List Place
  more r n l = with_any (option_map (λ u. place u n) r) (ranked turn l)

  none_before : (number above : ℕ) (l : List Source) → number ≤ above → RisesFrom above l → is_lowest moment p l ≡ true → AllByRecursion (λ a. is_before a (place p number) ≡ false) (ranked turn l)
  none_before number above [] le rises low = tt
  none_before number above (s ∷ l) le rises low =
      let w = both_of (not (is_ready moment s) || int_le p s.priority) (is_lowest moment p l) low in
      let rest = none_before number s.number l (omega (arith, le, rises.0)) rises.1 w.1 in
      elim (takes_or_passes s) [
        | inl takes ↦
            subst (λ r. AllByRecursion (λ a. is_before a (place p number) ≡ false) (more r s.number l)) (sym takes.rank)
            (all_with (λ a. is_before a (place p number) ≡ false) (place s.priority s.number) (ranked turn l) (not_before s.priority p s.number number (implied_of (is_ready moment s) _ w.0 takes.on) (omega (arith, le, rises.0))) rest)
        | inr passes ↦ subst (λ r. AllByRecursion (λ a. is_before a (place p number) ≡ false) (more r s.number l)) (sym passes.rank) rest
      ]

  abbrev numbers : List Place → List ℕ
  numbers l = map (λ q. q.number) l

  -- those of the sources that are ready with the priority, with one more if it is
  abbrev chosen : Bool → Source → List Source → List ℕ
  chosen t s l = map (λ (x : Source). x.number) (cond t (s ∷ filter (is_ready_at moment p) l) (filter (is_ready_at moment p) l))

  pub turn_numbers : (above : ℕ) (l : List Source) → RisesFrom above l → is_lowest moment p l ≡ true
      → numbers (up_to p (ranked turn l)) ≡ map (λ (x : Source). x.number) (filter (is_ready_at moment p) l)
  turn_numbers above [] rises low = refl
  turn_numbers above (s ∷ l) rises low =
      let w = both_of (not (is_ready moment s) || int_le p s.priority) (is_lowest moment p l) low in
      let rest = turn_numbers s.number l rises.1 w.1 in
      elim (takes_or_passes s) [
        | inr passes ↦ ap (λ r. numbers (up_to p (more r s.number l))) passes.rank ∙ rest ∙ sym (ap (λ t. chosen t s l) passes.out)
        | inl takes ↦ elim (cases_Bool (int_eq s.priority p)) [
          | inl e ↦
              let same = same_from_int_eq s.priority p e in
              let is : is_ready_at moment p s ≡ true = ap (λ t. t && int_eq s.priority p) takes.on ∙ e in
              let q = place p s.number in
              ap (λ r. numbers (up_to p (more r s.number l))) (takes.rank ∙ ap Some same)
              ∙ ap (λ m. numbers (up_to p m)) (put_first q (ranked turn l) (none_before s.number s.number l (omega arith) rises.1 w.1))
              ∙ ap (λ t. numbers (cond t (q ∷ up_to p (ranked turn l)) (up_to p (ranked turn l)))) (int_le_same p)
              ∙ ap (λ m. s.number ∷ m) rest
              ∙ sym (ap (λ t. chosen t s l) is)
          | inr e ↦
              let out : is_ready_at moment p s ≡ false = ap (λ t. t && int_eq s.priority p) takes.on ∙ e in
              let past = above_least s.priority p (implied_of (is_ready moment s) _ w.0 takes.on) e in
              ap (λ r. numbers (up_to p (more r s.number l))) takes.rank
              ∙ ap numbers (without_it (is_up_to p) (place s.priority s.number) (ranked turn l) past)
              ∙ rest
              ∙ sym (ap (λ t. chosen t s l) out)
        ]
      ]

-- ** what a turn collects, from the places that are kept

module _ (moment : ℕ) (l : List Source) (idles timeouts : List Place) (rising : RisesFrom 0 l) (by_priority_are : idles ≡ ranked idle_rank l) (by_due_are : timeouts ≡ ranked timeout_rank l) where
  -- the ready timeouts by priority
  abbrev pub due : List Place
  due = by_priority l (up_to (pos moment) timeouts)

  due_are : due ≡ ranked (ready_rank moment) l
  due_are = ap (λ m. by_priority l (up_to (pos moment) m)) by_due_are ∙ due_ranked moment l l (all_found 0 l rising)

  firsts : (o : Option ℤ) → least_rank (slice_get idles 0) (slice_get due 0) ≡ o → IsLeast moment l o
  firsts o h =
      subst (IsLeast moment l)
      (sym (ap (λ m. least_rank (slice_get m 0) (slice_get due 0)) by_priority_are ∙ ap (λ m. least_rank (slice_get (ranked idle_rank l) 0) (slice_get m 0)) due_are) ∙ h)
      (least_of_firsts moment l)

  pub turn_none : least_rank (slice_get idles 0) (slice_get due 0) ≡ None → ready moment l ≡ []
  turn_none h = ready_none moment l (firsts None h)

  pub turn_some : (p : ℤ) → least_rank (slice_get idles 0) (slice_get due 0) ≡ Some p
      → map (λ (q : Place). q.number) (up_to p (all_added (up_to p idles) due)) ≡ map (λ (s : Source). s.number) (ready moment l)
  turn_some p h =
      let low = firsts (Some p) h in
      ap (λ m. map (λ (q : Place). q.number) (up_to p m))
      (ap (λ m. all_added (up_to p m) due) by_priority_are
      ∙ ap (λ m. all_added (up_to p (ranked idle_rank l)) (by_priority l (up_to (pos moment) m))) by_due_are
      ∙ joined moment p l l (all_found 0 l rising))
      ∙ turn_numbers moment p l 0 l rising low.1
      ∙ ap (map (λ (s : Source). s.number)) (ready_at_least moment l p low)
