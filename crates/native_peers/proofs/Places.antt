-- Places of a list that code reads.
use Rattle.std.proofs.Common.{◌≡◌, ℕ, ◌<◌, List, length, get_or, Option, None, Some, ap, sym, ◌∙◌, ⊎_elim, arith, refl, subst}
use Rattle.std.specs.Option.{IsSomeAnd}
use Rattle.std.specs.Prelude.{slice_get}
use Rattle.std.proofs.lemmas.Option.{get_or_from_slice_get, slice_get_cases, slice_get_within}

-- a place that has something is inside
pub inside : {N : Type 0} (items : List N) (k : ℕ) (P : N → Type 0) → IsSomeAnd (slice_get items k) P → k < length items
inside {N} items k P is = by (slice_get items k) is (λ x e. slice_get_within items k x e)
  where
    by : (o : Option N) → IsSomeAnd o P → ((x : N) → o ≡ Some x → k < length items) → k < length items
    by None u f = absurd u
    by (Some x) u f = f x refl

-- what code reads at a place is there
pub here : {N : Type 0} (items : List N) (k : ℕ) (r : N) → k < length items → r ≡ get_or items k r → slice_get items k ≡ Some r
here items k r lt is =
    ⊎_elim (λ l. l.2 ∙ ap (λ x. Some x) (sym (is ∙ get_or_from_slice_get items k l.0 r l.2))) (λ r. absurd (omega (arith, lt, r.0))) (slice_get_cases items k).1

-- what holds of what is there holds of what code reads
pub holds_here : {N : Type 0} (items : List N) (k : ℕ) (r : N) (P : N → Type 0) → slice_get items k ≡ Some r → IsSomeAnd (slice_get items k) P → P r
holds_here {N} items k r P at is = subst (λ (o : Option N). IsSomeAnd o P) at is
