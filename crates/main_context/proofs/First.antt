-- The first of a list that passes.
use Rattle.std.proofs.Common.{◌≡◌, ℕ, zero, suc, ◌+◌, ◌<◌, ◌≤◌, Bool, true, false, cond, List, [], ◌∷◌, length, get_or, None, Some, refl, ap, arith, position}
use Rattle.std.specs.List.{filter, find, position_or_len, remove}
use Rattle.std.proofs.lemmas.List.Folds.{find_at}
use Rattle.std.proofs.lemmas.List.Quantifiers.{position-Some}
use Rattle.std.proofs.lemmas.Option.{slice_get_past}
use Rattle.std.proofs.lemmas.Grind.{common_steps}
use Rattle.ui_machine.specs.Seq.{total}
use Rattle.ui_machine.specs.State.Sources.{without_first}

-- ** where none passes

find_none : {X : Type 0} (p : X → Bool) (xs : List X) → position p xs ≡ None → find p xs ≡ None
find_none p xs h = grind (arith, common_steps, find_at p xs, slice_get_past xs (position_or_len p xs))

pub without_none : {X : Type 0} (p : X → Bool) (xs : List X) → find p xs ≡ None → without_first p xs ≡ xs
without_none p [] h = refl
without_none p (x ∷ xs) h =
    elim (p x) as (λ t. cond t (Some x) (find p xs) ≡ None → cond t xs (x ∷ without_first p xs) ≡ x ∷ xs) [
      | true ↦ λ e. cc
      | false ↦ λ e. ap (λ ys. x ∷ ys) (without_none p xs e)
    ] h

pub record IsAbsent {X : Type 0} (p : X → Bool) (xs : List X) : Type 0 where
  pub found : find p xs ≡ None
  pub left : without_first p xs ≡ xs

pub absent : {X : Type 0} (p : X → Bool) (xs : List X) → position p xs ≡ None → IsAbsent p xs
absent p xs h = let none = find_none p xs h in record { found = none; left = without_none p xs none }

-- ** where one does

-- x is the first that passes, and is at i
pub record IsFirst {X : Type 0} (p : X → Bool) (xs : List X) (i : ℕ) (x : X) : Type 0 where
  pub found : find p xs ≡ Some x
  pub left : without_first p xs ≡ remove xs i

first_at : {X : Type 0} (p : X → Bool) (xs : List X) (i : ℕ) (d : X) → i < length xs → p (get_or xs i d) ≡ true → ((k : ℕ) → k < i → p (get_or xs k d) ≡ false) → IsFirst p xs i (get_or xs i d)
first_at p [] i d lt here before = absurd (omega arith)
first_at p (x ∷ xs) zero d lt here before = record { found = rw here refl; left = rw here refl }
first_at p (x ∷ xs) (suc i) d lt here before =
    let passed : p x ≡ false = before 0 (omega arith) in
    let rest = first_at p xs i d (omega arith) here (λ k below. before (suc k) (omega arith)) in
    record { found = rw passed rest.found; left = rw passed (ap (λ ys. x ∷ ys) rest.left) }

pub first : {X : Type 0} (p : X → Bool) (xs : List X) (i : ℕ) (x : X) → position p xs ≡ Some i → x ≡ get_or xs i x → IsFirst p xs i x
first p xs i x h at =
    let w = position-Some p xs i x h in
    rw at (first_at p xs i x w.0 w.1 w.2)

-- ** what is summed over a list

-- with the first that passes taken out, its part is missing
pub total_without_first : {X : Type 0} (f : X → ℕ) (p : X → Bool) (xs : List X) (x : X) → find p xs ≡ Some x → total f (without_first p xs) + f x ≡ total f xs
total_without_first f p [] x h = cc
total_without_first f p (y ∷ ys) x h =
    elim (p y) as (λ t. cond t (Some y) (find p ys) ≡ Some x → total f (cond t ys (y ∷ without_first p ys)) + f x ≡ f y + total f ys) [
      | true ↦ λ e. let same : y ≡ x = cc in omega (arith, ap f same)
      | false ↦ λ e. omega (arith, total_without_first f p ys x e)
    ] h

-- ** how many are left

-- no more than there were
pub few_without_first : {X : Type 0} (p : X → Bool) (xs : List X) → length (without_first p xs) ≤ length xs
few_without_first p [] = omega arith
few_without_first p (x ∷ xs) =
    elim (p x) as (λ t. length (cond t xs (x ∷ without_first p xs)) ≤ suc (length xs)) [
      | true ↦ omega arith
      | false ↦ omega (arith, few_without_first p xs)
    ]

pub few_filtered : {X : Type 0} (p : X → Bool) (xs : List X) → length (filter p xs) ≤ length xs
few_filtered p [] = omega arith
few_filtered p (x ∷ xs) =
    elim (p x) as (λ t. length (cond t (x ∷ filter p xs) (filter p xs)) ≤ suc (length xs)) [
      | true ↦ omega (arith, few_filtered p xs)
      | false ↦ omega (arith, few_filtered p xs)
    ]
