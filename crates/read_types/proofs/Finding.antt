-- The first element that passes a test, searched one after the other.
use Rattle.std.proofs.Common.{◌≡◌, ◌∙◌, ℕ, zero, suc, ◌≤◌, Bool, true, cond, List, [], ◌∷◌, length, None, Some, slice_get, refl, sym, ap, arith}
use Rattle.std.specs.List.{find}
use Rattle.std.proofs.lemmas.Option.{none-some}
use Rattle.param_specs.proofs.First.{NoneBefore}

module _ {A : Type 0} (p : A → Bool) where
  below : (x : A) (xs : List A) (i : ℕ) → NoneBefore p (x ∷ xs) (suc i) → NoneBefore p xs i
  below x xs i none k y lt is = none (suc k) y (omega arith) is

  pub found_first : (xs : List A) (i : ℕ) (x : A) → NoneBefore p xs i → slice_get xs i ≡ Some x → p x ≡ true → Some x ≡ find p xs
  found_first [] i x none at passes = absurd (none-some x at)
  found_first (y ∷ xs) zero x none at passes =
      let same : y ≡ x = cc in
      let here : p y ≡ true = cc in
      sym (ap (λ b. cond b (Some y) (find p xs)) here ∙ ap Some same)
  found_first (y ∷ xs) (suc i) x none at passes =
      found_first xs i x (below y xs i none) at passes ∙ sym (ap (λ b. cond b (Some y) (find p xs)) (none 0 y (omega arith) refl))

  pub found_none : (xs : List A) (n : ℕ) → NoneBefore p xs n → length xs ≤ n → None ≡ find p xs
  found_none [] n none past = refl
  found_none (y ∷ xs) zero none past = absurd (omega arith)
  found_none (y ∷ xs) (suc n) none past =
      found_none xs n (below y xs n none) (omega arith) ∙ sym (ap (λ b. cond b (Some y) (find p xs)) (none 0 y (omega arith) refl))
