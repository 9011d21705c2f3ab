-- The first element that passes a test, searched one after the other.
use Rattle.std.proofs.Common.{◌≡◌, ◌∙◌, ℕ, zero, suc, ◌+◌, ◌<◌, ◌≤◌, Bool, true, false, cond, List, [], ◌∷◌, length, None, Some, position, slice_get, refl, sym, ap, arith, ◌⊎◌, inl, inr}
use Rattle.std.specs.List.{position_from}
use Rattle.std.proofs.lemmas.Bool.{cases_lt}
use Rattle.std.proofs.lemmas.Option.{none-some}
use Rattle.std.proofs.lemmas.Iterator.Adapters.{position_from-zero}

-- none of those before i passes
abbrev pub NoneBefore : {A : Type 0} → (A → Bool) → List A → ℕ → Type 0
NoneBefore {A} p xs i = (k : ℕ) (x : A) → k < i → slice_get xs k ≡ Some x → p x ≡ false

module _ {A : Type 0} (p : A → Bool) where
  pub none_before_more : (xs : List A) (i : ℕ) (x : A) → NoneBefore p xs i → slice_get xs i ≡ Some x → p x ≡ false → NoneBefore p xs (i + 1)
  none_before_more xs i x none at fails k y below is = by (cases_lt k i)
    where
      by : (k < i) ⊎ (i ≤ k) → p y ≡ false
      by (inl lt) = none k y lt is
      by (inr ge) =
          let same : k ≡ i = omega arith in
          let found : Some y ≡ Some x = sym is ∙ ap (slice_get xs) same ∙ at in
          cc

  below : (x : A) (xs : List A) (i : ℕ) → NoneBefore p (x ∷ xs) (suc i) → NoneBefore p xs i
  below x xs i none k y lt is = none (suc k) y (omega arith) is

  first_from : (j : ℕ) (xs : List A) (i : ℕ) (x : A) → NoneBefore p xs i → slice_get xs i ≡ Some x → p x ≡ true → position_from p j xs ≡ Some (j + i)
  first_from j [] i x none at passes = absurd (none-some x at)
  first_from j (y ∷ xs) zero x none at passes =
      let here : p y ≡ true = cc in
      ap (λ b. cond b (Some j) (position_from p (j + 1) xs)) here ∙ ap Some (omega arith)
  first_from j (y ∷ xs) (suc i) x none at passes =
      ap (λ b. cond b (Some j) (position_from p (j + 1) xs)) (none 0 y (omega arith) refl)
      ∙ first_from (j + 1) xs i x (below y xs i none) at passes ∙ ap Some (omega arith)

  none_from : (j : ℕ) (xs : List A) (n : ℕ) → NoneBefore p xs n → length xs ≤ n → position_from p j xs ≡ None
  none_from j [] n none past = refl
  none_from j (y ∷ xs) zero none past = absurd (omega arith)
  none_from j (y ∷ xs) (suc n) none past =
      ap (λ b. cond b (Some j) (position_from p (j + 1) xs)) (none 0 y (omega arith) refl) ∙ none_from (j + 1) xs n (below y xs n none) (omega arith)

  pub position_first : (xs : List A) (i : ℕ) (x : A) → NoneBefore p xs i → slice_get xs i ≡ Some x → p x ≡ true → Some i ≡ position p xs
  position_first xs i x none at passes = sym (position_from-zero p xs ∙ first_from 0 xs i x none at passes ∙ ap Some (omega arith))

  pub position_none : (xs : List A) (n : ℕ) → NoneBefore p xs n → length xs ≤ n → None ≡ position p xs
  position_none xs n none past = sym (position_from-zero p xs ∙ none_from 0 xs n none past)
