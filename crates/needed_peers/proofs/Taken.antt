-- One more of a list.
use Rattle.std.proofs.Common.{◌≡◌, ap, ℕ, zero, suc, ◌+◌, List, [], ◌∷◌, ◌++◌, take, Some, ◌∙◌, arith}
use Rattle.std.specs.Prelude.{slice_get}

next_taken : {N : Type 0} (xs : List N) (k : ℕ) (x : N) → slice_get xs k ≡ Some x → take (suc k) xs ≡ take k xs ++ x ∷ []
next_taken [] k x at = absurd (cc at)
next_taken (y ∷ xs) zero x at = let here : y ≡ x = cc at in ap (λ z. z ∷ []) here
next_taken (y ∷ xs) (suc k) x at = ap (λ l. y ∷ l) (next_taken xs k x at)

-- those up to the k-th are those before it, and it
pub one_taken : {N : Type 0} (xs : List N) (k : ℕ) (x : N) → slice_get xs k ≡ Some x → take (k + 1) xs ≡ take k xs ++ x ∷ []
one_taken xs k x at = let next : k + 1 ≡ suc k = omega arith in ap (λ j. take j xs) next ∙ next_taken xs k x at
