-- What `all` answered says whether something is so of the view of each element.
use Rattle.std.proofs.Common.{◌↔◌, ◌<◌, ℕ, zero, suc, Bool, true, false, List, [], ◌∷◌, length, map, IsTrue, MatchBool, refl, arith}
use Rattle.std.specs.List.{AllWithin, HoldsAt}
use Rattle.std.proofs.lemmas.Bool.{false≢true}
use Rattle.law_typing.specs.Verdict.Accepted.{Each}

module _ {A B : Type 0} (P : B → Type 0) (f : A → B) where
  so_of_each : (xs : List A) → AllWithin (λ x. P (f x)) xs 0 (length xs) → Each P (map f xs)
  so_of_each [] all = tt
  so_of_each (x ∷ xs) all = (all 0 x (omega arith) (omega arith), so_of_each xs (λ k d low high. all (suc k) d (omega arith) (omega arith)))

  not_of_one : (xs : List A) (k : ℕ) → k < length xs → HoldsAt (λ x. ¬ P (f x)) xs k → ¬ Each P (map f xs)
  not_of_one [] k within fails each = absurd (omega (arith, within))
  not_of_one (x ∷ xs) zero within fails each = fails x each.0
  not_of_one (x ∷ xs) (suc k) within fails each = not_of_one xs k (omega (arith, within)) (λ d. fails d) each.1

  pub answered : (xs : List A) (r : Bool) → MatchBool r (AllWithin (λ x. P (f x)) xs 0 (length xs)) ((k : ℕ) × (k < length xs) × HoldsAt (λ x. ¬ P (f x)) xs k)
      → IsTrue r ↔ Each P (map f xs)
  answered xs true all = (λ h. so_of_each xs all, λ each. refl)
  answered xs false one = (λ h. absurd (false≢true h), λ each. absurd (not_of_one xs one.0 one.1 one.2 each))
