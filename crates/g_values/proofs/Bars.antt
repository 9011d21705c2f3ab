-- Words between bars.
use Rattle.std.proofs.Common.{◌≡◌, ◌∙◌, ℕ, suc, ◌+◌, ◌-◌, List, [], ◌∷◌, length, take, drop, position, cond, nat_lt, true, false, Bool, Some, None, refl, sym, ap, not, arith}
use Rattle.std.specs.List.{slice_split, onto_first, position_or_len}
use Rattle.std.proofs.lemmas.List.{take_rest}
use Rattle.std.proofs.lemmas.List.Splits.{slice_split_first}
use Rattle.std.proofs.lemmas.Bool.Decides.{nat_tests}
use Rattle.std.proofs.lemmas.Option.{none-some}
use Rattle.g_values.specs.Naming.{is_bar}

pub split_at_bar : (xs : List ℕ) (k : ℕ) → position is_bar xs ≡ Some k → slice_split is_bar xs ≡ take k xs ∷ slice_split is_bar (take (length xs - (k + 1)) (drop (k + 1) xs))
split_at_bar xs k found = by (nat_lt (position_or_len is_bar xs) (length xs)) refl found
  where
    by : (b : Bool) → nat_lt (position_or_len is_bar xs) (length xs) ≡ b → cond b (Some (position_or_len is_bar xs)) None ≡ Some k
        → slice_split is_bar xs ≡ take k xs ∷ slice_split is_bar (take (length xs - (k + 1)) (drop (k + 1) xs))
    by true lt e =
        let at : position_or_len is_bar xs ≡ k = cc in
        slice_split_first is_bar xs 0 (grind (arith, nat_tests)) ∙ ap (λ i. take i xs ∷ slice_split is_bar (drop (i + 1) xs)) at
        ∙ ap (λ ys. take k xs ∷ slice_split is_bar ys) (sym (take_rest xs (k + 1)))
    by false lt e = absurd (none-some k e)

no_bar : (xs : List ℕ) → nat_lt (position_or_len is_bar xs) (length xs) ≡ false → slice_split is_bar xs ≡ xs ∷ []
no_bar [] e = refl
no_bar (x ∷ xs) e = by (is_bar x) e (no_bar xs)
  where
    by : (b : Bool) → nat_lt (cond (not b) (1 + position_or_len is_bar xs) 0) (suc (length xs)) ≡ false
        → (nat_lt (position_or_len is_bar xs) (length xs) ≡ false → slice_split is_bar xs ≡ xs ∷ [])
        → cond b ([] ∷ slice_split is_bar xs) (onto_first x (slice_split is_bar xs)) ≡ (x ∷ xs) ∷ []
    by true e rest = grind (arith, nat_tests)
    by false e rest = ap (onto_first x) (rest (grind (arith, nat_tests)))

pub split_nowhere : (xs : List ℕ) → position is_bar xs ≡ None → slice_split is_bar xs ≡ xs ∷ []
split_nowhere xs none = by (nat_lt (position_or_len is_bar xs) (length xs)) refl none
  where
    by : (b : Bool) → nat_lt (position_or_len is_bar xs) (length xs) ≡ b → cond b (Some (position_or_len is_bar xs)) None ≡ None → slice_split is_bar xs ≡ xs ∷ []
    by true lt e = absurd (none-some _ (sym e))
    by false lt e = no_bar xs lt
