-- Lists that are kept one behind the other in one list.
use Rattle.std.specs.Prelude.{◌≡◌, ◌≤◌, ℕ, suc, List, [], ◌∷◌, ◌++◌, length, drop, Some, slice_get, slice_range}

-- the lists that begin at these places of one list, each up to where the next one begins
abbrev pub lists_in : (starts all : List ℕ) → List (List ℕ)
lists_in [] all = []
lists_in (start ∷ []) all = drop start all ∷ []
lists_in (start ∷ next ∷ more) all = slice_range all start next ∷ lists_in (next ∷ more) all

-- places of a list, none before the one in front of it
pub record AreStarts (starts all : List ℕ) : Type 0 where
  pub ordered : (i start next : ℕ) → slice_get starts i ≡ Some start → slice_get starts (suc i) ≡ Some next → start ≤ next
  pub within : (i start : ℕ) → slice_get starts i ≡ Some start → start ≤ length all

-- some lists with one entry more in the last
abbrev pub with_last : List (List ℕ) → ℕ → List (List ℕ)
with_last [] x = []
with_last (xs ∷ []) x = (xs ++ x ∷ []) ∷ []
with_last (xs ∷ ys ∷ more) x = xs ∷ with_last (ys ∷ more) x
