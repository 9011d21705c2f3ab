-- Lists of which each entry goes with one of another list.
use Rattle.std.specs.Prelude.{◌<◌, ℕ, List, [], ◌∷◌, length, nat_lt}
use Rattle.std.specs.List.{filter}

-- two lists with as many entries, each with the one at its place in the other
abbrev pub Pointwise : {A B : Type 0} → (A → B → Type 0) → List A → List B → Type 0
Pointwise R [] [] = Unit {0}
Pointwise R [] (y ∷ ys) = ⊥
Pointwise R (x ∷ xs) [] = ⊥
Pointwise R (x ∷ xs) (y ∷ ys) = R x y × Pointwise R xs ys

-- the numbers that are below a count
abbrev pub inside : ℕ → List ℕ → List ℕ
inside count numbers = filter (λ n. nat_lt n count) numbers
