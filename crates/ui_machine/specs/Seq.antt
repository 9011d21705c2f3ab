-- Lists that are read and written at an index, with no bound to keep.
use Rattle.std.specs.Prelude.{ℕ, zero, suc, ◌+◌, List, [], ◌∷◌}

-- the entry at i, or the default past the end
abbrev pub read : {A : Type 0} → A → List A → ℕ → A
read d [] i = d
read d (x ∷ xs) zero = x
read d (x ∷ xs) (suc i) = read d xs i

-- the list with y at i, filled up with the default where it is too short
abbrev pub write : {A : Type 0} → A → List A → ℕ → A → List A
write d [] zero y = y ∷ []
write d [] (suc i) y = d ∷ write d [] i y
write d (x ∷ xs) zero y = y ∷ xs
write d (x ∷ xs) (suc i) y = x ∷ write d xs i y

-- the sum of f over the list
abbrev pub total : {A : Type 0} → (A → ℕ) → List A → ℕ
total f [] = 0
total f (x ∷ xs) = f x + total f xs

-- the values of f from 0 on, so many
abbrev pub listed : {A : Type 0} → (ℕ → A) → ℕ → List A
listed f zero = []
listed f (suc n) = f 0 ∷ listed (λ i. f (suc i)) n
