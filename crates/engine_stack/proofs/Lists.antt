-- Sums over lists.
use Rattle.std.proofs.Common.{◌≡◌, ℕ, zero, suc, ◌+◌, ◌≤◌, List, [], ◌∷◌, ◌++◌, arith}
use Rattle.ui_machine.specs.Seq.{read, write, total}

pub total-append : {A : Type 0} (f : A → ℕ) (xs ys : List A) → total f (xs ++ ys) ≡ total f xs + total f ys
total-append f [] ys = omega arith
total-append f (x ∷ xs) ys = omega (arith, total-append f xs ys)

-- what is somewhere is part of the whole
pub read-within : {A : Type 0} (f : A → ℕ) (d : A) (xs : List A) (i : ℕ) → f d ≡ 0 → f (read d xs i) ≤ total f xs
read-within f d [] i none = omega (arith, none)
read-within f d (x ∷ xs) zero none = omega arith
read-within f d (x ∷ xs) (suc i) none = omega (arith, read-within f d xs i none)

-- a write adds what is written and takes off what was there
pub total-exchanged : {A : Type 0} (f : A → ℕ) (d : A) (xs : List A) (i : ℕ) (y : A) → f d ≡ 0 → total f (write d xs i y) + f (read d xs i) ≡ total f xs + f y
total-exchanged f d [] zero y none = omega (arith, none)
total-exchanged f d [] (suc i) y none = omega (arith, none, total-exchanged f d [] i y none)
total-exchanged f d (x ∷ xs) zero y none = omega arith
total-exchanged f d (x ∷ xs) (suc i) y none = omega (arith, total-exchanged f d xs i y none)

-- a write where nothing is counted adds what is written
pub total-written : {A : Type 0} (f : A → ℕ) (d : A) (xs : List A) (i : ℕ) (y : A) → f d ≡ 0 → f (read d xs i) ≡ 0 → total f (write d xs i y) ≡ total f xs + f y
total-written f d [] zero y none there = omega arith
total-written f d [] (suc i) y none there = omega (arith, none, total-written f d [] i y none none)
total-written f d (x ∷ xs) zero y none there = omega (arith, there)
total-written f d (x ∷ xs) (suc i) y none there = omega (arith, total-written f d xs i y none there)
