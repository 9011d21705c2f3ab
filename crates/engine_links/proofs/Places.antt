-- What is read at the places of a list.
use Rattle.std.proofs.Common.{◌≡◌, ℕ, zero, suc, ◌<◌, false, nat_eq, List, [], ◌∷◌, ◌++◌, length, get_or, refl, sym, ap, ◌∙◌, cond, arith}
use Rattle.std.proofs.Math.ListN.{set}
use Rattle.std.proofs.lemmas.Bool.Decides.{nat_tests}
use Rattle.ui_machine.specs.Seq.{read}

-- a list that got an empty place reads the same
pub read-more : {A : Type 0} (none : A) (xs : List A) (c : ℕ) → read none (xs ++ none ∷ []) c ≡ read none xs c
read-more none [] zero = refl
read-more none [] (suc c) = refl
read-more none (x ∷ xs) zero = refl
read-more none (x ∷ xs) (suc c) = read-more none xs c

first-not : (c : ℕ) → nat_eq (suc c) 0 ≡ false
first-not c = grind (arith, nat_tests)

not-first : (i : ℕ) → nat_eq 0 (suc i) ≡ false
not-first i = grind (arith, nat_tests)

both-next : (c i : ℕ) → nat_eq (suc c) (suc i) ≡ nat_eq c i
both-next c i = grind (arith, nat_tests)

-- what is written at a place is read there, and only there
pub read-set : {A : Type 0} (none : A) (xs : List A) (i c : ℕ) (y : A) → i < length xs → read none (set xs i y) c ≡ cond (nat_eq c i) y (read none xs c)
read-set none [] i c y h = absurd (omega arith)
read-set none (x ∷ xs) zero zero y h = refl
read-set none (x ∷ xs) zero (suc c) y h = sym (ap (λ b. cond b y (read none xs c)) (first-not c))
read-set none (x ∷ xs) (suc i) zero y h = sym (ap (λ b. cond b y x) (not-first i))
read-set none (x ∷ xs) (suc i) (suc c) y h = read-set none xs i c y (omega arith) ∙ sym (ap (λ b. cond b y (read none xs c)) (both-next c i))

-- what is read within a list is there
pub read-get_or : {A : Type 0} (none : A) (xs : List A) (i : ℕ) (d : A) → i < length xs → read none xs i ≡ get_or xs i d
read-get_or none [] i d h = absurd (omega arith)
read-get_or none (x ∷ xs) zero d h = refl
read-get_or none (x ∷ xs) (suc i) d h = read-get_or none xs i d (omega arith)
