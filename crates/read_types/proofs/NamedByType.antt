-- What types name, by type, one of which is set.
use Rattle.std.proofs.Common.{◌≡◌, ◌∙◌, ℕ, zero, suc, ◌<◌, nat_eq, if◌then◌else◌, List, [], ◌∷◌, ◌++◌, length, slice_set, Option, None, Some, refl, sym, ap, false, arith}
use Rattle.std.proofs.lemmas.Bool.Decides.{nat_tests}
use Rattle.ui_machine.specs.Seq.{read}

-- a type behind the others that names none changes nothing
pub none_behind : {A : Type 0} (xs : List (Option A)) (u : ℕ) → read None (xs ++ None ∷ []) u ≡ read None xs u
none_behind [] zero = refl
none_behind [] (suc u) = refl
none_behind (x ∷ xs) zero = refl
none_behind (x ∷ xs) (suc u) = none_behind xs u

pub value_set : {A : Type 0} (xs : List (Option A)) (t : ℕ) (value : A) → t < length xs → (u : ℕ)
    → read None (slice_set xs t (Some value)) u ≡ (if nat_eq u t then Some value else read None xs u)
value_set [] t value h u = absurd (omega arith)
value_set (x ∷ xs) zero value h zero = refl
value_set (x ∷ xs) zero value h (suc u) =
    let other : nat_eq (suc u) 0 ≡ false = grind (arith, nat_tests) in
    sym (ap (λ b. if b then Some value else read None xs u) other)
value_set (x ∷ xs) (suc t) value h zero =
    let other : nat_eq 0 (suc t) ≡ false = grind (arith, nat_tests) in
    sym (ap (λ b. if b then Some value else x) other)
value_set (x ∷ xs) (suc t) value h (suc u) =
    let same : nat_eq u t ≡ nat_eq (suc u) (suc t) = grind (arith, nat_tests) in
    value_set xs t value (omega arith) u ∙ ap (λ b. if b then Some value else read None xs u) same

pub set_after : {A : Type 0} (old mid new : List (Option A)) (t : ℕ) (value : A) (u : ℕ) → read None mid u ≡ read None old u
    → read None new u ≡ (if nat_eq u t then Some value else read None mid u) → read None new u ≡ (if nat_eq u t then Some value else read None old u)
set_after old mid new t value u same set = set ∙ ap (λ own. if nat_eq u t then Some value else own) same
