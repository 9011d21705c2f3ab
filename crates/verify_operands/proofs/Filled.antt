-- Lists that are written, and filled up before.
use Rattle.std.proofs.Common.{◌≡◌, refl, sym, ap, ◌∙◌, ℕ, zero, suc, ◌+◌, ◌-◌, ◌<◌, ◌≤◌, List, [], ◌∷◌, ◌++◌, length, map, replicate, slice_set, arith}
use Rattle.bytecode.specs.declared.programs.RegisterKind.{RegisterKind as CodeKind}
use Rattle.bytecode.specs.declared.programs.RegisterKind.TheVariants as code_kinds
use Rattle.bytecode.specs.View.{register_kind_view}
use Rattle.ui_machine.specs.Definition.Kinds as kinds
use Rattle.ui_machine.specs.Seq.{write}
use Rattle.verify_operands.specs.Views.{kinds_of}

-- one item more
pub once_more : {A : Type 0} → (n : ℕ) (x : A) → replicate n x ++ x ∷ [] ≡ replicate (suc n) x
once_more zero x = refl
once_more (suc n) x = ap (λ xs. x ∷ xs) (once_more n x)

append_nothing : {A : Type 0} → (xs : List A) → xs ++ [] ≡ xs
append_nothing [] = refl
append_nothing (x ∷ xs) = ap (λ ys. x ∷ ys) (append_nothing xs)

-- a list that is long enough gets nothing
pub filled : {A : Type 0} → (xs : List A) (n : ℕ) (x : A) → n ≤ length xs → xs ≡ xs ++ replicate (n - length xs) x
filled xs n x long = sym (let e : n - length xs ≡ 0 = omega (arith, long) in ap (λ m. xs ++ replicate m x) e ∙ append_nothing xs)

-- a shorter one gets one item
append_more : {A : Type 0} → (xs ys : List A) (x : A) → (xs ++ ys) ++ x ∷ [] ≡ xs ++ (ys ++ x ∷ [])
append_more [] ys x = refl
append_more (z ∷ xs) ys x = ap (λ zs. z ∷ zs) (append_more xs ys x)

pub filled_more : {A : Type 0} → (old xs : List A) (n : ℕ) (x : A) → xs ≡ old ++ replicate n x → xs ++ x ∷ [] ≡ old ++ replicate (suc n) x
filled_more old xs n x is = ap (λ zs. zs ++ x ∷ []) is ∙ (append_more old (replicate n x) x ∙ ap (λ zs. old ++ zs) (once_more n x))

-- ** writes

-- within the list
pub write_within : {A : Type 0} → (none : A) (xs : List A) (i : ℕ) (x : A) → i < length xs → slice_set xs i x ≡ write none xs i x
write_within none [] i x within = absurd (omega (arith, within))
write_within none (y ∷ ys) zero x within = refl
write_within none (y ∷ ys) (suc i) x within = ap (λ zs. y ∷ zs) (write_within none ys i x (omega (arith, within)))

-- and behind it
pub write_behind : {A : Type 0} → (xs : List A) (n i : ℕ) (none x : A) → i ≡ length xs + n → (xs ++ replicate n none) ++ x ∷ [] ≡ write none xs i x
write_behind [] zero zero none x is = refl
write_behind [] zero (suc i) none x is = absurd (omega (arith, is))
write_behind [] (suc n) zero none x is = absurd (omega (arith, is))
write_behind [] (suc n) (suc i) none x is = ap (λ zs. none ∷ zs) (write_behind [] n i none x (omega (arith, is)))
write_behind (y ∷ ys) n zero none x is = absurd (omega (arith, is))
write_behind (y ∷ ys) n (suc i) none x is = ap (λ zs. y ∷ zs) (write_behind ys n i none x (omega (arith, is)))

-- seen by the kinds' view
seen : {A B : Type 0} → (f : A → B) (none : A) (xs : List A) (i : ℕ) (x : A) → map f (write none xs i x) ≡ write (f none) (map f xs) i (f x)
seen f none [] zero x = refl
seen f none [] (suc i) x = ap (λ zs. f none ∷ zs) (seen f none [] i x)
seen f none (y ∷ ys) zero x = refl
seen f none (y ∷ ys) (suc i) x = ap (λ zs. f y ∷ zs) (seen f none ys i x)

pub write_seen : (ks : List CodeKind) (to : ℕ) (k : CodeKind) → kinds_of (write code_kinds.Unset ks to k) ≡ write kinds.unset (kinds_of ks) to (register_kind_view k)
write_seen ks to k = seen register_kind_view code_kinds.Unset ks to k
