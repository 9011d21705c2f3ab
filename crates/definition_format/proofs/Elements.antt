-- What is so of each element of a list, and elements by their numbers.
use Rattle.std.proofs.Common.{◌≡◌, ℕ, zero, suc, List, [], ◌∷◌, ◌++◌, slice_get, slice_index_or, Some, refl, subst}
use Rattle.std.specs.List.{flat_map, AllByRecursion}
use Rattle.ui_machine.specs.Seq.{read}

-- all that is so of each of two lists is so of both
pub both_all : {A : Type 0} (P : A → Type 0) (xs ys : List A) → AllByRecursion P xs → AllByRecursion P ys → AllByRecursion P (xs ++ ys)
both_all P [] ys p q = q
both_all P (x ∷ xs) ys p q = (p.0, both_all P xs ys p.1 q)

pub flat_all : {A : Type 0} (P : A → Type 0) (own : ℕ → List A) → ((t : ℕ) → AllByRecursion P (own t)) → (ts : List ℕ) → AllByRecursion P (flat_map own ts)
flat_all P own all [] = tt
flat_all P own all (t ∷ ts) = both_all P (own t) (flat_map own ts) (all t) (flat_all P own all ts)

pub all_get : {A : Type 0} (P : A → Type 0) (xs : List A) (i : ℕ) (x : A) → AllByRecursion P xs → slice_get xs i ≡ Some x → P x
all_get P [] i x p h = absurd (cc)
all_get P (y ∷ ys) zero x p h = let e : y ≡ x = cc in subst P e p.0
all_get P (y ∷ ys) (suc i) x p h = all_get P ys i x p.1 h

pub all_map : {A : Type 0} (P Q : A → Type 0) → ((x : A) → P x → Q x) → (xs : List A) → AllByRecursion P xs → AllByRecursion Q xs
all_map P Q f [] p = tt
all_map P Q f (x ∷ xs) p = (f x p.0, all_map P Q f xs p.1)

-- what is at a place of a slice
pub read-index : {A : Type 0} (d : A) (xs : List A) (i : ℕ) → slice_index_or xs i d ≡ read d xs i
read-index d [] i = refl
read-index d (x ∷ xs) zero = refl
read-index d (x ∷ xs) (suc i) = read-index d xs i
