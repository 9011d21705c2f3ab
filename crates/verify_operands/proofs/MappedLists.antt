-- Lists that are seen by a view, and read one after the other.
use Rattle.std.proofs.Common.{◌≡◌, inl, inr, ◌⊎◌, refl, sym, ap, ◌∙◌, ℕ, zero, suc, ◌+◌, ◌<◌, ◌≤◌, List, [], ◌∷◌, ◌++◌, length, map, drop, Some, slice_get, slice_index_or, arith}
use Rattle.std.proofs.lemmas.Option.{none-some, same_Some}
use Rattle.ui_machine.specs.Seq.{read}

-- what is in a list
pub read_within : {A B : Type 0} → (f : A → B) (none : B) (xs : List A) (i : ℕ) (x : A) → i < length xs → f (slice_index_or xs i x) ≡ read none (map f xs) i
read_within f none [] i x within = absurd (omega (arith, within))
read_within f none (y ∷ ys) zero x within = refl
read_within f none (y ∷ ys) (suc i) x within = read_within f none ys i x (omega (arith, within))

-- and behind it
pub read_behind : {A B : Type 0} → (f : A → B) (none : B) (xs : List A) (i : ℕ) → length xs ≤ i → none ≡ read none (map f xs) i
read_behind f none [] i behind = refl
read_behind f none (x ∷ xs) zero behind = absurd (omega (arith, behind))
read_behind f none (x ∷ xs) (suc i) behind = read_behind f none xs i (omega (arith, behind))

more : (n : ℕ) → suc n + 1 ≡ suc (n + 1)
more n = omega arith

-- from an entry on, the first is this one
pub from_entry : {A B : Type 0} → (f : A → B) (xs : List A) (n : ℕ) (x : A) → n < length xs → x ≡ slice_index_or xs n x →
    drop n (map f xs) ≡ f x ∷ drop (n + 1) (map f xs)
from_entry f [] n x within is = absurd (omega (arith, within))
from_entry f (y ∷ ys) zero x within is = ap (λ z. f z ∷ map f ys) (sym is)
from_entry f (y ∷ ys) (suc n) x within is =
    from_entry f ys n x (omega (arith, within)) is ∙ ap (λ m. f x ∷ drop m (map f (y ∷ ys))) (sym (more n))

-- behind all of them there is none
pub from_end : {A B : Type 0} → (f : A → B) (xs : List A) (n : ℕ) → length xs ≤ n → drop n (map f xs) ≡ []
from_end f [] zero behind = refl
from_end f [] (suc n) behind = refl
from_end f (x ∷ xs) zero behind = absurd (omega (arith, behind))
from_end f (x ∷ xs) (suc n) behind = from_end f xs n (omega (arith, behind))

-- one entry less
pub less_one : {A : Type 0} → (n : ℕ) (xs : List A) → drop 1 (drop n xs) ≡ drop (n + 1) xs
less_one zero xs = refl
less_one {A} (suc n) [] = ap (λ m. drop {A = A} m []) (sym (more n))
less_one {A} (suc n) (x ∷ xs) = less_one n xs ∙ ap (λ m. drop {A = A} m (x ∷ xs)) (sym (more n))

-- the first of the rest
pub first_of_rest : {A : Type 0} → (none : A) (n : ℕ) (xs : List A) → read none (drop n xs) 0 ≡ read none xs n
first_of_rest none zero xs = refl
first_of_rest none (suc n) [] = refl
first_of_rest none (suc n) (x ∷ xs) = first_of_rest none n xs

-- whatever is in a longer list was there, or is the last
pub stood : {A : Type 0} → (xs : List A) (i : ℕ) (x y : A) → slice_get (xs ++ x ∷ []) i ≡ Some y →
    (slice_get xs i ≡ Some y) ⊎ ((i ≡ length xs) × (x ≡ y))
stood [] zero x y is = inr (refl, same_Some _ _ is)
stood [] (suc i) x y is = absurd (none-some _ is)
stood (z ∷ zs) zero x y is = inl is
stood (z ∷ zs) (suc i) x y is = later (stood zs i x y is)
  where
    later : (slice_get zs i ≡ Some y) ⊎ ((i ≡ length zs) × (x ≡ y)) → (slice_get zs i ≡ Some y) ⊎ ((suc i ≡ suc (length zs)) × (x ≡ y))
    later (inl was) = inl was
    later (inr l) = inr (ap suc l.0, l.1)
