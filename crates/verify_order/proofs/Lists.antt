-- Lists that are read by index.
use Rattle.std.proofs.Common.{◌≡◌, inl, inr, ◌⊎◌, refl, sym, ap, ℕ, zero, suc, ◌<◌, ◌≤◌, Bool, true, false, List, [], ◌∷◌, ◌++◌, length, map, take, Some, slice_get, slice_set, arith}
use Rattle.std.specs.Prelude.{eqb, ◌||◌}
use Rattle.std.proofs.lemmas.Bool.{eq-eqb}
use Rattle.std.proofs.lemmas.Map.Steps.{le-length_from_below}
use Rattle.std.specs.List.{list_any}
use Rattle.std.proofs.lemmas.Option.{none-some, same_Some}

-- an entry that is written over is what was written
pub set_same : {A : Type 0} → (xs : List A) (i : ℕ) (x : A) → i < length xs → slice_get (slice_set xs i x) i ≡ Some x
set_same [] i x within = absurd (omega (arith, within))
set_same (y ∷ ys) zero x within = refl
set_same (y ∷ ys) (suc i) x within = set_same ys i x (omega (arith, within))

-- another entry stays
pub set_other : {A : Type 0} → (xs : List A) (i j : ℕ) (x : A) → (i ≡ j → ⊥) → slice_get (slice_set xs i x) j ≡ slice_get xs j
set_other [] i j x other = refl
set_other (y ∷ ys) zero zero x other = absurd (other refl)
set_other (y ∷ ys) zero (suc j) x other = refl
set_other (y ∷ ys) (suc i) zero x other = refl
set_other (y ∷ ys) (suc i) (suc j) x other = set_other ys i j x (λ same. other (ap suc same))

-- and there are as many entries as before
pub set_length : {A : Type 0} → (xs : List A) (i : ℕ) (x : A) → length (slice_set xs i x) ≡ length xs
set_length [] i x = refl
set_length (y ∷ ys) zero x = refl
set_length (y ∷ ys) (suc i) x = ap suc (set_length ys i x)

-- what is appended is the last
pub get_last : {A : Type 0} → (xs : List A) (x : A) → slice_get (xs ++ x ∷ []) (length xs) ≡ Some x
get_last [] x = refl
get_last (y ∷ ys) x = get_last ys x

-- and what was there is there
pub get_kept : {A : Type 0} → (xs : List A) (i : ℕ) (x y : A) → slice_get xs i ≡ Some y → slice_get (xs ++ x ∷ []) i ≡ Some y
get_kept [] i x y is = absurd (none-some _ is)
get_kept (z ∷ zs) zero x y is = is
get_kept (z ∷ zs) (suc i) x y is = get_kept zs i x y is

-- whatever is there was there, or is the last
pub get_was : {A : Type 0} → (xs : List A) (i : ℕ) (x y : A) → slice_get (xs ++ x ∷ []) i ≡ Some y →
    (slice_get xs i ≡ Some y) ⊎ ((i ≡ length xs) × (x ≡ y))
get_was [] zero x y is = inr (refl, same_Some _ _ is)
get_was [] (suc i) x y is = absurd (none-some _ is)
get_was (z ∷ zs) zero x y is = inl is
get_was (z ∷ zs) (suc i) x y is = later (get_was zs i x y is)
  where
    later : (slice_get zs i ≡ Some y) ⊎ ((i ≡ length zs) × (x ≡ y)) → (slice_get zs i ≡ Some y) ⊎ ((suc i ≡ suc (length zs)) × (x ≡ y))
    later (inl was) = inl was
    later (inr l) = inr (ap suc l.0, l.1)

pub append_length : {A : Type 0} → (xs : List A) (x : A) → length (xs ++ x ∷ []) ≡ suc (length xs)
append_length [] x = refl
append_length (y ∷ ys) x = ap suc (append_length ys x)

-- what is left without the last
pub take_was : {A : Type 0} → (n : ℕ) (xs : List A) (i : ℕ) (x : A) → slice_get (take n xs) i ≡ Some x → (slice_get xs i ≡ Some x) × (i < n)
take_was zero xs i x is = absurd (none-some _ is)
take_was (suc n) [] i x is = absurd (none-some _ is)
take_was (suc n) (y ∷ ys) zero x is = (is, omega (arith))
take_was (suc n) (y ∷ ys) (suc i) x is = let t = take_was n ys i x is in (t.0, omega (arith, t.1))

pub take_length : {A : Type 0} → (n : ℕ) (xs : List A) → n ≤ length xs → length (take n xs) ≡ n
take_length zero xs within = refl
take_length (suc n) [] within = absurd (omega (arith, within))
take_length (suc n) (y ∷ ys) within = ap suc (take_length n ys (omega (arith, within)))

or_right : (b c : Bool) → c ≡ true → (b || c) ≡ true
or_right true c e = refl
or_right false c e = e

or_left : (b c : Bool) → b ≡ true → (b || c) ≡ true
or_left true c e = refl
or_left false c e = absurd (cc)

-- a list that has x at i has it
pub has : (xs : List ℕ) (i x : ℕ) → slice_get xs i ≡ Some x → list_any (eqb x) xs ≡ true
has [] i x is = absurd (none-some _ is)
has (y ∷ ys) zero x is = or_left (eqb x y) (list_any (eqb x) ys) (eq-eqb x y (sym (same_Some _ _ is)))
has (y ∷ ys) (suc i) x is = or_right (eqb x y) (list_any (eqb x) ys) (has ys i x is)

-- so a list that has each number below n is at least so long
pub long : (xs : List ℕ) (n : ℕ) → ((q : ℕ) → q < n → (i : ℕ) × (slice_get xs i ≡ Some q)) → n ≤ length xs
long xs n each = le-length_from_below xs n (λ q below. let e = each q below in has xs e.0 q e.1)

-- a list is read within its length
pub read_within : {A : Type 0} → (xs : List A) (i : ℕ) → i < length xs → (x : A) × (slice_get xs i ≡ Some x)
read_within [] i within = absurd (omega (arith, within))
read_within (y ∷ ys) zero within = (y, refl)
read_within (y ∷ ys) (suc i) within = read_within ys i (omega (arith, within))

pub map_length : {A B : Type 0} → (f : A → B) (xs : List A) → length (map f xs) ≡ length xs
map_length f [] = refl
map_length f (x ∷ xs) = ap suc (map_length f xs)
