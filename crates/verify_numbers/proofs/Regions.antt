-- What is at a place of lists that are put one behind the other.
use Rattle.std.proofs.Common.{◌≡◌, inl, inr, ◌⊎◌, refl, sym, ap, subst, ◌∙◌, ℕ, zero, suc, ◌+◌, ◌-◌, ◌<◌, ◌≤◌, List, [], ◌∷◌, ◌++◌, length, Option, None, Some, slice_get, zero-add, arith}
use Rattle.std.proofs.lemmas.Option.{none-some, same_Some}
use Rattle.verify_sketches.specs.Numbered.{Node}
use Rattle.verify_numbers.specs.Laid.{numbered}

-- ** two lists

pub left : {A : Type 0} → (xs zs : List A) (k : ℕ) (y : A) → slice_get xs k ≡ Some y → slice_get (xs ++ zs) k ≡ Some y
left [] zs k y is = absurd (none-some _ is)
left (x ∷ xs) zs zero y is = is
left (x ∷ xs) zs (suc k) y is = left xs zs k y is

behind : {A : Type 0} → (xs zs : List A) (j : ℕ) (y : A) → slice_get zs j ≡ Some y → slice_get (xs ++ zs) (length xs + j) ≡ Some y
behind [] zs j y is = let e : j ≡ 0 + j = omega arith in subst (λ n. slice_get zs n ≡ Some y) e is
behind (x ∷ xs) zs j y is =
    let e : suc (length xs + j) ≡ suc (length xs) + j = omega arith in
    subst (λ n. slice_get (x ∷ (xs ++ zs)) n ≡ Some y) e (behind xs zs j y is)

pub right : {A : Type 0} → (xs zs : List A) (k j : ℕ) (y : A) → k ≡ length xs + j → slice_get zs j ≡ Some y → slice_get (xs ++ zs) k ≡ Some y
right xs zs k j y at is = subst (λ n. slice_get (xs ++ zs) n ≡ Some y) (sym at) (behind xs zs j y is)

-- what is in the second list
abbrev pub InRest : {A : Type 0} → (xs zs : List A) (k : ℕ) (y : A) → Type 0
InRest xs zs k y = (j : ℕ) × (k ≡ length xs + j) × (slice_get zs j ≡ Some y)

pub splits : {A : Type 0} → (xs zs : List A) (k : ℕ) (y : A) → slice_get (xs ++ zs) k ≡ Some y → (slice_get xs k ≡ Some y) ⊎ InRest xs zs k y
splits [] zs k y is = let e : k ≡ 0 + k = omega arith in inr (k, e, is)
splits (x ∷ xs) zs zero y is = inl is
splits (x ∷ xs) zs (suc k) y is = later (splits xs zs k y is)
  where
    later : (slice_get xs k ≡ Some y) ⊎ InRest xs zs k y → (slice_get xs k ≡ Some y) ⊎ InRest (x ∷ xs) zs (suc k) y
    later (inl here) = inl here
    later (inr (j, e, there)) = let f : suc k ≡ suc (length xs) + j = omega (arith, e) in inr (j, f, there)

-- ** numbered nodes

pub numbered_length : {A : Type 0} → (f : ℕ → A → Node) (n : ℕ) (xs : List A) → length (numbered f n xs) ≡ length xs
numbered_length f n [] = refl
numbered_length f n (x ∷ xs) = ap suc (numbered_length f (suc n) xs)

numbered_from : {A : Type 0} → (f : ℕ → A → Node) (n : ℕ) (xs : List A) (i : ℕ) (x : A) → slice_get xs i ≡ Some x →
    slice_get (numbered f n xs) i ≡ Some (f (n + i) x)
numbered_from f n [] i x is = absurd (none-some _ is)
numbered_from f n (y ∷ ys) zero x is =
    let e : n ≡ n + 0 = omega arith in ap (λ m. Some (f m y)) e ∙ ap (λ z. Some (f (n + 0) z)) (same_Some _ _ is)
numbered_from f n (y ∷ ys) (suc i) x is =
    let e : suc n + i ≡ n + suc i = omega arith in numbered_from f (suc n) ys i x is ∙ ap (λ m. Some (f m x)) e

pub numbered_get : {A : Type 0} → (f : ℕ → A → Node) (xs : List A) (i : ℕ) (x : A) → slice_get xs i ≡ Some x →
    slice_get (numbered f 0 xs) i ≡ Some (f i x)
numbered_get f xs i x is = numbered_from f 0 xs i x is ∙ ap (λ m. Some (f m x)) (zero-add i)

-- what is among them
abbrev pub IsAmong : {A : Type 0} → (ℕ → A → Node) → List A → ℕ → Node → Type 0
IsAmong {A} f xs i y = (x : A) × (slice_get xs i ≡ Some x) × (f i x ≡ y)

among_from : {A : Type 0} → (f : ℕ → A → Node) (n : ℕ) (xs : List A) (i : ℕ) (y : Node) → slice_get (numbered f n xs) i ≡ Some y →
    (x : A) × (slice_get xs i ≡ Some x) × (f (n + i) x ≡ y)
among_from f n [] i y is = absurd (none-some _ is)
among_from f n (x ∷ xs) zero y is =
    let e : n + 0 ≡ n = omega arith in (x, refl, ap (λ m. f m x) e ∙ same_Some _ _ is)
among_from {A} f n (x ∷ xs) (suc i) y is = later (among_from f (suc n) xs i y is)
  where
    later : (z : A) × (slice_get xs i ≡ Some z) × (f (suc n + i) z ≡ y) → (z : A) × (slice_get xs i ≡ Some z) × (f (n + suc i) z ≡ y)
    later (z, got, e) = let m : n + suc i ≡ suc n + i = omega arith in (z, got, ap (λ k. f k z) m ∙ e)

pub among : {A : Type 0} → (f : ℕ → A → Node) (xs : List A) (i : ℕ) (y : Node) → slice_get (numbered f 0 xs) i ≡ Some y → IsAmong f xs i y
among {A} f xs i y is = later (among_from f 0 xs i y is)
  where
    later : (x : A) × (slice_get xs i ≡ Some x) × (f (0 + i) x ≡ y) → IsAmong f xs i y
    later (x, got, e) = (x, got, ap (λ m. f m x) (sym (zero-add i)) ∙ e)
