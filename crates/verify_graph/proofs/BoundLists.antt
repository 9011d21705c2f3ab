-- Bindings that are gone through one after the other.
use Rattle.std.proofs.Common.{◌≡◌, ◌∙◌, refl, sym, ap, ℕ, zero, suc, ◌+◌, ◌≤◌, Bool, true, false, cond, List, [], ◌∷◌, ◌++◌, length, map, drop, None, Some, slice_get, arith}
use Rattle.std.specs.List.{filter}
use Rattle.std.proofs.lemmas.Option.{none-some, same_Some}

more : (n : ℕ) → suc n + 1 ≡ suc (n + 1)
more n = omega arith

pub from_got : {A : Type 0} → (xs : List A) (n : ℕ) (x : A) → Some x ≡ slice_get xs n → drop n xs ≡ x ∷ drop (n + 1) xs
from_got [] n x is = absurd (none-some _ (sym is))
from_got (y ∷ ys) zero x is = ap (λ z. z ∷ ys) (same_Some _ _ (sym is))
from_got (y ∷ ys) (suc n) x is = from_got ys n x is ∙ ap (λ m. x ∷ drop m (y ∷ ys)) (sym (more n))

pub none_got : {A : Type 0} → (xs : List A) (n : ℕ) → None ≡ slice_get xs n → drop n xs ≡ []
none_got [] zero is = refl
none_got [] (suc n) is = refl
none_got (x ∷ xs) zero is = absurd (none-some _ is)
none_got (x ∷ xs) (suc n) is = none_got xs n is

pub none_left : {A : Type 0} → (xs : List A) (n : ℕ) → length xs ≤ n → drop n xs ≡ []
none_left [] zero behind = refl
none_left [] (suc n) behind = refl
none_left (x ∷ xs) zero behind = absurd (omega (arith, behind))
none_left (x ∷ xs) (suc n) behind = none_left xs n (omega (arith, behind))

module _ {A B : Type 0} (test : A → Bool) (f : A → B) where
  first_apart : (x : A) (xs : List A) → map f (filter test (x ∷ xs)) ≡ map f (filter test (x ∷ [])) ++ map f (filter test xs)
  first_apart x xs = by (test x)
    where
      by : (b : Bool) → map f (cond b (x ∷ filter test xs) (filter test xs)) ≡ map f (cond b (x ∷ []) []) ++ map f (filter test xs)
      by true = refl
      by false = refl

  -- the next one
  pub next_kept : (xs : List A) (n : ℕ) (x : A) → Some x ≡ slice_get xs n →
      map f (filter test (drop n xs)) ≡ map f (filter test (x ∷ [])) ++ map f (filter test (drop (n + 1) xs))
  next_kept xs n x is = ap (λ ys. map f (filter test ys)) (from_got xs n x is) ∙ first_apart x (drop (n + 1) xs)

  -- behind the last there is none
  pub none_kept : (xs : List A) (n : ℕ) → None ≡ slice_get xs n → map f (filter test (drop n xs)) ≡ []
  none_kept xs n is = ap (λ ys. map f (filter test ys)) (none_got xs n is)

  pub all_kept : (xs : List A) (n : ℕ) → length xs ≤ n → map f (filter test (drop n xs)) ≡ []
  all_kept xs n behind = ap (λ ys. map f (filter test ys)) (none_left xs n behind)
