-- Tests of all entries of a list with their numbers.
use Rattle.std.proofs.Common.{◌≡◌, inl, inr, ◌⊎◌, refl, sym, subst, ℕ, zero, suc, ◌+◌, ◌<◌, Bool, true, List, [], ◌∷◌, length, Option, None, Some, slice_get, arith}
use Rattle.std.specs.Prelude.{◌&&◌}
use Rattle.std.specs.List.{list_all}
use Rattle.std.proofs.lemmas.Bool.{and_parts}
use Rattle.ui_machine.specs.Seq.{read}

abbrev pub all_from : {A : Type 0} → (ℕ → A → Bool) → ℕ → List A → Bool
all_from test n [] = true
all_from test n (x ∷ xs) = test n x && all_from test (suc n) xs

pub all_from_at : {A : Type 0} (test : ℕ → A → Bool) (n : ℕ) (xs : List A) (i : ℕ) (x : A) → all_from test n xs ≡ true → slice_get xs i ≡ Some x → test (n + i) x ≡ true
all_from_at test n [] i x e is = absurd (cc)
all_from_at test n (y ∷ ys) zero x e is =
    let same : y ≡ x = (let h = is in cc) in
    let here : n ≡ n + 0 = omega arith in
    subst (λ k. test k x ≡ true) here (subst (λ z. test n z ≡ true) same (and_parts _ _ e).0)
all_from_at test n (y ∷ ys) (suc i) x e is =
    let there : suc n + i ≡ n + suc i = omega arith in
    subst (λ k. test k x ≡ true) there (all_from_at test (suc n) ys i x (and_parts _ _ e).1 is)

pub all_from_get : {A : Type 0} (test : ℕ → A → Bool) (xs : List A) (i : ℕ) (x : A) → all_from test 0 xs ≡ true → slice_get xs i ≡ Some x → test i x ≡ true
all_from_get test xs i x e is = let same : 0 + i ≡ i = omega arith in subst (λ k. test k x ≡ true) same (all_from_at test 0 xs i x e is)

read_none : {A : Type 0} (none : A) (xs : List A) (i : ℕ) → slice_get xs i ≡ None → read none xs i ≡ none
read_none none [] i e = refl
read_none none (x ∷ xs) zero e = absurd (cc)
read_none none (x ∷ xs) (suc i) e = read_none none xs i e

read_some : {A : Type 0} (none : A) (xs : List A) (i : ℕ) (x : A) → slice_get xs i ≡ Some x → read none xs i ≡ x
read_some none [] i x e = absurd (cc)
read_some none (y ∷ ys) zero x e = (let h = e in cc)
read_some none (y ∷ ys) (suc i) x e = read_some none ys i x e

-- what is read is an entry, which passes, or the default
pub all_from_read : {A : Type 0} (test : ℕ → A → Bool) (none : A) (xs : List A) (i : ℕ) → all_from test 0 xs ≡ true →
    (test i (read none xs i) ≡ true) ⊎ (read none xs i ≡ none)
all_from_read {A = A} test none xs i e = go (slice_get xs i) refl
  where
    go : (o : Option A) → slice_get xs i ≡ o → (test i (read none xs i) ≡ true) ⊎ (read none xs i ≡ none)
    go None is = inr (read_none none xs i is)
    go (Some x) is = inl (subst (λ y. test i y ≡ true) (sym (read_some none xs i x is)) (all_from_get test xs i x e is))

-- a test of the number alone holds at each number of an entry
pub all_from_below : {A : Type 0} (test : ℕ → Bool) (xs : List A) (i : ℕ) → all_from (λ n (x : A). test n) 0 xs ≡ true → i < length xs → test i ≡ true
all_from_below {A = A} test xs i e below = go (slice_get xs i) refl
  where
    beyond : (ys : List A) (j : ℕ) → j < length ys → slice_get ys j ≡ None → ⊥
    beyond [] j h is = omega (arith, h)
    beyond (y ∷ ys) zero h is = absurd (cc)
    beyond (y ∷ ys) (suc j) h is = beyond ys j (let f = h in omega arith) is

    go : (o : Option A) → slice_get xs i ≡ o → test i ≡ true
    go None is = absurd (beyond xs i below is)
    go (Some x) is = all_from_get (λ n (x : A). test n) xs i x e is

-- what all entries pass each does
pub all_get : {A : Type 0} (test : A → Bool) (xs : List A) (i : ℕ) (x : A) → list_all test xs ≡ true → slice_get xs i ≡ Some x → test x ≡ true
all_get test [] i x e is = absurd (cc)
all_get test (y ∷ ys) zero x e is = let same : y ≡ x = (let h = is in cc) in subst (λ z. test z ≡ true) same (and_parts _ _ e).0
all_get test (y ∷ ys) (suc i) x e is = all_get test ys i x (and_parts _ _ e).1 is
