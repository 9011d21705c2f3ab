-- The order of keys, and what a set or a map has under them.
use Rattle.std.proofs.Common.{◌≡◌, ◌∙◌, ℕ, ◌+◌, ◌-◌, ◌<◌, ◌≤◌, Bool, true, false, cond, ◌&&◌, nat_eq, Option, Less, Equal, Greater, inl, inr, ◌⊎◌, refl, sym, ap, arith}
use Rattle.std.proofs.lemmas.Bool.Decides.{nat_tests}
use Rattle.std.proofs.lemmas.Cmp.{ranked}
use Rattle.std.specs.BTreeMap.{is_at}
use Rattle.std.specs.Option.{unwrap_or}
use Rattle.std.specs.Ordering.{is_eq, is_gt, nat_cmp, ordering_then}
use Rattle.std.specs.declared.cmp.Ordering.{Ordering}
use Rattle.signal_core.specs.Kept.{key_cmp, one_at, pair_cmp}

cmp_self : (x : ℕ) → nat_cmp x x ≡ Equal
cmp_self x = grind (arith, nat_tests)

-- ** keys

last_equal : (u w : Ordering) → is_eq (ordering_then u w) ≡ true → is_eq w ≡ true
last_equal Less w e = let no : false ≡ true = e in absurd (cc)
last_equal Equal w e = e
last_equal Greater w e = let no : false ≡ true = e in absurd (cc)

same_number : (x y : ℕ) → is_eq (nat_cmp x y) ≡ true → x ≡ y
same_number x y e = grind (arith, nat_tests)

-- keys with other numbers are apart
pub apart : (a b c n x y z m : ℕ) → (m ≡ n → ⊥) → is_at (key_cmp (a, b, c, n)) (x, y, z, m) ≡ false
apart a b c n x y z m ne = by (is_at (key_cmp (a, b, c, n)) (x, y, z, m)) refl
  where
    by : (t : Bool) → is_at (key_cmp (a, b, c, n)) (x, y, z, m) ≡ t → t ≡ false
    by false e = refl
    by true e = absurd (ne (sym (same_number n m (last_equal (ordering_then (ordering_then (nat_cmp a x) (nat_cmp b y)) (nat_cmp c z)) (nat_cmp n m) e))))

first_of : (x y : ℕ) (o : Ordering) → is_gt (ordering_then (nat_cmp x y) o) ≡ false → (x < y) ⊎ ((x ≡ y) × (is_gt o ≡ false))
first_of x y o = by (nat_cmp x y) refl
  where
    by : (r : Ordering) → r ≡ nat_cmp x y → is_gt (ordering_then r o) ≡ false → (x < y) ⊎ ((x ≡ y) × (is_gt o ≡ false))
    by Less e h = inl (ranked x y Less e)
    by Equal e h = inr (ranked x y Equal e, h)
    by Greater e h = let no : true ≡ false = h in absurd (cc)

then_assoc : (u v w : Ordering) → ordering_then (ordering_then u v) w ≡ ordering_then u (ordering_then v w)
then_assoc Less v w = refl
then_assoc Equal v w = refl
then_assoc Greater v w = refl

up_to : (x y : ℕ) → is_gt (nat_cmp x y) ≡ false → x ≤ y
up_to x y h = grind (arith, nat_tests)

-- of two numbers each at most the other, and what comes after them
tied : (x y : ℕ) (o p : Ordering) → is_gt (ordering_then (nat_cmp x y) o) ≡ false → is_gt (ordering_then (nat_cmp y x) p) ≡ false
    → (is_gt o ≡ false) × (is_gt p ≡ false)
tied x y o p lo hi =
    elim (first_of x y o lo) [
      | inl l ↦
          elim (first_of y x p hi) [
            | inl r ↦ absurd (omega (arith, l, r))
            | inr e ↦ absurd (omega (arith, l, e.0))
          ]
      | inr e ↦
          elim (first_of y x p hi) [
            | inl r ↦ absurd (omega (arith, r, e.0))
            | inr f ↦ (e.1, f.1)
          ]
    ]

regrouped : (s t u v : Ordering) → ordering_then (ordering_then (ordering_then s t) u) v ≡ ordering_then s (ordering_then t (ordering_then u v))
regrouped s t u v = then_assoc (ordering_then s t) u v ∙ then_assoc s t (ordering_then u v)

-- a key between two of the same first three has these too, as far as it matters
pub between : (a b c n m : ℕ) (x y z k : ℕ) → is_gt (key_cmp (a, b, c, n) (x, y, z, k)) ≡ false → is_gt (key_cmp (x, y, z, k) (a, b, c, m)) ≡ false
    → (n ≤ k) × (k ≤ m)
between a b c n m x y z k lo hi =
    let low = ap is_gt (sym (regrouped (nat_cmp a x) (nat_cmp b y) (nat_cmp c z) (nat_cmp n k))) ∙ lo in
    let high = ap is_gt (sym (regrouped (nat_cmp x a) (nat_cmp y b) (nat_cmp z c) (nat_cmp k m))) ∙ hi in
    let one = tied a x (ordering_then (nat_cmp b y) (ordering_then (nat_cmp c z) (nat_cmp n k))) (ordering_then (nat_cmp y b) (ordering_then (nat_cmp z c) (nat_cmp k m))) low high in
    let two = tied b y (ordering_then (nat_cmp c z) (nat_cmp n k)) (ordering_then (nat_cmp z c) (nat_cmp k m)) one.0 one.1 in
    let three = tied c z (nat_cmp n k) (nat_cmp k m) two.0 two.1 in
    (up_to n k three.0, up_to k m three.1)

-- of two numbers each at most the other, they are one
tied_same : (x y : ℕ) (o p : Ordering) → is_gt (ordering_then (nat_cmp x y) o) ≡ false → is_gt (ordering_then (nat_cmp y x) p) ≡ false → x ≡ y
tied_same x y o p lo hi =
    elim (first_of x y o lo) [
      | inl l ↦
          elim (first_of y x p hi) [
            | inl r ↦ absurd (omega (arith, l, r))
            | inr e ↦ absurd (omega (arith, l, e.0))
          ]
      | inr e ↦ e.0
    ]

-- a key between two of the same first three has these too
pub front : (a b c n m : ℕ) (x y z k : ℕ) → is_gt (key_cmp (a, b, c, n) (x, y, z, k)) ≡ false → is_gt (key_cmp (x, y, z, k) (a, b, c, m)) ≡ false
    → (a ≡ x) × (b ≡ y) × (c ≡ z)
front a b c n m x y z k lo hi =
    let low = ap is_gt (sym (regrouped (nat_cmp a x) (nat_cmp b y) (nat_cmp c z) (nat_cmp n k))) ∙ lo in
    let high = ap is_gt (sym (regrouped (nat_cmp x a) (nat_cmp y b) (nat_cmp z c) (nat_cmp k m))) ∙ hi in
    let one = tied a x (ordering_then (nat_cmp b y) (ordering_then (nat_cmp c z) (nat_cmp n k))) (ordering_then (nat_cmp y b) (ordering_then (nat_cmp z c) (nat_cmp k m))) low high in
    let two = tied b y (ordering_then (nat_cmp c z) (nat_cmp n k)) (ordering_then (nat_cmp z c) (nat_cmp k m)) one.0 one.1 in (
      tied_same a x _ _ low high,
      tied_same b y _ _ one.0 one.1,
      tied_same c z _ _ two.0 two.1,
    )

rising : (n m : ℕ) → n ≤ m → is_gt (nat_cmp n m) ≡ false
rising n m h = grind (arith, nat_tests)

-- keys of the same first three go by their numbers
pub along : (a b c n m : ℕ) → n ≤ m → is_gt (key_cmp (a, b, c, n) (a, b, c, m)) ≡ false
along a b c n m h =
    ap (λ o. is_gt (ordering_then (ordering_then (ordering_then o (nat_cmp b b)) (nat_cmp c c)) (nat_cmp n m))) (cmp_self a)
    ∙ ap (λ o. is_gt (ordering_then (ordering_then o (nat_cmp c c)) (nat_cmp n m))) (cmp_self b)
    ∙ ap (λ o. is_gt (ordering_then o (nat_cmp n m))) (cmp_self c) ∙ rising n m h

-- what was there is there still, with one more
pub still : (at was : Bool) → was ≡ true → cond at true was ≡ true
still true was e = refl
still false was e = e

-- ** counts by pairs

equal_test : (x y : ℕ) → is_eq (nat_cmp x y) ≡ nat_eq x y
equal_test x y = grind (arith, nat_tests)

then_equal : (u v : Ordering) → is_eq (ordering_then u v) ≡ (is_eq u && is_eq v)
then_equal Less v = refl
then_equal Equal v = refl
then_equal Greater v = refl

pub pair_at : (a b o s : ℕ) → is_at (pair_cmp (a, b)) (o, s) ≡ (nat_eq a o && nat_eq b s)
pair_at a b o s =
    then_equal (nat_cmp a o) (nat_cmp b s) ∙ ap (λ t. t && is_eq (nat_cmp b s)) (equal_test a o) ∙ ap (λ t. nat_eq a o && t) (equal_test b s)

both_same : (x y p q : ℕ) → (nat_eq x p && nat_eq y q) ≡ true → (x ≡ p) × (y ≡ q)
both_same x y p q h = by (nat_eq x p) (nat_eq y q) refl refl h
  where
    by : (s t : Bool) → nat_eq x p ≡ s → nat_eq y q ≡ t → (s && t) ≡ true → (x ≡ p) × (y ≡ q)
    by true true e f h = (grind (arith, nat_tests), grind (arith, nat_tests))
    by true false e f h = let no : false ≡ true = h in absurd (cc)
    by false t e f h = let no : false ≡ true = h in absurd (cc)

-- a count that is written at a pair
pub counted : (f : ℕ → ℕ → Option ℕ) (a b o s : ℕ) (w new : Option ℕ) → new ≡ cond (is_at (pair_cmp (a, b)) (o, s)) w (f o s)
    → unwrap_or new 0 ≡ cond (nat_eq a o && nat_eq b s) (unwrap_or w 0) (unwrap_or (f o s) 0)
counted f a b o s w new e =
    ap (λ x. unwrap_or x 0) (e ∙ ap (λ t. cond t w (f o s)) (pair_at a b o s)) ∙ by (nat_eq a o && nat_eq b s)
  where
    by : (t : Bool) → unwrap_or (cond t w (f o s)) 0 ≡ cond t (unwrap_or w 0) (unwrap_or (f o s) 0)
    by true = refl
    by false = refl

pub one_more : (count : ℕ → ℕ → ℕ) (a b o s w : ℕ) → w ≡ count a b + 1 → cond (nat_eq a o && nat_eq b s) w (count o s) ≡ count o s + one_at a b o s
one_more count a b o s w e = by (nat_eq a o && nat_eq b s) refl
  where
    by : (t : Bool) → (nat_eq a o && nat_eq b s) ≡ t → cond t w (count o s) ≡ count o s + cond t 1 0
    by true h =
        let same = both_same a b o s h in
        let here : count a b ≡ count o s = ap (λ x. count x b) same.0 ∙ ap (count o) same.1 in
        omega (arith, e, here)
    by false h = omega arith

pub one_less : (count : ℕ → ℕ → ℕ) (a b o s w : ℕ) → w ≡ count a b - 1 → cond (nat_eq a o && nat_eq b s) w (count o s) ≡ count o s - one_at a b o s
one_less count a b o s w e = by (nat_eq a o && nat_eq b s) refl
  where
    by : (t : Bool) → (nat_eq a o && nat_eq b s) ≡ t → cond t w (count o s) ≡ count o s - cond t 1 0
    by true h =
        let same = both_same a b o s h in
        let here : count a b ≡ count o s = ap (λ x. count x b) same.0 ∙ ap (count o) same.1 in
        omega (arith, e, here)
    by false h = omega arith
