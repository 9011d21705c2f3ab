-- The order of keys, and what a set has under them.
use Rattle.std.proofs.Common.{◌≡◌, ◌∙◌, ℕ, ◌<◌, ◌≤◌, Bool, true, false, cond, Less, Equal, Greater, inl, inr, ◌⊎◌, refl, sym, ap, arith}
use Rattle.std.proofs.lemmas.Bool.Decides.{nat_tests}
use Rattle.std.proofs.lemmas.Cmp.{ranked}
use Rattle.std.specs.BTreeMap.{is_at}
use Rattle.std.specs.Ordering.{is_eq, is_gt, is_lt, nat_cmp, ordering_then}
use Rattle.std.specs.declared.cmp.Ordering.{Ordering}
use Rattle.bindings.specs.Kept.{key_cmp}

cmp_self : (x : ℕ) → nat_cmp x x ≡ Equal
cmp_self x = grind (arith, nat_tests)

last_equal : (u w : Ordering) → is_eq (ordering_then u w) ≡ true → is_eq w ≡ true
last_equal Less w e = let no : false ≡ true = e in absurd (cc)
last_equal Equal w e = e
last_equal Greater w e = let no : false ≡ true = e in absurd (cc)

same_number : (x y : ℕ) → is_eq (nat_cmp x y) ≡ true → x ≡ y
same_number x y e = grind (arith, nat_tests)

-- keys with other numbers are apart
pub apart : (a b n x y m : ℕ) → (m ≡ n → ⊥) → is_at (key_cmp (a, b, n)) (x, y, m) ≡ false
apart a b n x y m ne = by (is_at (key_cmp (a, b, n)) (x, y, m)) refl
  where
    by : (t : Bool) → is_at (key_cmp (a, b, n)) (x, y, m) ≡ t → t ≡ false
    by false e = refl
    by true e = absurd (ne (sym (same_number n m (last_equal (ordering_then (nat_cmp a x) (nat_cmp b y)) (nat_cmp n m) e))))

first_of : (x y : ℕ) (o : Ordering) → is_gt (ordering_then (nat_cmp x y) o) ≡ false → (x < y) ⊎ ((x ≡ y) × (is_gt o ≡ false))
first_of x y o = by (nat_cmp x y) refl
  where
    by : (r : Ordering) → r ≡ nat_cmp x y → is_gt (ordering_then r o) ≡ false → (x < y) ⊎ ((x ≡ y) × (is_gt o ≡ false))
    by Less e h = inl (ranked x y Less e)
    by Equal e h = inr (ranked x y Equal e, h)
    by Greater e h = let no : true ≡ false = h in absurd (cc)

then_assoc : (u v w : Ordering) → ordering_then (ordering_then u v) w ≡ ordering_then u (ordering_then v w)
then_assoc Less v w = refl
then_assoc Equal v w = refl
then_assoc Greater v w = refl

up_to : (x y : ℕ) → is_gt (nat_cmp x y) ≡ false → x ≤ y
up_to x y h = grind (arith, nat_tests)

-- of two numbers each at most the other, and what comes after them
tied : (x y : ℕ) (o p : Ordering) → is_gt (ordering_then (nat_cmp x y) o) ≡ false → is_gt (ordering_then (nat_cmp y x) p) ≡ false
    → (is_gt o ≡ false) × (is_gt p ≡ false)
tied x y o p lo hi =
    elim (first_of x y o lo) [
      | inl l ↦
          elim (first_of y x p hi) [
            | inl r ↦ absurd (omega (arith, l, r))
            | inr e ↦ absurd (omega (arith, l, e.0))
          ]
      | inr e ↦
          elim (first_of y x p hi) [
            | inl r ↦ absurd (omega (arith, r, e.0))
            | inr f ↦ (e.1, f.1)
          ]
    ]

-- a key between two of the same first two has these too, as far as it matters
pub between : (a b n m : ℕ) (x y k : ℕ) → is_gt (key_cmp (a, b, n) (x, y, k)) ≡ false → is_gt (key_cmp (x, y, k) (a, b, m)) ≡ false
    → (n ≤ k) × (k ≤ m)
between a b n m x y k lo hi =
    let low = ap is_gt (sym (then_assoc (nat_cmp a x) (nat_cmp b y) (nat_cmp n k))) ∙ lo in
    let high = ap is_gt (sym (then_assoc (nat_cmp x a) (nat_cmp y b) (nat_cmp k m))) ∙ hi in
    let one = tied a x (ordering_then (nat_cmp b y) (nat_cmp n k)) (ordering_then (nat_cmp y b) (nat_cmp k m)) low high in
    let two = tied b y (nat_cmp n k) (nat_cmp k m) one.0 one.1 in
    (up_to n k two.0, up_to k m two.1)

rising : (n m : ℕ) → n ≤ m → is_gt (nat_cmp n m) ≡ false
rising n m h = grind (arith, nat_tests)

-- keys of the same first two go by their numbers
pub along : (a b n m : ℕ) → n ≤ m → is_gt (key_cmp (a, b, n) (a, b, m)) ≡ false
along a b n m h =
    ap (λ o. is_gt (ordering_then (ordering_then o (nat_cmp b b)) (nat_cmp n m))) (cmp_self a)
    ∙ ap (λ o. is_gt (ordering_then o (nat_cmp n m))) (cmp_self b) ∙ rising n m h

-- a comparison the other way round
abbrev turned : Ordering → Ordering
turned Less = Greater
turned Equal = Equal
turned Greater = Less

turned_numbers : (x y : ℕ) → nat_cmp y x ≡ turned (nat_cmp x y)
turned_numbers x y = grind (arith, nat_tests)

turned_then : (u v : Ordering) → turned (ordering_then u v) ≡ ordering_then (turned u) (turned v)
turned_then Less v = refl
turned_then Equal v = refl
turned_then Greater v = refl

turned_greater : (u : Ordering) → is_gt (turned u) ≡ is_lt u
turned_greater Less = refl
turned_greater Equal = refl
turned_greater Greater = refl

turned_keys : (x y k a b n : ℕ) → key_cmp (a, b, n) (x, y, k) ≡ turned (key_cmp (x, y, k) (a, b, n))
turned_keys x y k a b n =
    ap (λ o. ordering_then (ordering_then o (nat_cmp b y)) (nat_cmp n k)) (turned_numbers x a)
    ∙ ap (λ o. ordering_then (ordering_then (turned (nat_cmp x a)) o) (nat_cmp n k)) (turned_numbers y b)
    ∙ ap (λ o. ordering_then (ordering_then (turned (nat_cmp x a)) (turned (nat_cmp y b))) o) (turned_numbers k n)
    ∙ sym (turned_then (ordering_then (nat_cmp x a) (nat_cmp y b)) (nat_cmp k n) ∙ ap (λ o. ordering_then o (turned (nat_cmp k n))) (turned_then (nat_cmp x a) (nat_cmp y b)))

-- a key that is not below another one has that one up to it
pub from_not_less : (x y k a b n : ℕ) → is_lt (key_cmp (x, y, k) (a, b, n)) ≡ false → is_gt (key_cmp (a, b, n) (x, y, k)) ≡ false
from_not_less x y k a b n h = ap is_gt (turned_keys x y k a b n) ∙ turned_greater (key_cmp (x, y, k) (a, b, n)) ∙ h

-- what was there is there still, with one more
pub still : (at was : Bool) → was ≡ true → cond at true was ≡ true
still true was e = refl
still false was e = e
