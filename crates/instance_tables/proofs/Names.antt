-- Values that name objects, and an index of who names whom.
use Rattle.std.proofs.Common.{◌≡◌, ◌∙◌, ℕ, suc, ◌<◌, ◌≤◌, length, List, [], ◌∷◌, Bool, true, false, cond, ◌&&◌, ◌||◌, nat_eq, Some, None, slice_get, inl, inr, ◌⊎◌, Less, Equal, Greater, refl, ap, arith}
use Rattle.std.proofs.lemmas.Bool.Decides.{nat_tests}
use Rattle.std.proofs.lemmas.Cmp.{ranked}
use Rattle.std.specs.BTreeMap.{is_at}
use Rattle.std.specs.Ordering.{is_eq, is_gt, nat_cmp, ordering_then}
use Rattle.std.specs.declared.cmp.Ordering.{Ordering}
use Rattle.ui_machine.specs.Definition.Values.{Value}
use Rattle.ui_machine.specs.Definition.Values as values
use Rattle.ui_machine.specs.Rules.Disposal.{names_object}
use Rattle.instance_tables.specs.Names.{names_any, pair_cmp}
use Rattle.instance_tables.specs.Release.{name_in}
use Rattle.instance_tables.specs.Store.{named_by}

-- ** pairs

then_equal : (u v : Ordering) → is_eq (ordering_then u v) ≡ (is_eq u && is_eq v)
then_equal Less v = refl
then_equal Equal v = refl
then_equal Greater v = refl

equal_test : (x y : ℕ) → is_eq (nat_cmp x y) ≡ nat_eq x y
equal_test x y = grind (arith, nat_tests)

-- other pairs are apart
pub apart : (a b x y : ℕ) → (x ≡ a → y ≡ b → ⊥) → is_at (pair_cmp (a, b)) (x, y) ≡ false
apart a b x y ne =
    then_equal (nat_cmp a x) (nat_cmp b y) ∙ ap (λ t. t && is_eq (nat_cmp b y)) (equal_test a x) ∙ ap (λ t. nat_eq a x && t) (equal_test b y)
    ∙ by (nat_eq a x) (nat_eq b y) refl refl
  where
    by : (s t : Bool) → nat_eq a x ≡ s → nat_eq b y ≡ t → (s && t) ≡ false
    by true true e f =
        let one : x ≡ a = grind (arith, nat_tests) in
        let two : y ≡ b = grind (arith, nat_tests) in
        absurd (ne one two)
    by true false e f = refl
    by false t e f = refl

cmp_self : (x : ℕ) → nat_cmp x x ≡ Equal
cmp_self x = grind (arith, nat_tests)

rising : (n m : ℕ) → n ≤ m → is_gt (nat_cmp n m) ≡ false
rising n m h = grind (arith, nat_tests)

-- pairs of the same first one go by the second
pub along : (a n m : ℕ) → n ≤ m → is_gt (pair_cmp (a, n) (a, m)) ≡ false
along a n m h = ap (λ o. is_gt (ordering_then o (nat_cmp n m))) (cmp_self a) ∙ rising n m h

first_of : (x y : ℕ) (o : Ordering) → is_gt (ordering_then (nat_cmp x y) o) ≡ false → (x < y) ⊎ ((x ≡ y) × (is_gt o ≡ false))
first_of x y o = by (nat_cmp x y) refl
  where
    by : (r : Ordering) → r ≡ nat_cmp x y → is_gt (ordering_then r o) ≡ false → (x < y) ⊎ ((x ≡ y) × (is_gt o ≡ false))
    by Less e h = inl (ranked x y Less e)
    by Equal e h = inr (ranked x y Equal e, h)
    by Greater e h = let no : true ≡ false = h in absurd (cc)

up_to : (x y : ℕ) → is_gt (nat_cmp x y) ≡ false → x ≤ y
up_to x y h = grind (arith, nat_tests)

-- a pair between two of the same first one has it too
pub between : (a n m x k : ℕ) → is_gt (pair_cmp (a, n) (x, k)) ≡ false → is_gt (pair_cmp (x, k) (a, m)) ≡ false → (n ≤ k) × (k ≤ m)
between a n m x k lo hi =
    elim (first_of a x (nat_cmp n k) lo) [
      | inl l ↦
          elim (first_of x a (nat_cmp k m) hi) [
            | inl r ↦ absurd (omega (arith, l, r))
            | inr e ↦ absurd (omega (arith, l, e.0))
          ]
      | inr e ↦
          elim (first_of x a (nat_cmp k m) hi) [
            | inl r ↦ absurd (omega (arith, r, e.0))
            | inr f ↦ (up_to n k e.1, up_to k m f.1)
          ]
    ]

-- what was there is there still, with one more
pub still : (up at was : Bool) → (up || was) ≡ true → (up || cond at true was) ≡ true
still true at was e = refl
still false true was e = refl
still false false was e = e

-- of an index that was not given up
pub not_up : (up was : Bool) → up ≡ false → (up || was) ≡ true → was ≡ true
not_up true was e h = absurd (cc)
not_up false was e h = h

-- ** values

-- the object that a value names
pub by_name : (t : ℕ) (v : Value) → names_object t v ≡ true → named_by v ≡ Some t
by_name t (values.bool b) e = let no : false ≡ true = e in absurd (cc)
by_name t (values.whole kind n) e = let no : false ≡ true = e in absurd (cc)
by_name t (values.text s) e = let no : false ≡ true = e in absurd (cc)
by_name t (values.enum type n) e = let no : false ≡ true = e in absurd (cc)
by_name t (values.flags type bits) e = let no : false ≡ true = e in absurd (cc)
by_name t (values.object None) e = let no : false ≡ true = e in absurd (cc)
by_name t (values.object (Some i)) e = let same : i ≡ t = grind (arith, nat_tests) in ap Some same

pub or_else : (a b : Bool) → (a || b) ≡ true → (a ≡ true) ⊎ (b ≡ true)
or_else true b e = inl refl
or_else false b e = inr e

-- the slot of a value that names one
pub slot_of : (t : ℕ) (vs : List Value) → names_any t vs ≡ true → (i : ℕ) × (i < length vs) × (name_in (slice_get vs i) ≡ Some t)
slot_of t [] e = let no : false ≡ true = e in absurd (cc)
slot_of t (v ∷ vs) e =
    elim (or_else (names_object t v) (names_any t vs) e) [
      | inl here ↦ (0, omega arith, by_name t v here)
      | inr later ↦ let rest = slot_of t vs later in (suc rest.0, omega (arith, rest.1), rest.2)
    ]
