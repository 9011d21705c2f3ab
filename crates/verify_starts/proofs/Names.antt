-- Names that are looked up: the entry that is found has the name.
use Rattle.std.proofs.Common.{◌≡◌, ◌∙◌, refl, ap, ℕ, suc, ◌+◌, Bool, true, false, cond, nat_eq, List, [], ◌∷◌, Option, None, Some, slice_get, arith}
use Rattle.std.proofs.lemmas.Bool.{eqb-true}
use Rattle.std.proofs.lemmas.Option.{none-some, same_Some}
use Rattle.ui_machine.specs.Definition.Names.{place_from, place_named, same_name}

pub same_name_true : (xs ys : List ℕ) → same_name xs ys ≡ true → xs ≡ ys
same_name_true [] [] e = refl
same_name_true [] (y ∷ ys) e = absurd (cc)
same_name_true (x ∷ xs) [] e = absurd (cc)
same_name_true (x ∷ xs) (y ∷ ys) e = by (nat_eq x y) refl e (same_name_true xs ys)
  where
    by : (b : Bool) → nat_eq x y ≡ b → cond b (same_name xs ys) false ≡ true → (same_name xs ys ≡ true → xs ≡ ys) → x ∷ xs ≡ y ∷ ys
    by true same e later = let h = eqb-true x y same in let k = later e in cc
    by false same e later = absurd (cc)

-- the name of an entry, if it is there
abbrev pub name_in : {A : Type 0} → (A → List ℕ) → Option A → List ℕ
name_in name_of None = []
name_in name_of (Some x) = name_of x

module _ {A : Type 0} (name_of : A → List ℕ) (name : List ℕ) where
  found_from : (i : ℕ) (xs : List A) (m : ℕ) → place_from name_of i xs name ≡ Some m → (j : ℕ) × (m ≡ i + j) × (name_in name_of (slice_get xs j) ≡ name)
  found_from i [] m is = absurd (none-some m is)
  found_from i (x ∷ xs) m is = by (same_name (name_of x) name) refl is (found_from (suc i) xs m)
    where
      by : (b : Bool) → same_name (name_of x) name ≡ b → cond b (Some i) (place_from name_of (suc i) xs name) ≡ Some m →
          (place_from name_of (suc i) xs name ≡ Some m → (j : ℕ) × (m ≡ suc i + j) × (name_in name_of (slice_get xs j) ≡ name)) →
          (j : ℕ) × (m ≡ i + j) × (name_in name_of (slice_get (x ∷ xs) j) ≡ name)
      by true same h later = let k : i ≡ m = same_Some _ _ h in (0, omega (arith, k), same_name_true (name_of x) name same)
      by false same h later = let f = later h in let k = f.1 in (suc f.0, omega (arith, k), f.2)

  -- what is found has the name
  pub found_name : (xs : List A) (m : ℕ) → place_named name_of xs name ≡ Some m → name_in name_of (slice_get xs m) ≡ name
  found_name xs m is =
      let f = found_from 0 xs m is in
      let k = f.1 in
      let e : m ≡ f.0 = omega (arith, k) in
      ap (λ n. name_in name_of (slice_get xs n)) e ∙ f.2
