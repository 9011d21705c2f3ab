-- The names of classes once they are added: name by name, and class by class.
use Rattle.std.proofs.Common.{◌≡◌, ℕ, zero, suc, ◌+◌, ◌≤◌, Bool, true, false, cond, nat_eq, nat_lt, ◌&&◌, List, [], ◌∷◌, length, take, Option, None, Some, slice_get, refl, sym, ap, ◌∙◌, inl, inr, arith}
use Rattle.std.proofs.lemmas.Bool.{cases_eq}
use Rattle.std.proofs.lemmas.Bool.Decides.{nat_tests}
use Rattle.ui_machine.specs.Definition.Names.{place_from, place_named, same_name}
use Rattle.ui_machine.specs.Rules.EmissionPlan.{or_else}
use Rattle.name_tables.specs.Names.{with_number}
use Rattle.name_tables.specs.Steps.{AddsAll, HasUpTo}
use Rattle.name_tables.proofs.Numbers.{unchanged}

-- ** the first entries of a list, by their names

module _ {A : Type 0} (name_of : A → List ℕ) (name : List ℕ) where
  -- one entry more counts where none before is called so
  place_from-more : (i : ℕ) (xs : List A) (n : ℕ) (x : A) → slice_get xs n ≡ Some x
      → place_from name_of i (take (suc n) xs) name ≡ with_number (same_name (name_of x) name) (i + n) (place_from name_of i (take n xs) name)
  place_from-more i [] n x at = cc
  place_from-more i (y ∷ xs) zero x at =
      let is : y ≡ x = cc in
      let zero_more : i ≡ i + 0 = omega arith in
      ap (λ (z : A). cond (same_name (name_of z) name) (Some i) None) is ∙ ap (λ k. cond (same_name (name_of x) name) (Some k) None) zero_more
  place_from-more i (y ∷ xs) (suc n) x at = by (same_name (name_of y) name) (place_from-more (suc i) xs n x at)
    where
      later : Option ℕ
      later = place_from name_of (suc i) (take (suc n) xs) name

      before : Option ℕ
      before = place_from name_of (suc i) (take n xs) name

      by : (b : Bool) → later ≡ with_number (same_name (name_of x) name) (suc i + n) before
          → cond b (Some i) later ≡ with_number (same_name (name_of x) name) (i + suc n) (cond b (Some i) before)
      by true rest = refl
      by false rest =
          let shift : suc i + n ≡ i + suc n = omega arith in
          rest ∙ ap (λ k. with_number (same_name (name_of x) name) k before) shift

  pub place_named-more : (xs : List A) (n : ℕ) (x : A) → slice_get xs n ≡ Some x
      → place_named name_of (take (suc n) xs) name ≡ with_number (same_name (name_of x) name) n (place_named name_of (take n xs) name)
  place_named-more xs n x at =
      let none_before : 0 + n ≡ n = omega arith in
      place_from-more 0 xs n x at ∙ ap (λ k. with_number (same_name (name_of x) name) k (place_named name_of (take n xs) name)) none_before

-- the first of a list are all, where it has no more
pub take_past : {A : Type 0} (xs : List A) (n : ℕ) → length xs ≤ n → take n xs ≡ xs
take_past [] zero past = refl
take_past [] (suc n) past = refl
take_past (x ∷ xs) zero past = absurd (omega (arith, past))
take_past (x ∷ xs) (suc n) past = ap (λ l. x ∷ l) (take_past xs n (omega (arith, past)))

-- ** the names of one class

-- one name more, which counts where those before have none
pub adds_more : (old now new : ℕ → List ℕ → Option ℕ) (class number : ℕ) (name : List ℕ) (before after : List ℕ → Option ℕ)
    → AddsAll old now class before → ((c : ℕ) (n : List ℕ) → new c n ≡ with_number (nat_eq c class && same_name name n) number (now c n))
    → ((n : List ℕ) → after n ≡ with_number (same_name name n) number (before n)) → AddsAll old new class after
adds_more old now new class number name before after added more counts c n =
    more c n ∙ ap (with_number (nat_eq c class && same_name name n) number) (added c n)
    ∙ by (nat_eq c class)
    ∙ ap (λ o. cond (nat_eq c class) (or_else (old c n) o) (old c n)) (sym (counts n))
  where
    first : (o : Option ℕ) → with_number (same_name name n) number (or_else o (before n)) ≡ or_else o (with_number (same_name name n) number (before n))
    first None = refl
    first (Some k) = refl

    by : (b : Bool) → with_number (b && same_name name n) number (cond b (or_else (old c n) (before n)) (old c n))
        ≡ cond b (or_else (old c n) (with_number (same_name name n) number (before n))) (old c n)
    by true = first (old c n)
    by false = unchanged number (old c n)

-- ** the names of all classes

-- one class more
pub up_to_more : (called : ℕ → List ℕ → Option ℕ) (count : ℕ) (old new : ℕ → List ℕ → Option ℕ) (more : List ℕ → Option ℕ) → HasUpTo called count old
    → AddsAll old new count more → ((n : List ℕ) → more n ≡ called count n) → HasUpTo called (count + 1) new
up_to_more called count old new more has adds is c n = elim (cases_eq c count) [ inl same ↦ here same | inr other ↦ past other ]
  where
    here : c ≡ count → new c n ≡ cond (nat_lt c (count + 1)) (called c n) None
    here same =
        let last : nat_eq c count ≡ true = grind (arith, nat_tests) in
        let not_yet : nat_lt c count ≡ false = grind (arith, nat_tests) in
        let now : nat_lt c (count + 1) ≡ true = grind (arith, nat_tests) in
        adds c n ∙ ap (λ b. cond b (or_else (old c n) (more n)) (old c n)) last
        ∙ ap (λ o. or_else o (more n)) (has c n ∙ ap (λ b. cond b (called c n) None) not_yet)
        ∙ is n ∙ ap (λ k. called k n) (sym same)
        ∙ sym (ap (λ b. cond b (called c n) None) now)

    past : (c ≡ count → ⊥) → new c n ≡ cond (nat_lt c (count + 1)) (called c n) None
    past other =
        let elsewhere : nat_eq c count ≡ false = grind (arith, nat_tests) in
        let as_before : nat_lt c (count + 1) ≡ nat_lt c count = grind (arith, nat_tests) in
        adds c n ∙ ap (λ b. cond b (or_else (old c n) (more n)) (old c n)) elsewhere ∙ has c n ∙ sym (ap (λ b. cond b (called c n) None) as_before)

-- the names of all are those of every number, where those past the last have none
pub all_classes : (called : ℕ → List ℕ → Option ℕ) (count : ℕ) (names : ℕ → List ℕ → Option ℕ) → HasUpTo called count names
    → ((c : ℕ) → count ≤ c → (n : List ℕ) → called c n ≡ None) → (c : ℕ) (n : List ℕ) → names c n ≡ called c n
all_classes called count names has past c n = has c n ∙ by (nat_lt c count) refl
  where
    by : (b : Bool) → nat_lt c count ≡ b → cond b (called c n) None ≡ called c n
    by true e = refl
    by false e = let over : count ≤ c = grind (arith, nat_tests) in sym (past c over n)
