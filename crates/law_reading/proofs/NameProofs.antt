-- Lists in which no two entries are the same, and properties and signals under names that differ.
use Rattle.std.proofs.Common.{◌≡◌, ℕ, zero, suc, ◌+◌, Bool, true, false, cond, not, ◌&&◌, ◌||◌, nat_eq, arith, List, [], ◌∷◌, ◌++◌, map, None, Some, slice_get, refl, sym, ap, subst, ◌∙◌}
use Rattle.std.specs.List.{list_any}
use Rattle.std.proofs.lemmas.Bool.{eq-eqb}
use Rattle.std.proofs.lemmas.List.{append-nil}
use Rattle.std.proofs.lemmas.List.Folds.{list_any-append}
use Rattle.std.proofs.lemmas.Option.{none-some}
use Rattle.ui_machine.specs.Definition.Names.{same_name, place_from}
use Rattle.ui_machine.specs.Definition.Properties.{Spec}
use Rattle.ui_machine.specs.Definition.Signals.{Signal}
use Rattle.type_tree.proofs.Lookups.{nat_eq-comm}
use Rattle.law_typing.specs.Laws.WellRead.{no_two}

-- ** an entry more

pub two_parts : (a b : Bool) → (not a && b) ≡ true → (a ≡ false) × (b ≡ true)
two_parts true b e = absurd (cc)
two_parts false b e = (refl, e)

both_hold : (a b : Bool) → a ≡ false → b ≡ true → (not a && b) ≡ true
both_hold a b p q = ap (λ x. not x && b) p ∙ q

pub neither : (a b : Bool) → (a || b) ≡ false → (a ≡ false) × (b ≡ false)
neither true b e = absurd (cc)
neither false b e = (refl, e)

pub none_holds : (a b : Bool) → a ≡ false → b ≡ false → (a || b) ≡ false
none_holds a b p q = ap (λ x. x || b) p ∙ q

any_push : {A B : Type 0} (of : A → B) (test : B → Bool) (xs : List A) (x : A) → list_any test (map of xs) ≡ false → test (of x) ≡ false
    → list_any test (map of (xs ++ x ∷ [])) ≡ false
any_push of test [] x e h = none_holds (test (of x)) false h refl
any_push of test (y ∷ ys) x e h =
    let old = neither (test (of y)) (list_any test (map of ys)) e in
    none_holds (test (of y)) (list_any test (map of (ys ++ x ∷ []))) old.0 (any_push of test ys x old.1 h)

-- no two are the same where one comes that is like none of them
pub apart_push : {A B : Type 0} (of : A → B) (same : B → B → Bool) (xs : List A) (x : A) → no_two same (map of xs) ≡ true
    → list_any (λ y. same (of y) (of x)) xs ≡ false → no_two same (map of (xs ++ x ∷ [])) ≡ true
apart_push of same [] x apart new = refl
apart_push of same (y ∷ ys) x apart new =
    let old = two_parts (list_any (same (of y)) (map of ys)) (no_two same (map of ys)) apart in
    let like = neither (same (of y) (of x)) (list_any (λ z. same (of z) (of x)) ys) new in
    both_hold (list_any (same (of y)) (map of (ys ++ x ∷ []))) (no_two same (map of (ys ++ x ∷ [])))
    (any_push of (same (of y)) ys x old.0 like.0) (apart_push of same ys x old.1 like.1)

-- ** entries by name

-- no two entries have one name
abbrev pub AreApart : {A : Type 0} → (A → List ℕ) → List A → Type 0
AreApart of xs = no_two same_name (map of xs) ≡ true

pub name_refl : (n : List ℕ) → same_name n n ≡ true
name_refl [] = refl
name_refl (x ∷ xs) = ap (λ b. cond b (same_name xs xs) false) (eq-eqb x x refl) ∙ name_refl xs

name_swapped : (a b : List ℕ) → same_name a b ≡ same_name b a
name_swapped [] [] = refl
name_swapped [] (y ∷ ys) = refl
name_swapped (x ∷ xs) [] = refl
name_swapped (x ∷ xs) (y ∷ ys) =
    ap (λ b. cond b (same_name xs ys) false) (nat_eq-comm x y) ∙ ap (λ b. cond (nat_eq y x) b false) (name_swapped xs ys)

module _ {A : Type 0} (of : A → List ℕ) where
  -- whether an entry has the name
  abbrev pub is_named : List A → List ℕ → Bool
  is_named xs name = list_any (λ x. same_name (of x) name) xs

  pub none_called : (k : ℕ) (xs : List A) (name : List ℕ) → place_from of k xs name ≡ None → is_named xs name ≡ false
  none_called k [] name none = refl
  none_called k (x ∷ xs) name none = by (same_name (of x) name) none (none_called (suc k) xs name)
    where
      by : (b : Bool) → cond b (Some k) (place_from of (suc k) xs name) ≡ None
          → (place_from of (suc k) xs name ≡ None → is_named xs name ≡ false) → (b || is_named xs name) ≡ false
      by true e later = absurd (none-some k (sym e))
      by false e later = later e

  -- an entry more, under a name that none has
  pub named_push : (k : ℕ) (xs : List A) (x : A) → AreApart of xs → place_from of k xs (of x) ≡ None → AreApart of (xs ++ x ∷ [])
  named_push k xs x named none = apart_push of same_name xs x named (none_called k xs (of x) none)

  not_any : (test : List ℕ → Bool) (xs : List A) (i : ℕ) (y : A) → list_any test (map of xs) ≡ false → slice_get xs i ≡ Some y
      → test (of y) ≡ false
  not_any test [] i y e h = absurd (cc)
  not_any test (x ∷ xs) zero y e h =
      let same : x ≡ y = cc in
      ap (λ (z : A). test (of z)) (sym same) ∙ (neither (test (of x)) (list_any test (map of xs)) e).0
  not_any test (x ∷ xs) (suc i) y e h = not_any test xs i y (neither (test (of x)) (list_any test (map of xs)) e).1 h

  -- where names differ, each finds its own
  pub named_found : (k : ℕ) (xs : List A) (i : ℕ) (y : A) → AreApart of xs → slice_get xs i ≡ Some y
      → place_from of k xs (of y) ≡ Some (k + i)
  named_found k [] i y named h = absurd (cc)
  named_found k (x ∷ xs) zero y named h =
      let same : x ≡ y = cc in
      let here : same_name (of x) (of y) ≡ true = ap (λ (z : A). same_name (of x) (of z)) (sym same) ∙ name_refl (of x) in
      ap (λ b. cond b (Some k) (place_from of (suc k) xs (of y))) here ∙ ap Some (omega arith)
  named_found k (x ∷ xs) (suc i) y named h =
      let p = two_parts (list_any (same_name (of x)) (map of xs)) (no_two same_name (map of xs)) named in
      let other : same_name (of x) (of y) ≡ false = not_any (same_name (of x)) xs i y p.0 h in
      ap (λ b. cond b (Some k) (place_from of (suc k) xs (of y))) other ∙ named_found (suc k) xs i y p.1 h
      ∙ ap Some (omega arith)

  -- ** names that none has

  -- a name that none of two lists has
  pub unnamed_parts : (xs ys : List A) (name : List ℕ) → is_named (xs ++ ys) name ≡ false
      → (is_named xs name ≡ false) × (is_named ys name ≡ false)
  unnamed_parts xs ys name e =
      neither (is_named xs name) (is_named ys name) (sym (list_any-append (λ x. same_name (of x) name) xs ys) ∙ e)

  pub unnamed_both : (xs ys : List A) (name : List ℕ) → is_named xs name ≡ false → is_named ys name ≡ false
      → is_named (xs ++ ys) name ≡ false
  unnamed_both xs ys name p q =
      list_any-append (λ x. same_name (of x) name) xs ys ∙ none_holds (is_named xs name) (is_named ys name) p q

  -- ** lists put together

  any_both : (test : List ℕ → Bool) (xs ys : List A) → list_any test (map of xs) ≡ false → list_any test (map of ys) ≡ false
      → list_any test (map of (xs ++ ys)) ≡ false
  any_both test [] ys p q = q
  any_both test (x ∷ xs) ys p q =
      let old = neither (test (of x)) (list_any test (map of xs)) p in
      none_holds (test (of x)) (list_any test (map of (xs ++ ys))) old.0 (any_both test xs ys old.1 q)

  any_between : (test : List ℕ → Bool) (xs : List A) (y : A) (zs : List A) → list_any test (map of (xs ++ zs)) ≡ false → test (of y) ≡ false
      → list_any test (map of (xs ++ y ∷ zs)) ≡ false
  any_between test [] y zs p q = none_holds (test (of y)) (list_any test (map of zs)) q p
  any_between test (x ∷ xs) y zs p q =
      let old = neither (test (of x)) (list_any test (map of (xs ++ zs))) p in
      none_holds (test (of x)) (list_any test (map of (xs ++ y ∷ zs))) old.0 (any_between test xs y zs old.1 q)

  none_alike : (name : List ℕ) (ys : List A) → ((i : ℕ) (y : A) → slice_get ys i ≡ Some y → same_name name (of y) ≡ false)
      → list_any (same_name name) (map of ys) ≡ false
  none_alike name [] all = refl
  none_alike name (y ∷ ys) all =
      none_holds (same_name name (of y)) (list_any (same_name name) (map of ys)) (all 0 y refl) (none_alike name ys (λ i. all (suc i)))

  swapped : (name : List ℕ) (xs : List A) → is_named xs name ≡ false → list_any (same_name name) (map of xs) ≡ false
  swapped name [] e = refl
  swapped name (x ∷ xs) e =
      let old = neither (same_name (of x) name) (is_named xs name) e in
      none_holds (same_name name (of x)) (list_any (same_name name) (map of xs)) (name_swapped name (of x) ∙ old.0) (swapped name xs old.1)

  -- names differ in two lists together where they do in each, and none of the first has the name of one of the second
  pub apart_joined : (xs ys : List A) → AreApart of xs → AreApart of ys
      → ((i : ℕ) (y : A) → slice_get ys i ≡ Some y → is_named xs (of y) ≡ false) → AreApart of (xs ++ ys)
  apart_joined [] ys p q new = q
  apart_joined (x ∷ xs) ys p q new =
      let old = two_parts (list_any (same_name (of x)) (map of xs)) (no_two same_name (map of xs)) p in
      let each = λ (i : ℕ) (y : A) (e : slice_get ys i ≡ Some y). neither (same_name (of x) (of y)) (is_named xs (of y)) (new i y e) in
      both_hold (list_any (same_name (of x)) (map of (xs ++ ys))) (no_two same_name (map of (xs ++ ys)))
      (any_both (same_name (of x)) xs ys old.0 (none_alike (of x) ys (λ i y e. (each i y e).0)))
      (apart_joined xs ys old.1 q (λ i y e. (each i y e).1))

  -- an entry more in the midst of others, under a name that none has
  pub apart_between : (xs : List A) (y : A) (zs : List A) → AreApart of (xs ++ zs) → is_named (xs ++ zs) (of y) ≡ false
      → AreApart of (xs ++ y ∷ zs)
  apart_between [] y zs p new = both_hold (list_any (same_name (of y)) (map of zs)) (no_two same_name (map of zs)) (swapped (of y) zs new) p
  apart_between (x ∷ xs) y zs p new =
      let old = two_parts (list_any (same_name (of x)) (map of (xs ++ zs))) (no_two same_name (map of (xs ++ zs))) p in
      let like = neither (same_name (of x) (of y)) (is_named (xs ++ zs) (of y)) new in
      both_hold (list_any (same_name (of x)) (map of (xs ++ y ∷ zs))) (no_two same_name (map of (xs ++ y ∷ zs)))
      (any_between (same_name (of x)) xs y zs old.0 like.0) (apart_between xs y zs old.1 like.1)

  unswapped : (name : List ℕ) (xs : List A) → list_any (same_name name) (map of xs) ≡ false → is_named xs name ≡ false
  unswapped name [] e = refl
  unswapped name (x ∷ xs) e =
      let old = neither (same_name name (of x)) (list_any (same_name name) (map of xs)) e in
      none_holds (same_name (of x) name) (is_named xs name) (name_swapped (of x) name ∙ old.0) (unswapped name xs old.1)

  -- names that differ do so the other way round too
  pub apart_swapped : (xs ys : List A) → AreApart of (xs ++ ys) → AreApart of (ys ++ xs)
  apart_swapped [] ys p = subst (AreApart of) (sym (append-nil ys)) p
  apart_swapped (x ∷ xs) ys p =
      let old = two_parts (list_any (same_name (of x)) (map of (xs ++ ys))) (no_two same_name (map of (xs ++ ys))) p in
      let like = unnamed_parts xs ys (of x) (unswapped (of x) (xs ++ ys) old.0) in
      apart_between ys x xs (apart_swapped xs ys old.1) (unnamed_both ys xs (of x) like.1 like.0)

  -- names that differ do so without the first of them
  pub apart_rest : (x : A) (xs : List A) → AreApart of (x ∷ xs) → AreApart of xs
  apart_rest x xs e = (two_parts (list_any (same_name (of x)) (map of xs)) (no_two same_name (map of xs)) e).1

-- ** properties and signals by name

abbrev pub spec_name : Spec → List ℕ
spec_name s = s.name

abbrev pub names_of : List Spec → List (List ℕ)
names_of specs = map spec_name specs

abbrev pub AreNamed : List Spec → Type 0
AreNamed specs = AreApart spec_name specs

abbrev pub signal_name : Signal → List ℕ
signal_name s = s.name
