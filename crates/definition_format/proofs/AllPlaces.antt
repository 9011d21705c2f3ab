-- The places of a definition: its objects, and behind them its prototypes.
use Rattle.std.proofs.Common.{◌≡◌, ◌≤◌, ◌<◌, ◌+◌, ℕ, zero, suc, Bool, true, false, cond, not, nat_le, List, [], ◌∷◌, ◌++◌, map, length, if◌then◌else◌, Option, None, Some, is_some, option_map, option_and_then, slice_get, refl, sym, ap, subst, ◌∙◌, arith}
use Rattle.std.specs.Prelude.{count_by}
use Rattle.std.proofs.lemmas.Bool.Decides.{nat_tests}
use Rattle.std.proofs.lemmas.List.{length-map, length-append}
use Rattle.std.proofs.lemmas.List.Sums.{sum_by-cons}
use Rattle.std.proofs.lemmas.Option.{none-some}
use Rattle.ui_machine.specs.Definition.Names.{same_name, place_from, place_named}
use Rattle.ui_machine.specs.Definition.Places.{Place}
use Rattle.ui_machine.specs.Definition.{Definition}
use Rattle.ui_machine.specs.Definition.Lookups.{place_of}
use Rattle.definition_format.specs.Meaning.{Parts, Entry, Prototype, meaning, plain_object, plain_prototype, places_of, is_object, is_object_there, if_object, object_place}

-- ** a list behind another

module _ {A : Type 0} (name_of : A → List ℕ) (name : List ℕ) where
  -- a name that the first list has
  found_before : (i n : ℕ) (xs ys : List A) → place_from name_of i xs name ≡ Some n → place_from name_of i (xs ++ ys) name ≡ Some n
  found_before i n [] ys h = absurd (none-some n h)
  found_before i n (x ∷ xs) ys h = by (same_name (name_of x) name) (found_before (suc i) n xs ys) h
    where
      by : (b : Bool) → (place_from name_of (suc i) xs name ≡ Some n → place_from name_of (suc i) (xs ++ ys) name ≡ Some n)
          → cond b (Some i) (place_from name_of (suc i) xs name) ≡ Some n → cond b (Some i) (place_from name_of (suc i) (xs ++ ys) name) ≡ Some n
      by true rest e = e
      by false rest e = rest e

  -- a name that it has not
  found_behind : (i : ℕ) (xs ys : List A) → place_from name_of i xs name ≡ None → place_from name_of i (xs ++ ys) name ≡ place_from name_of (length xs + i) ys name
  found_behind i [] ys h = let e : i ≡ 0 + i = omega arith in ap (λ (k : ℕ). place_from name_of k ys name) e
  found_behind i (x ∷ xs) ys h = by (same_name (name_of x) name) (found_behind (suc i) xs ys) h
    where
      by : (b : Bool) → (place_from name_of (suc i) xs name ≡ None → place_from name_of (suc i) (xs ++ ys) name ≡ place_from name_of (length xs + suc i) ys name)
          → cond b (Some i) (place_from name_of (suc i) xs name) ≡ None
          → cond b (Some i) (place_from name_of (suc i) (xs ++ ys) name) ≡ place_from name_of (suc (length xs) + i) ys name
      by true rest e = absurd (none-some i (sym e))
      by false rest e = let f : length xs + suc i ≡ suc (length xs) + i = omega arith in rest e ∙ ap (λ (k : ℕ). place_from name_of k ys name) f

  -- numbers that begin later
  begun_later : (k i : ℕ) (ys : List A) → place_from name_of (k + i) ys name ≡ option_map (λ (n : ℕ). k + n) (place_from name_of i ys name)
  begun_later k i [] = refl
  begun_later k i (y ∷ ys) = by (same_name (name_of y) name) (begun_later k (suc i) ys)
    where
      by : (b : Bool) → place_from name_of (k + suc i) ys name ≡ option_map (λ (n : ℕ). k + n) (place_from name_of (suc i) ys name)
          → cond b (Some (k + i)) (place_from name_of (suc (k + i)) ys name) ≡ option_map (λ (n : ℕ). k + n) (cond b (Some i) (place_from name_of (suc i) ys name))
      by true rest = refl
      by false rest = let f : suc (k + i) ≡ k + suc i = omega arith in ap (λ (j : ℕ). place_from name_of j ys name) f ∙ rest

  pub named_before : (n : ℕ) (xs ys : List A) → place_named name_of xs name ≡ Some n → Some n ≡ place_named name_of (xs ++ ys) name
  named_before n xs ys h = sym (found_before 0 n xs ys h)

  pub named_behind : (count : ℕ) (xs ys : List A) (found : Option ℕ) → count ≡ length xs → place_named name_of xs name ≡ None → found ≡ place_named name_of ys name
      → option_map (λ (n : ℕ). count + n) found ≡ place_named name_of (xs ++ ys) name
  named_behind count xs ys found all none is =
      ap (λ (k : ℕ). option_map (λ (n : ℕ). k + n) found) all ∙ ap (option_map (λ (n : ℕ). length xs + n)) is ∙ sym (found_behind 0 xs ys none ∙ begun_later (length xs) 0 ys)

-- ** objects and prototypes

module _ (ps : List Prototype) where
  no_objects : (qs : List Prototype) → count_by is_object (map plain_prototype qs) ≡ 0
  no_objects [] = refl
  no_objects (q ∷ qs) =
      let e : count_by is_object (map plain_prototype (q ∷ qs)) ≡ 0 + count_by is_object (map plain_prototype qs) =
      sum_by-cons (λ (y : Place). cond (is_object y) 1 0) (plain_prototype q) (map plain_prototype qs) in
      omega (arith, e, no_objects qs)

  -- the objects are those of their list
  pub counted : (os : List Entry) → count_by is_object (places_of os ps) ≡ length os
  counted [] = no_objects ps
  counted (o ∷ os) =
      let e : count_by is_object (places_of (o ∷ os) ps) ≡ 1 + count_by is_object (places_of os ps) =
      sum_by-cons (λ (y : Place). cond (is_object y) 1 0) (plain_object o) (places_of os ps) in
      omega (arith, e, counted os)

  each_prototype : (P : Place → Type 0) → ((q : Prototype) → P (plain_prototype q)) → (qs : List Prototype) (i : ℕ) (place : Place)
      → slice_get (map plain_prototype qs) i ≡ Some place → P place
  each_prototype P all [] i place h = cc
  each_prototype P all (q ∷ qs) zero place h = let e : plain_prototype q ≡ place = cc in subst P e (all q)
  each_prototype P all (q ∷ qs) (suc i) place h = each_prototype P all qs i place h

  -- what is so of all objects and of all prototypes
  pub each_place : (P : Place → Type 0) → ((o : Entry) → P (plain_object o)) → ((q : Prototype) → P (plain_prototype q)) → (os : List Entry) (i : ℕ) (place : Place)
      → slice_get (places_of os ps) i ≡ Some place → P place
  each_place P all every [] i place h = each_prototype P every ps i place h
  each_place P all every (o ∷ os) zero place h = let e : plain_object o ≡ place = cc in subst P e (all o)
  each_place P all every (o ∷ os) (suc i) place h = each_place P all every os i place h

  -- prototypes are what comes after the objects
  behind_objects : (os : List Entry) (i : ℕ) (place : Place) → slice_get (places_of os ps) i ≡ Some place → place.is_prototype ≡ nat_le (length os) i
  behind_objects [] i place h = each_prototype (λ (p : Place). p.is_prototype ≡ true) (λ q. refl) ps i place h ∙ grind (arith, nat_tests)
  behind_objects (o ∷ os) zero place h =
      let e : plain_object o ≡ place = cc in
      ap (λ (p : Place). p.is_prototype) (sym e) ∙ grind (arith, nat_tests)
  behind_objects (o ∷ os) (suc i) place h =
      let n : nat_le (length os) i ≡ nat_le (suc (length os)) (suc i) = grind (arith, nat_tests) in
      behind_objects os i place h ∙ n

  pub objects_first : (os : List Entry) (i : ℕ) (place : Place) → slice_get (places_of os ps) i ≡ Some place
      → place.is_prototype ≡ nat_le (count_by is_object (places_of os ps)) i
  objects_first os i place h = behind_objects os i place h ∙ ap (λ (n : ℕ). nat_le n i) (sym (counted os))

-- ** objects by their ids

-- an id that no place has, no object has
pub named_nowhere : {A : Type 0} (name_of : A → List ℕ) (name : List ℕ) (xs ys : List A) → place_named name_of (xs ++ ys) name ≡ None → place_named name_of xs name ≡ None
named_nowhere name_of name xs ys none = by (place_named name_of xs name) refl
  where
    by : (o : Option ℕ) → place_named name_of xs name ≡ o → o ≡ None
    by None e = refl
    by (Some n) e = absurd (none-some n (sym none ∙ sym (named_before name_of name n xs ys e)))

pub not_taken : {A : Type 0} (name_of : A → List ℕ) (name : List ℕ) (xs ys : List A) (taken : Bool)
    → taken ≡ is_some (place_named name_of (xs ++ ys) name) → taken ≡ false → place_named name_of xs name ≡ None
not_taken name_of name xs ys taken is free = named_nowhere name_of name xs ys (by (place_named name_of (xs ++ ys) name) (sym is ∙ free))
  where
    by : (o : Option ℕ) → is_some o ≡ false → o ≡ None
    by None e = refl
    by (Some n) e = absurd (cc)

module _ (ps : List Prototype) where
  object_there : (os : List Entry) (n : ℕ) → n < length os → is_object_there (slice_get (places_of os ps) n) ≡ true
  object_there [] n h = absurd (omega (arith, h))
  object_there (o ∷ os) zero h = refl
  object_there (o ∷ os) (suc n) h = object_there os n (omega (arith, h))

  prototype_there : (os : List Entry) (n : ℕ) → length os ≤ n → is_object_there (slice_get (places_of os ps) n) ≡ false
  prototype_there os n h = by (slice_get (places_of os ps) n) refl
    where
      by : (o : Option Place) → slice_get (places_of os ps) n ≡ o → is_object_there o ≡ false
      by None e = refl
      by (Some place) e = let past : nat_le (length os) n ≡ true = grind (arith, nat_tests) in ap not (behind_objects ps os n place e ∙ past)

module _ (p : Parts) (d : Definition) (is : meaning p ≡ d) (id : List ℕ) where
  pub object_found : (n : ℕ) → n < length p.objects → Some n ≡ place_named (λ (x : Place). x.id) (map plain_object p.objects) id → Some n ≡ object_place d id
  object_found n within found =
      ap (λ (b : Bool). if b then Some n else None) (sym (object_there p.prototypes p.objects n within))
      ∙ ap (option_and_then (if_object (meaning p))) (named_before (λ (x : Place). x.id) id n (map plain_object p.objects) (map plain_prototype p.prototypes) (sym found))
      ∙ ap (λ (e : Definition). object_place e id) is

  pub no_object : None ≡ place_named (λ (x : Place). x.id) (map plain_object p.objects) id → None ≡ object_place d id
  no_object none =
      by (place_named (λ (x : Place). x.id) (map plain_prototype p.prototypes) id)
      ∙ ap (option_and_then (if_object (meaning p))) behind
      ∙ ap (λ (e : Definition). object_place e id) is
    where
      behind : option_map (λ (n : ℕ). length p.objects + n) (place_named (λ (x : Place). x.id) (map plain_prototype p.prototypes) id) ≡ place_of (meaning p) id
      behind =
          named_behind (λ (x : Place). x.id) id (length p.objects) (map plain_object p.objects) (map plain_prototype p.prototypes)
          (place_named (λ (x : Place). x.id) (map plain_prototype p.prototypes) id) (sym (length-map p.objects plain_object)) (sym none) refl

      by : (o : Option ℕ) → None ≡ option_and_then (if_object (meaning p)) (option_map (λ (n : ℕ). length p.objects + n) o)
      by None = refl
      by (Some n) = ap (λ (b : Bool). if b then Some (length p.objects + n) else None) (sym (prototype_there p.prototypes p.objects (length p.objects + n) (omega arith)))

pub all_places : (os : List Entry) (ps : List Prototype) → length (places_of os ps) ≡ length os + length ps
all_places os ps =
    let a = length-append (map plain_object os) (map plain_prototype ps) in
    let b = length-map os plain_object in
    let c = length-map ps plain_prototype in
    omega (arith, a, b, c)
