-- Entries by what they are called: their numbers, one by one and all together.
use Rattle.std.proofs.Common.{◌≡◌, ◌<◌, ◌≤◌, ℕ, zero, suc, ◌+◌, nat_lt, arith, Bool, true, false, if◌then◌else◌, List, [], ◌∷◌, length, map, Bor, drop, get_or, slice_get, Option, None, Some, option_map, option_and_then, refl, sym, ap, ◌∙◌}
use Rattle.std.proofs.lemmas.Bool.Decides.{nat_tests}
use Rattle.std.specs.Option.{option_or}
use Rattle.std.proofs.lemmas.Option.{slice_get_within, get_or_from_slice_get}
use Rattle.std.proofs.Math.Seq.{drop-cons}
use Rattle.serde_json.specs.Data.{Data}
use Rattle.json_trees.specs.declared.value.Value.{Value}
use Rattle.json_trees.specs.View.{view, items_view}
use Rattle.ui_machine.specs.Seq.{read}
use Rattle.read_parts.specs.EntryViews.{views}
use Rattle.definition_format.specs.Denoted.Entries.{is_called, name_under, names_under, number_from, at_most, TypeNames, later_type}

pub count_is : (key : List ℕ) (vs : List Value) → length (names_under key (items_view vs)) ≡ length vs
count_is key [] = refl
count_is key (v ∷ vs) = ap suc (count_is key vs)

-- what the entries of a list are called, one after the other
pub names_are : (key : List ℕ) (vs : List Value) → names_under key (items_view vs) ≡ map (name_under key) (map view vs)
names_are key [] = refl
names_are key (v ∷ vs) = ap (λ names. name_under key (view v) ∷ names) (names_are key vs)

-- the values of references to the values of a list
pub views_are : (refs : List (Bor Value)) (vs : List Value) → map (λ (r : Bor Value). r.now) refs ≡ vs → views refs ≡ map view vs
views_are refs vs e = each refs ∙ ap (map view) e
  where
    each : (rs : List (Bor Value)) → views rs ≡ map view (map (λ (r : Bor Value). r.now) rs)
    each [] = refl
    each (r ∷ rs) = ap (λ ds. view r.now ∷ ds) (each rs)

-- what the entry of a number is called
name_there : (key : List ℕ) (ds : List Data) (i : ℕ) → read None (map (name_under key) ds) i ≡ option_and_then (name_under key) (slice_get ds i)
name_there key [] i = refl
name_there key (d ∷ ds) zero = refl
name_there key (d ∷ ds) (suc i) = name_there key ds i

pub name_there_is : (key : List ℕ) (ds : List Data) (i : ℕ) (found : Option Data) → slice_get ds i ≡ found
    → read None (map (name_under key) ds) i ≡ option_and_then (name_under key) found
name_there_is key ds i found is = name_there key ds i ∙ ap (option_and_then (name_under key)) is

drop_at : {A : Type 0} (xs : List A) (i : ℕ) (x : A) → slice_get xs i ≡ Some x → drop i xs ≡ x ∷ drop (suc i) xs
drop_at xs i x at = drop-cons xs i x (slice_get_within xs i x at) ∙ ap (λ y. y ∷ drop (suc i) xs) (get_or_from_slice_get xs i x x at)

pub slice_got : {A : Type 0} (xs : List A) (i : ℕ) (x : A) → i < length xs → x ≡ get_or xs i x → slice_get xs i ≡ Some x
slice_got [] i x small is = absurd (omega arith)
slice_got (y ∷ xs) zero x small is = ap Some (sym is)
slice_got (y ∷ xs) (suc i) x small is = slice_got xs i x (omega arith) is

-- the numbers from an entry on
pub number_before : (names : List (Option (List ℕ))) (i : ℕ) (own : Option (List ℕ)) (name : List ℕ) → slice_get names i ≡ Some own
    → number_from i (drop i names) name ≡ (if is_called own name then Some i else number_from (suc i) (drop (suc i) names) name)
number_before names i own name at = ap (λ (left : List (Option (List ℕ))). number_from i left name) (drop_at names i own at)

-- numbers that begin later are greater
number_past : (i n : ℕ) (names : List (Option (List ℕ))) (name : List ℕ)
    → number_from (i + n) names name ≡ option_map (λ k. i + k) (number_from n names name)
number_past i n [] name = refl
number_past i n (own ∷ names) name =
    by (is_called own name)
    (let e : suc (i + n) ≡ i + suc n = omega arith in ap (λ j. number_from j names name) e ∙ number_past i (suc n) names name)
  where
    by : (b : Bool) → number_from (suc (i + n)) names name ≡ option_map (λ k. i + k) (number_from (suc n) names name)
        → (if b then Some (i + n) else number_from (suc (i + n)) names name)
        ≡ option_map (λ k. i + k) (if b then Some n else number_from (suc n) names name)
    by true next = refl
    by false next = next

shifted : (i : ℕ) (names : List (Option (List ℕ))) (name : List ℕ) (found : Option ℕ) → number_from 0 names name ≡ found
    → number_from i names name ≡ option_map (λ k. i + k) found
shifted i names name found is =
    let e : i ≡ i + 0 = omega arith in
    ap (λ j. number_from j names name) e ∙ number_past i 0 names name ∙ ap (option_map (λ k. i + k)) is

module _ (names : TypeNames) (name : List ℕ) where
  pub interface_found : (k : ℕ) → number_from 0 names.interfaces name ≡ Some k
      → option_map (at_most 256) (later_type names name) ≡ Some (at_most 256 (names.first + k))
  interface_found k is =
      ap (λ (found : Option ℕ). option_map (at_most 256) (option_or found (number_from (names.first + length names.interfaces) names.classes name)))
      (shifted names.first names.interfaces name (Some k) is)

  pub class_found : (found : Option ℕ) → number_from 0 names.interfaces name ≡ None → number_from 0 names.classes name ≡ found
      → option_map (at_most 256) (later_type names name) ≡ option_map (λ k. at_most 256 (names.first + length names.interfaces + k)) found
  class_found None none is =
      ap (λ (first : Option ℕ). option_map (at_most 256) (option_or first (number_from (names.first + length names.interfaces) names.classes name)))
      (shifted names.first names.interfaces name None none)
      ∙ ap (option_map (at_most 256)) (shifted (names.first + length names.interfaces) names.classes name None is)
  class_found (Some k) none is =
      ap (λ (first : Option ℕ). option_map (at_most 256) (option_or first (number_from (names.first + length names.interfaces) names.classes name)))
      (shifted names.first names.interfaces name None none)
      ∙ ap (option_map (at_most 256)) (shifted (names.first + length names.interfaces) names.classes name (Some k) is)

-- a sum, one part after the other
pub sum_after : (most left right k : ℕ) → at_most most (at_most most (left + right) + k) ≡ at_most most (left + right + k)
sum_after most left right k = by (nat_lt (left + right) most) (nat_lt (left + right + k) most) refl refl
  where
    past : (n : ℕ) → most ≤ n → at_most most n ≡ most
    past n h = let no : nat_lt n most ≡ false = grind (arith, nat_tests) in ap (λ b. if b then n else most) no

    by : (b c : Bool) → nat_lt (left + right) most ≡ b → nat_lt (left + right + k) most ≡ c
        → at_most most ((if b then left + right else most) + k) ≡ (if c then left + right + k else most)
    by true true p q = ap (λ t. if t then left + right + k else most) q
    by true false p q = ap (λ t. if t then left + right + k else most) q
    by false c p q =
        let large : most ≤ left + right = grind (arith, nat_tests) in
        past (most + k) (omega arith) ∙ sym (ap (λ t. if t then left + right + k else most) (sym q) ∙ past (left + right + k) (omega (arith, large)))
