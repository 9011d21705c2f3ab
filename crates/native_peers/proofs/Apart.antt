-- Names of which no two are one: they stay so, and an entry is found by its name where it is.
use Rattle.std.proofs.Common.{◌≡◌, ℕ, zero, suc, ◌+◌, Bool, true, false, cond, not, ◌&&◌, ◌||◌, List, [], ◌∷◌, ◌++◌, map, if◌then◌else◌, Option, None, Some, refl, ap, sym, ◌∙◌, arith}
use Rattle.std.specs.List.{list_any}
use Rattle.std.specs.Prelude.{is_some, remove, slice_get, slice_set}
use Rattle.ui_machine.specs.Definition.Names.{place_from, place_named, same_name}
use Rattle.law_peers.proofs.PoolProofs.{name_refl}
use Rattle.law_typing.specs.Laws.WellRead.{no_two}

parts : (a b : Bool) → (not a && b) ≡ true → (a ≡ false) × (b ≡ true)
parts true b is = absurd (cc is)
parts false b is = (refl, is)

both : {a b : Bool} → a ≡ false → b ≡ true → (not a && b) ≡ true
both first second = rw (first, second) refl

neither : (a b : Bool) → (a || b) ≡ false → (a ≡ false) × (b ≡ false)
neither true b is = absurd (cc is)
neither false b is = (refl, is)

module _ {N : Type 0} (name : N → List ℕ) where
  -- all under the names that they had
  names_set : (xs : List N) (k : ℕ) (x y : N) → slice_get xs k ≡ Some x → name y ≡ name x → map name (slice_set xs k y) ≡ map name xs
  names_set [] k x y at same = refl
  names_set (z ∷ xs) zero x y at same = let here : z ≡ x = cc at in ap (λ n. n ∷ map name xs) (same ∙ ap name (sym here))
  names_set (z ∷ xs) (suc k) x y at same = ap (λ ns. name z ∷ ns) (names_set xs k x y at same)

  pub set_apart : (xs : List N) (k : ℕ) (x y : N) → slice_get xs k ≡ Some x → name y ≡ name x → no_two same_name (map name xs) ≡ true
      → no_two same_name (map name (slice_set xs k y)) ≡ true
  set_apart xs k x y at same apart = ap (λ ns. no_two same_name ns) (names_set xs k x y at same) ∙ apart

  none_last : (n : List ℕ) (xs : List N) (y : N) → list_any (same_name n) (map name xs) ≡ false → same_name n (name y) ≡ false → list_any (same_name n) (map name (xs ++ y ∷ [])) ≡ false
  none_last n [] y none other = rw other refl
  none_last n (x ∷ xs) y none other =
      let p = neither (same_name n (name x)) (list_any (same_name n) (map name xs)) none in
      ap (λ b. b || list_any (same_name n) (map name (xs ++ y ∷ []))) p.0 ∙ none_last n xs y p.1 other

  unfound : (b : Bool) (i : ℕ) (rest : Option ℕ) → cond b (Some i) rest ≡ None → (b ≡ false) × (rest ≡ None)
  unfound true i rest is = absurd (cc is)
  unfound false i rest is = (refl, is)

  last_from : (i : ℕ) (xs : List N) (y : N) → place_from name i xs (name y) ≡ None → no_two same_name (map name xs) ≡ true → no_two same_name (map name (xs ++ y ∷ [])) ≡ true
  last_from i [] y none apart = refl
  last_from i (x ∷ xs) y none apart =
      let here = unfound (same_name (name x) (name y)) i (place_from name (suc i) xs (name y)) none in
      let p = parts (list_any (same_name (name x)) (map name xs)) (no_two same_name (map name xs)) apart in
      both (none_last (name x) xs y p.0 here.0) (last_from (suc i) xs y here.1 p.1)

  -- one more, under a new name
  pub last_apart : (xs : List N) (y : N) → place_named name xs (name y) ≡ None → no_two same_name (map name xs) ≡ true → no_two same_name (map name (xs ++ y ∷ [])) ≡ true
  last_apart xs y none apart = last_from 0 xs y none apart

  -- one more if it was added
  pub added_apart : (added : Bool) (xs : List N) (y : N) (found : Option ℕ) → found ≡ place_named name xs (name y) → is_some found ≡ false → no_two same_name (map name xs) ≡ true
      → no_two same_name (map name (if added then xs ++ y ∷ [] else xs)) ≡ true
  added_apart false xs y found is none apart = apart
  added_apart true xs y None is none apart = last_apart xs y (sym is) apart
  added_apart true xs y (Some k) is none apart = absurd (cc none)

  none_left : (n : List ℕ) (xs : List N) (k : ℕ) → list_any (same_name n) (map name xs) ≡ false → list_any (same_name n) (map name (remove xs k)) ≡ false
  none_left n [] zero none = none
  none_left n [] (suc k) none = none
  none_left n (x ∷ xs) zero none = (neither (same_name n (name x)) (list_any (same_name n) (map name xs)) none).1
  none_left n (x ∷ xs) (suc k) none =
      let p = neither (same_name n (name x)) (list_any (same_name n) (map name xs)) none in
      ap (λ b. b || list_any (same_name n) (map name (remove xs k))) p.0 ∙ none_left n xs k p.1

  -- one less
  pub left_apart : (xs : List N) (k : ℕ) → no_two same_name (map name xs) ≡ true → no_two same_name (map name (remove xs k)) ≡ true
  left_apart [] zero apart = apart
  left_apart [] (suc k) apart = apart
  left_apart (x ∷ xs) zero apart = (parts (list_any (same_name (name x)) (map name xs)) (no_two same_name (map name xs)) apart).1
  left_apart (x ∷ xs) (suc k) apart =
      let p = parts (list_any (same_name (name x)) (map name xs)) (no_two same_name (map name xs)) apart in
      both (none_left (name x) xs k p.0) (left_apart xs k p.1)

  -- a name that no entry has is not that of the k-th
  other_at : (n : List ℕ) (xs : List N) (k : ℕ) (x : N) → slice_get xs k ≡ Some x → list_any (same_name n) (map name xs) ≡ false → same_name n (name x) ≡ false
  other_at n [] k x at none = absurd (cc at)
  other_at n (y ∷ xs) zero x at none =
      let here : y ≡ x = cc at in
      ap (λ z. same_name n (name z)) (sym here) ∙ (neither (same_name n (name y)) (list_any (same_name n) (map name xs)) none).0
  other_at n (y ∷ xs) (suc k) x at none = other_at n xs k x at (neither (same_name n (name y)) (list_any (same_name n) (map name xs)) none).1

  found_from : (i : ℕ) (xs : List N) (k : ℕ) (x : N) → slice_get xs k ≡ Some x → no_two same_name (map name xs) ≡ true → place_from name i xs (name x) ≡ Some (i + k)
  found_from i [] k x at apart = absurd (cc at)
  found_from i (y ∷ xs) zero x at apart =
      let here : y ≡ x = cc at in
      let same : i ≡ i + 0 = omega arith in
      ap (λ z. cond (same_name (name z) (name x)) (Some i) (place_from name (suc i) xs (name x))) here
      ∙ ap (λ b. cond b (Some i) (place_from name (suc i) xs (name x))) (name_refl (name x))
      ∙ ap (λ n. Some n) same
  found_from i (y ∷ xs) (suc k) x at apart =
      let p = parts (list_any (same_name (name y)) (map name xs)) (no_two same_name (map name xs)) apart in
      let next : suc i + k ≡ i + suc k = omega arith in
      ap (λ b. cond b (Some i) (place_from name (suc i) xs (name x))) (other_at (name y) xs k x at p.0)
      ∙ found_from (suc i) xs k x at p.1
      ∙ ap (λ n. Some n) next

  pub found : (xs : List N) (k : ℕ) (x : N) → slice_get xs k ≡ Some x → no_two same_name (map name xs) ≡ true → place_named name xs (name x) ≡ Some k
  found xs k x at apart = let same : 0 + k ≡ k = omega arith in found_from 0 xs k x at apart ∙ ap (λ n. Some n) same
