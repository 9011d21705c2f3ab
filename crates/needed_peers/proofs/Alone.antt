-- Where no two entries of a list have one name, an entry's name is found where it is, and not before.
use Rattle.std.proofs.Common.{◌≡◌, refl, ap, sym, ◌∙◌, ℕ, zero, suc, ◌+◌, Bool, true, false, cond, not, ◌&&◌, ◌||◌, List, [], ◌∷◌, map, take, None, Some, arith}
use Rattle.std.specs.List.{list_any}
use Rattle.std.specs.Prelude.{slice_get}
use Rattle.ui_machine.specs.Definition.Names.{place_from, place_named, same_name}
use Rattle.law_peers.proofs.PoolProofs.{name_refl}
use Rattle.law_typing.specs.Laws.WellRead.{no_two}

parts : (a b : Bool) → (not a && b) ≡ true → (a ≡ false) × (b ≡ true)
parts true b is = absurd (cc is)
parts false b is = (refl, is)

neither : (a b : Bool) → (a || b) ≡ false → (a ≡ false) × (b ≡ false)
neither true b is = absurd (cc is)
neither false b is = (refl, is)

module _ {N : Type 0} (name : N → List ℕ) where
  -- a name that no entry has is not that of the k-th
  other_at : (n : List ℕ) (xs : List N) (k : ℕ) (x : N) → slice_get xs k ≡ Some x → list_any (same_name n) (map name xs) ≡ false → same_name n (name x) ≡ false
  other_at n [] k x at none = absurd (cc at)
  other_at n (y ∷ xs) zero x at none =
      let here : y ≡ x = cc at in
      ap (λ z. same_name n (name z)) (sym here) ∙ (neither (same_name n (name y)) (list_any (same_name n) (map name xs)) none).0
  other_at n (y ∷ xs) (suc k) x at none = other_at n xs k x at (neither (same_name n (name y)) (list_any (same_name n) (map name xs)) none).1

  found_from : (i : ℕ) (xs : List N) (k : ℕ) (x : N) → slice_get xs k ≡ Some x → no_two same_name (map name xs) ≡ true → place_from name i xs (name x) ≡ Some (i + k)
  found_from i [] k x at apart = absurd (cc at)
  found_from i (y ∷ xs) zero x at apart =
      let here : y ≡ x = cc at in
      let same : i ≡ i + 0 = omega arith in
      ap (λ z. cond (same_name (name z) (name x)) (Some i) (place_from name (suc i) xs (name x))) here
      ∙ ap (λ b. cond b (Some i) (place_from name (suc i) xs (name x))) (name_refl (name x))
      ∙ ap (λ n. Some n) same
  found_from i (y ∷ xs) (suc k) x at apart =
      let p = parts (list_any (same_name (name y)) (map name xs)) (no_two same_name (map name xs)) apart in
      let next : suc i + k ≡ i + suc k = omega arith in
      ap (λ b. cond b (Some i) (place_from name (suc i) xs (name x))) (other_at (name y) xs k x at p.0)
      ∙ found_from (suc i) xs k x at p.1
      ∙ ap (λ n. Some n) next

  pub found : (xs : List N) (k : ℕ) (x : N) → slice_get xs k ≡ Some x → no_two same_name (map name xs) ≡ true → place_named name xs (name x) ≡ Some k
  found xs k x at apart = let same : 0 + k ≡ k = omega arith in found_from 0 xs k x at apart ∙ ap (λ n. Some n) same

  fresh_from : (i : ℕ) (xs : List N) (k : ℕ) (x : N) → slice_get xs k ≡ Some x → no_two same_name (map name xs) ≡ true → place_from name i (take k xs) (name x) ≡ None
  fresh_from i [] k x at apart = absurd (cc at)
  fresh_from i (y ∷ xs) zero x at apart = refl
  fresh_from i (y ∷ xs) (suc k) x at apart =
      let p = parts (list_any (same_name (name y)) (map name xs)) (no_two same_name (map name xs)) apart in
      ap (λ b. cond b (Some i) (place_from name (suc i) (take k xs) (name x))) (other_at (name y) xs k x at p.0) ∙ fresh_from (suc i) xs k x at p.1

  pub fresh : (xs : List N) (k : ℕ) (x : N) → slice_get xs k ≡ Some x → no_two same_name (map name xs) ≡ true → place_named name (take k xs) (name x) ≡ None
  fresh xs k x at apart = fresh_from 0 xs k x at apart
