-- The place of a name in a list.
use Rattle.std.proofs.Common.{◌≡◌, ℕ, zero, suc, ◌+◌, ◌<◌, ◌≤◌, Bool, true, false, cond, List, [], ◌∷◌, length, get_or, Option, Some, ap, refl, sym, ◌∙◌, arith}
use Rattle.std.specs.Prelude.{option_and_then, option_map, slice_get}
use Rattle.std.proofs.lemmas.Option.{none-some}
use Rattle.ui_machine.specs.Definition.Names.{place_from, place_named, same_name}
use Rattle.law_peers.proofs.PoolProofs.{name_true}
use Rattle.native_peers.proofs.Places.{here}

module _ {N : Type 0} (name_of : N → List ℕ) (name : List ℕ) where
  within_from : (i : ℕ) (xs : List N) (k : ℕ) → place_from name_of i xs name ≡ Some k → k < i + length xs
  within_from i [] k at = absurd (none-some k at)
  within_from i (x ∷ xs) k at = by (same_name (name_of x) name) at (within_from (suc i) xs k)
    where
      by : (b : Bool) → cond b (Some i) (place_from name_of (suc i) xs name) ≡ Some k
          → (place_from name_of (suc i) xs name ≡ Some k → k < suc i + length xs) → k < i + suc (length xs)
      by true e rest = let same : i ≡ k = cc in omega arith
      by false e rest = let within = rest e in omega arith

  -- what is found is within the list
  pub within : (xs : List N) (k : ℕ) → place_named name_of xs name ≡ Some k → k < length xs
  within xs k at = let w = within_from 0 xs k at in omega arith

-- what is found at a place has the name
module _ {N : Type 0} (name_of : N → List ℕ) (name : List ℕ) where
  found_past : (i : ℕ) (xs : List N) (j : ℕ) → place_from name_of i xs name ≡ Some j → i ≤ j
  found_past i [] j at = absurd (none-some j at)
  found_past i (x ∷ xs) j at = by (same_name (name_of x) name) at (found_past (suc i) xs j)
    where
      by : (b : Bool) → cond b (Some i) (place_from name_of (suc i) xs name) ≡ Some j → (place_from name_of (suc i) xs name ≡ Some j → suc i ≤ j) → i ≤ j
      by true e rest = let same : i ≡ j = cc e in omega (arith, same)
      by false e rest = let later = rest e in omega (arith, later)

  named_from : (i : ℕ) (xs : List N) (k : ℕ) (x : N) → place_from name_of i xs name ≡ Some (i + k) → slice_get xs k ≡ Some x → name_of x ≡ name
  named_from i [] k x found at = absurd (cc at)
  named_from i (y ∷ ys) k x found at = by (same_name (name_of y) name) refl k at found (λ m next later. named_from (suc i) ys m x next later)
    where
      by : (b : Bool) → same_name (name_of y) name ≡ b → (k : ℕ) → slice_get (y ∷ ys) k ≡ Some x → cond b (Some i) (place_from name_of (suc i) ys name) ≡ Some (i + k)
          → ((m : ℕ) → place_from name_of (suc i) ys name ≡ Some (suc i + m) → slice_get ys m ≡ Some x → name_of x ≡ name) → name_of x ≡ name
      by true same zero at e rest = let own : y ≡ x = cc at in ap name_of (sym own) ∙ name_true (name_of y) name same
      by true same (suc k) at e rest = let first : i ≡ i + suc k = cc e in absurd (omega (arith, first))
      by false other zero at e rest = let past = found_past (suc i) ys (i + 0) e in absurd (omega (arith, past))
      by false other (suc m) at e rest = let next : i + suc m ≡ suc i + m = omega arith in rest m (e ∙ ap (λ j. Some j) next) at

  pub named : (xs : List N) (k : ℕ) (x : N) → place_named name_of xs name ≡ Some k → slice_get xs k ≡ Some x → name_of x ≡ name
  named xs k x found at = let first : k ≡ 0 + k = omega arith in named_from 0 xs k x (found ∙ ap (λ j. Some j) first) at

-- what code reads at a place is what is found there
pub read_there : {N P : Type 0} (part : N → P) (items : List N) (place : Option ℕ) (k : ℕ) (r : N) → Some k ≡ place → k < length items → r ≡ get_or items k r
    → Some (part r) ≡ option_map part (option_and_then (slice_get items) place)
read_there part items place k r at lt is =
    ap (option_map part) (sym (here items k r lt is)) ∙ ap (λ (o : Option ℕ). option_map part (option_and_then (slice_get items) o)) at
