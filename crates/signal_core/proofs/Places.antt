-- Where a name is in a list, searched part after part.
use Rattle.std.proofs.Common.{◌≡◌, ◌∙◌, ℕ, zero, suc, ◌+◌, ◌<◌, ◌≤◌, ◌-◌, Bool, true, false, cond, List, [], ◌∷◌, ◌++◌, length, map, None, Some, option_map, position, slice_get, string_bytes, refl, sym, ap, arith, add-one}
use Rattle.std.specs.List.{position_from}
use Rattle.std.proofs.lemmas.Iterator.Adapters.{position_from-zero}
use Rattle.std.proofs.lemmas.Option.{none-some}
use Rattle.ui_machine.specs.Definition.Names.{canonical, place_from, place_named, same_name}
use Rattle.ui_machine.specs.Definition.Signals as machine
use Rattle.signal_core.specs.SignalView.{signal_view}
use Rattle.signal_core.specs.declared.signal.Signal.{Signal}

module _ {A : Type 0} (name_of : A → List ℕ) (name : List ℕ) where
  front : (i place : ℕ) (xs ys : List A) → place_from name_of i xs name ≡ Some place → place_from name_of i (xs ++ ys) name ≡ Some place
  front i place [] ys h = absurd (none-some place h)
  front i place (x ∷ xs) ys h = by (same_name (name_of x) name) h (front (suc i) place xs ys)
    where
      by : (b : Bool) → cond b (Some i) (place_from name_of (suc i) xs name) ≡ Some place
          → (place_from name_of (suc i) xs name ≡ Some place → place_from name_of (suc i) (xs ++ ys) name ≡ Some place)
          → cond b (Some i) (place_from name_of (suc i) (xs ++ ys) name) ≡ Some place
      by true e rest = e
      by false e rest = rest e

  back : (i : ℕ) (xs ys : List A) → place_from name_of i xs name ≡ None → place_from name_of i (xs ++ ys) name ≡ place_from name_of (i + length xs) ys name
  back i [] ys h = ap (λ k. place_from name_of k ys name) (omega arith)
  back i (x ∷ xs) ys h =
      by (same_name (name_of x) name) h (back (suc i) xs ys) ∙ ap (λ k. place_from name_of k ys name) (omega arith)
    where
      by : (b : Bool) → cond b (Some i) (place_from name_of (suc i) xs name) ≡ None
          → (place_from name_of (suc i) xs name ≡ None → place_from name_of (suc i) (xs ++ ys) name ≡ place_from name_of (suc i + length xs) ys name)
          → cond b (Some i) (place_from name_of (suc i) (xs ++ ys) name) ≡ place_from name_of (suc i + length xs) ys name
      by true e rest = absurd (none-some i (sym e))
      by false e rest = rest e

  shift : (n i : ℕ) (ys : List A) → place_from name_of (i + n) ys name ≡ option_map (λ k. n + k) (place_from name_of i ys name)
  shift n i [] = refl
  shift n i (y ∷ ys) =
      ap (λ k. cond (same_name (name_of y) name) (Some k) (place_from name_of (suc (i + n)) ys name)) (omega arith)
      ∙ ap (λ k. cond (same_name (name_of y) name) (Some (n + i)) (place_from name_of k ys name)) (omega arith)
      ∙ ap (cond (same_name (name_of y) name) (Some (n + i))) (shift n (suc i) ys) ∙ by (same_name (name_of y) name)
    where
      by : (b : Bool) → cond b (Some (n + i)) (option_map (λ k. n + k) (place_from name_of (suc i) ys name)) ≡ option_map (λ k. n + k) (cond b (Some i) (place_from name_of (suc i) ys name))
      by true = refl
      by false = refl

  within : (i place : ℕ) (xs : List A) → place_from name_of i xs name ≡ Some place → place < i + length xs
  within i place [] h = absurd (none-some place h)
  within i place (x ∷ xs) h = by (same_name (name_of x) name) h (within (suc i) place xs)
    where
      by : (b : Bool) → cond b (Some i) (place_from name_of (suc i) xs name) ≡ Some place
          → (place_from name_of (suc i) xs name ≡ Some place → place < suc i + length xs) → place < i + suc (length xs)
      by true e rest = let same : i ≡ place = cc in omega arith
      by false e rest = omega (arith, rest e)

  -- a place lies within the list
  pub place_within : (xs : List A) (place : ℕ) → place_named name_of xs name ≡ Some place → place < length xs
  place_within xs place h = omega (arith, within 0 place xs h)

  -- what a first part has stays where it is
  pub place_front : (xs ys : List A) (place : ℕ) → place_named name_of xs name ≡ Some place → place_named name_of (xs ++ ys) name ≡ Some place
  place_front xs ys place h = front 0 place xs ys h

  -- what only the second part has comes after the first
  pub place_back : (xs ys : List A) → place_named name_of xs name ≡ None
      → place_named name_of (xs ++ ys) name ≡ option_map (λ k. length xs + k) (place_named name_of ys name)
  place_back xs ys h = back 0 xs ys h ∙ shift (length xs) 0 ys

-- where the code finds a name, seen in the pure signals
pub place-position : (signals : List Signal) (name : List ℕ)
    → position (λ s. same_name (string_bytes s.name) (canonical name)) signals ≡ place_named (λ (s : machine.Signal). s.name) (map signal_view signals) (canonical name)
place-position signals name = position_from-zero _ signals ∙ at 0 signals
  where
    at : (i : ℕ) (xs : List Signal) → position_from (λ s. same_name (string_bytes s.name) (canonical name)) i xs ≡ place_from (λ (s : machine.Signal). s.name) i (map signal_view xs) (canonical name)
    at i [] = refl
    at i (x ∷ xs) =
        ap (λ k. cond (same_name (string_bytes x.name) (canonical name)) (Some i) (position_from (λ s. same_name (string_bytes s.name) (canonical name)) k xs)) (add-one i)
        ∙ ap (cond (same_name (string_bytes x.name) (canonical name)) (Some i)) (at (suc i) xs)

-- ** elements by their places

pub slice_get-front : {A : Type 0} (xs ys : List A) (i : ℕ) (x : A) → slice_get xs i ≡ Some x → slice_get (xs ++ ys) i ≡ Some x
slice_get-front [] ys i x h = absurd (none-some x h)
slice_get-front (y ∷ xs) ys zero x h = h
slice_get-front (y ∷ xs) ys (suc i) x h = slice_get-front xs ys i x h

pub slice_get-back : {A : Type 0} (xs ys : List A) (i : ℕ) → length xs ≤ i → slice_get (xs ++ ys) i ≡ slice_get ys (i - length xs)
slice_get-back [] ys i h = ap (slice_get ys) (omega arith)
slice_get-back (x ∷ xs) ys zero h = absurd (omega arith)
slice_get-back (x ∷ xs) ys (suc i) h = slice_get-back xs ys i (omega arith) ∙ ap (slice_get ys) (omega arith)

pub slice_get-mapped : {A B : Type 0} (f : A → B) (xs : List A) (i : ℕ) (x : A) → slice_get xs i ≡ Some x → slice_get (map f xs) i ≡ Some (f x)
slice_get-mapped f [] i x h = absurd (none-some x h)
slice_get-mapped f (y ∷ xs) zero x h = let e : y ≡ x = cc in ap (λ z. Some (f z)) e
slice_get-mapped f (y ∷ xs) (suc i) x h = slice_get-mapped f xs i x h
