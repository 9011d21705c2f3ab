-- What holds of two lists, element by element, from a place on.
use Rattle.std.proofs.Common.{◌≡◌, ◌<◌, ◌≤◌, ℕ, zero, suc, List, [], ◌∷◌, length, map, drop, get_or, sym, subst, arith}
use Rattle.std.proofs.lemmas.List.{length-drop, nil_from_length}
use Rattle.std.specs.List.{AllByRecursion, AllZip}

-- what holds of each element holds of the one at a place
pub holds_at : {B D : Type 0} (P : D → Type 0) (g : B → D) (ys : List B) (i : ℕ) (y : B) → AllByRecursion P (map g ys) → i < length ys → y ≡ get_or ys i y → P (g y)
holds_at P g [] i y all within at = absurd (omega arith)
holds_at P g (z ∷ ys) zero y all within at = subst (λ x. P (g x)) (sym at) all.0
holds_at P g (z ∷ ys) (suc i) y all within at = holds_at P g ys i y all.1 (omega arith) at

module _ {A B C D : Type 0} (R : C → D → Type 0) (f : A → C) (g : B → D) (xs : List A) (ys : List B) where
  abbrev pub HoldsFrom : ℕ → Type 0
  HoldsFrom i = AllZip R (map f (drop i xs)) (map g (drop i ys))

  none_left : {X : Type 0} (zs : List X) (i : ℕ) → length zs ≤ i → drop i zs ≡ []
  none_left zs i past = nil_from_length (drop i zs) (omega (arith, length-drop i zs))

  -- it holds where none are left
  pub holds_of_none : (i : ℕ) → length xs ≤ i → length ys ≤ i → HoldsFrom i
  holds_of_none i first second = rw (none_left xs i first, none_left ys i second) tt
