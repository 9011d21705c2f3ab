-- Two spellings of a name, byte by byte.
use Rattle.std.proofs.Common.{◌≡◌, ◌∙◌, ℕ, suc, Bool, true, false, cond, nat_eq, List, [], ◌∷◌, length, refl, ap}
use Rattle.ui_machine.specs.Definition.Names.{same_name, canonical}

as_long : (name : List ℕ) → length (canonical name) ≡ length name
as_long [] = refl
as_long (x ∷ name) = ap suc (as_long name)

-- texts of two lengths are not one
two_lengths : (stored name : List ℕ) → (length stored ≡ length name → ⊥) → false ≡ same_name stored name
two_lengths [] [] other = absurd (other refl)
two_lengths [] (y ∷ ys) other = refl
two_lengths (x ∷ xs) [] other = refl
two_lengths (x ∷ xs) (y ∷ ys) other = by (nat_eq x y) (two_lengths xs ys (λ e. other (ap suc e)))
  where
    by : (b : Bool) → false ≡ same_name xs ys → false ≡ cond b (same_name xs ys) false
    by true rest = rest
    by false rest = refl

pub not_as_long : (stored name : List ℕ) → (length stored ≡ length name → ⊥) → false ≡ same_name stored (canonical name)
not_as_long stored name other = two_lengths stored (canonical name) (λ e. other (e ∙ as_long name))
