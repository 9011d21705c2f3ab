-- The comparison of texts, where they are names.
use Rattle.std.proofs.Common.{◌≡◌, ℕ, Bool, true, false, cond, ◌&&◌, List, [], ◌∷◌, refl, nat_eq}
use Rattle.std.specs.Cmp.Lexicographic.{pointwise}
use Rattle.ui_machine.specs.Definition.Names.{same_name}

and_is_cond : (a b : Bool) → (a && b) ≡ cond a b false
and_is_cond true b = refl
and_is_cond false b = refl

-- the code's comparison of two texts is the machine's of two names
pub pointwise_same_name : (xs ys : List ℕ) → pointwise nat_eq xs ys ≡ same_name xs ys
pointwise_same_name [] [] = refl
pointwise_same_name [] (y ∷ ys) = refl
pointwise_same_name (x ∷ xs) [] = refl
pointwise_same_name (x ∷ xs) (y ∷ ys) =
    rw (pointwise_same_name xs ys) (and_is_cond (nat_eq x y) (same_name xs ys))
