-- Texts, byte by byte.
use Rattle.std.proofs.Common.{◌≡◌, ◌∙◌, Bool, true, false, cond, ◌&&◌, nat_eq, List, [], ◌∷◌, ℕ, bytes_eq, refl}
use Rattle.ui_machine.specs.Definition.Names.{same_name}

cond-and : (b c : Bool) → cond b c false ≡ (b && c)
cond-and true c = refl
cond-and false c = refl

pub same_bytes : (xs ys : List ℕ) → same_name xs ys ≡ bytes_eq xs ys
same_bytes [] [] = refl
same_bytes [] (y ∷ ys) = refl
same_bytes (x ∷ xs) [] = refl
same_bytes (x ∷ xs) (y ∷ ys) =
    let f = same_bytes xs ys in
    cond-and (nat_eq x y) (same_name xs ys) ∙ cc
