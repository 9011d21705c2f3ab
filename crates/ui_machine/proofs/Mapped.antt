-- A loop that changes each element of a list.
use Rattle.std.proofs.Common.{◌≡◌, ℕ, zero, suc, ◌+◌, ◌<◌, List, [], ◌∷◌, ◌++◌, length, get_or, set, take, drop, map, ap, arith, add-one}

written : {X : Type 0} (f : X → X) (xs : List X) (i : ℕ) (x : X) → i < length xs → x ≡ get_or (map f (take i xs) ++ drop i xs) i x → set (map f (take i xs) ++ drop i xs) i (f x) ≡ map f (take (suc i) xs) ++ drop (suc i) xs
written f [] i x lt at = absurd (omega arith)
written f (y ∷ xs) zero x lt at = ap (λ z. f z ∷ xs) at
written f (y ∷ xs) (suc i) x lt at = ap (λ zs. f y ∷ zs) (written f xs i x (omega arith) at)

-- the element at i is changed
pub mapped_written : {X : Type 0} (f : X → X) (xs ys : List X) (i : ℕ) (x y : X) → i < length xs → ys ≡ map f (take i xs) ++ drop i xs → x ≡ get_or ys i x → f x ≡ y → set ys i y ≡ map f (take (i + 1) xs) ++ drop (i + 1) xs
mapped_written f xs ys i x y lt so_far at changed = rw (add-one, so_far, ← changed) (written f xs i x lt (rw so_far at at))
