-- Lists of which each entry goes with one of another list.
use Rattle.std.proofs.Common.{List, [], ◌∷◌, ◌++◌}
use Rattle.verify_sketches.specs.Pointwise.{Pointwise}

pub pointwise_to : {A B : Type 0} (R S : A → B → Type 0) (xs : List A) (ys : List B) → ((x : A) (y : B) → R x y → S x y) → Pointwise R xs ys → Pointwise S xs ys
pointwise_to R S [] [] f all = tt
pointwise_to R S [] (y ∷ ys) f all = absurd all
pointwise_to R S (x ∷ xs) [] f all = absurd all
pointwise_to R S (x ∷ xs) (y ∷ ys) f all = (f x y all.0, pointwise_to R S xs ys f all.1)

pub pointwise_both : {A B : Type 0} (R : A → B → Type 0) (xs us : List A) (ys vs : List B) → Pointwise R xs ys → Pointwise R us vs → Pointwise R (xs ++ us) (ys ++ vs)
pointwise_both R [] us [] vs one two = two
pointwise_both R [] us (y ∷ ys) vs one two = absurd one
pointwise_both R (x ∷ xs) us [] vs one two = absurd one
pointwise_both R (x ∷ xs) us (y ∷ ys) vs one two = (one.0, pointwise_both R xs us ys vs one.1 two)

pub pointwise_last : {A B : Type 0} (R : A → B → Type 0) (xs : List A) (ys : List B) (x : A) (y : B) → Pointwise R xs ys → R x y → Pointwise R (xs ++ x ∷ []) (ys ++ y ∷ [])
pointwise_last R xs ys x y all one = pointwise_both R xs (x ∷ []) ys (y ∷ []) all (one, tt)
