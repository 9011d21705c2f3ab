-- Lists of different lengths are not one.
use Rattle.std.proofs.Common.{◌≡◌, refl, ap, sym, ◌∙◌, ℕ, zero, suc, Bool, true, false, ◌&&◌, List, [], ◌∷◌, length, map, drop, slice_get, Some}
use Rattle.std.proofs.lemmas.List.{length-map}
use Rattle.ui_machine.specs.Definition.Kinds.{Kind}
use Rattle.ui_machine.specs.Definition.Signals.{Method}
use Rattle.ui_machine.specs.Rules.Transform.{same_kind}
use Rattle.law_peers.specs.Needs.{same_kinds, same_method, same_shape}

and_false : (b : Bool) → false ≡ (b && false)
and_false true = refl
and_false false = refl

kinds_apart : (xs ys : List Kind) → (length xs ≡ length ys → ⊥) → false ≡ same_kinds xs ys
kinds_apart [] [] h = absurd (h refl)
kinds_apart [] (y ∷ ys) h = refl
kinds_apart (x ∷ xs) [] h = refl
kinds_apart (x ∷ xs) (y ∷ ys) h = and_false (same_kind x y) ∙ ap (λ b. same_kind x y && b) (kinds_apart xs ys (λ e. h (ap suc e)))

shapes_apart : (xs ys : List Method) → (length xs ≡ length ys → ⊥) → false ≡ same_shape xs ys
shapes_apart [] [] h = absurd (h refl)
shapes_apart [] (y ∷ ys) h = refl
shapes_apart (x ∷ xs) [] h = refl
shapes_apart (x ∷ xs) (y ∷ ys) h = and_false (same_method x y) ∙ ap (λ b. same_method x y && b) (shapes_apart xs ys (λ e. h (ap suc e)))

module _ {A : Type 0} (xs ys : List A) (apart : length xs ≡ length ys → ⊥) (view : A → Kind) where
  pub kinds_not_same : false ≡ same_kinds (map view xs) (map view ys)
  kinds_not_same = kinds_apart (map view xs) (map view ys) (λ e. apart (sym (length-map xs view) ∙ (e ∙ length-map ys view)))

-- a shape of another length than methods that are seen as these
pub shapes_not_same : {A : Type 0} (view : A → Method) (xs : List Method) (ys : List A) → (length xs ≡ length ys → ⊥) → false ≡ same_shape xs (map view ys)
shapes_not_same view xs ys apart = shapes_apart xs (map view ys) (λ e. apart (e ∙ length-map ys view))

-- ** from a number on

got_next : {A : Type 0} (xs : List A) (k : ℕ) (x : A) → slice_get xs k ≡ Some x → drop k xs ≡ x ∷ drop (suc k) xs
got_next [] k x h = absurd (cc)
got_next (y ∷ xs) zero x h = let e : y ≡ x = cc in ap (λ z. z ∷ xs) e
got_next (y ∷ xs) (suc k) x h = got_next xs k x h

-- the methods of a number are one, and so the rest decides
pub rest_decides : {A : Type 0} (view : A → Method) (xs : List Method) (ys : List A) (k : ℕ) (m : Method) (y : A) → slice_get xs k ≡ Some m → slice_get ys k ≡ Some y
    → same_method m (view y) ≡ true → same_shape (drop k xs) (map view (drop k ys)) ≡ same_shape (drop (suc k) xs) (map view (drop (suc k) ys))
rest_decides view xs ys k m y at there same =
    ap (λ l. same_shape l (map view (drop k ys))) (got_next xs k m at)
    ∙ ap (λ l. same_shape (m ∷ drop (suc k) xs) (map view l)) (got_next ys k y there)
    ∙ ap (λ b. b && same_shape (drop (suc k) xs) (map view (drop (suc k) ys))) same

-- they are not, and so the shapes are not
pub one_decides : {A : Type 0} (view : A → Method) (xs : List Method) (ys : List A) (k : ℕ) (m : Method) (y : A) → slice_get xs k ≡ Some m → slice_get ys k ≡ Some y
    → same_method m (view y) ≡ false → same_shape (drop k xs) (map view (drop k ys)) ≡ false
one_decides view xs ys k m y at there other =
    ap (λ l. same_shape l (map view (drop k ys))) (got_next xs k m at)
    ∙ ap (λ l. same_shape (m ∷ drop (suc k) xs) (map view l)) (got_next ys k y there)
    ∙ ap (λ b. b && same_shape (drop (suc k) xs) (map view (drop (suc k) ys))) other
