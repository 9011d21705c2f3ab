-- Sums and greatest numbers over channels that are gone through.
use Rattle.std.proofs.Common.{◌≡◌, refl, sym, ap, ◌∙◌, subst, ℕ, zero, suc, ◌+◌, ◌<◌, ◌≤◌, min, max, List, [], ◌∷◌, ◌++◌, length, map, drop, Some, None, slice_get, slice_index_or, append_assoc, append-nil, arith}
use Rattle.std.specs.List.{flat_map}
use Rattle.std.proofs.lemmas.Option.{none-some, same_Some}
use Rattle.ui_machine.specs.Seq.{total}
use Rattle.law_typing.specs.Graph.Channels.{Channel}
use Rattle.law_typing.specs.Graph.Tables.{greatest}
use Rattle.law_typing.specs.Laws.Capped.{capped}

-- the value at a place of a list that is mapped
pub value_at : (f : Channel → ℕ) (cs : List Channel) (vs : List ℕ) (n : ℕ) (c : Channel) → vs ≡ map f cs → slice_get cs n ≡ Some c →
    slice_index_or vs n 0 ≡ f c
value_at f cs vs n c same is = ap (λ xs. slice_index_or xs n 0) same ∙ by cs n is
  where
    by : (xs : List Channel) (i : ℕ) → slice_get xs i ≡ Some c → slice_index_or (map f xs) i 0 ≡ f c
    by [] i e = absurd (none-some _ e)
    by (x ∷ xs) zero e = ap f (same_Some _ _ e)
    by (x ∷ xs) (suc i) e = by xs i e

-- capped sums go on
pub sum_goes_on : (sum cost next t x whole : ℕ) → next ≡ capped (sum + cost) → cost ≡ capped x → capped (sum + (x + t)) ≡ whole → capped (next + t) ≡ whole
sum_goes_on sum cost next t x whole adds is known =
    ap (λ n. capped (n + t)) (adds ∙ ap (λ m. capped (sum + m)) is) ∙ (capped_parts sum x t ∙ known)
  where
    capped_parts : (a b c : ℕ) → capped (capped (a + capped b) + c) ≡ capped (a + (b + c))
    capped_parts a b c = omega arith

pub sum_ends : (sum whole : ℕ) → capped sum ≡ sum → capped (sum + 0) ≡ whole → sum ≡ whole
sum_ends sum whole within known = let e : sum + 0 ≡ sum = omega arith in sym within ∙ (ap capped (sym e) ∙ known)

pub capped_one : (x : ℕ) → capped (1 + capped x) ≡ capped (1 + x)
capped_one x = omega arith

pub capped_twice : (x : ℕ) → capped (capped x) ≡ capped x
capped_twice x = omega arith

pub most_goes_on : (a b c : ℕ) → max (max a b) c ≡ max a (max b c)
most_goes_on a b c = omega arith

pub most_ends : (a : ℕ) → a ≡ max a 0
most_ends a = omega arith

-- from an entry on, the first is this one
pub from_got : {A : Type 0} → (xs : List A) (n : ℕ) (x : A) → slice_get xs n ≡ Some x → drop n xs ≡ x ∷ drop (n + 1) xs
from_got [] n x e = absurd (none-some _ e)
from_got (y ∷ ys) zero x e = ap (λ z. z ∷ ys) (same_Some _ _ e)
from_got (y ∷ ys) (suc n) x e = let m : suc n + 1 ≡ suc (n + 1) = omega arith in from_got ys n x e ∙ ap (λ k. x ∷ drop k (y ∷ ys)) (sym m)

-- ** lists that are put together

pub flat_goes_on : {B : Type 0} → (h : B → List ℕ) (old new : List ℕ) (y : B) (ys rest : List B) (whole : List ℕ) → new ≡ old ++ h y → ys ≡ y ∷ rest →
    old ++ flat_map h ys ≡ whole → new ++ flat_map h rest ≡ whole
flat_goes_on h old new y ys rest whole added parts known =
    ap (λ xs. xs ++ flat_map h rest) added
    ∙ (append_assoc old (h y) (flat_map h rest) ∙ (ap (λ zs. old ++ flat_map h zs) (sym parts) ∙ known))

pub flat_ends : {B : Type 0} → (h : B → List ℕ) (old : List ℕ) (ys : List B) (whole : List ℕ) → ys ≡ [] → old ++ flat_map h ys ≡ whole → old ≡ whole
flat_ends h old ys whole none known = sym (append-nil old) ∙ (ap (λ zs. old ++ flat_map h zs) (sym none) ∙ known)

pub none_got : {A : Type 0} → (xs : List A) (n : ℕ) → slice_get xs n ≡ None → drop n xs ≡ []
none_got [] zero e = refl
none_got [] (suc n) e = refl
none_got (x ∷ xs) zero e = absurd (none-some _ (sym e))
none_got (x ∷ xs) (suc n) e = none_got xs n e
