-- The first fault of parts that are gone through one after the other.
use Rattle.std.proofs.Common.{◌≡◌, refl, sym, ap, ◌∙◌, ℕ, zero, suc, ◌+◌, ◌<◌, ◌≤◌, List, [], ◌∷◌, ◌++◌, length, drop, Option, None, Some, slice_get, slice_index_or, arith}
use Rattle.std.proofs.lemmas.Option.{none-some, same_Some}
use Rattle.ui_machine.specs.Seq.{read}
use Rattle.law_typing.specs.Rules.Faults.{Fault}

pub first_of_both : (xs ys : List Fault) (x : Fault) → slice_get xs 0 ≡ Some x → slice_get (xs ++ ys) 0 ≡ Some x
first_of_both [] ys x is = absurd (none-some _ is)
first_of_both (y ∷ xs) ys x is = is

pub first_of_second : (xs ys : List Fault) → slice_get xs 0 ≡ None → slice_get (xs ++ ys) 0 ≡ slice_get ys 0
first_of_second [] ys none = refl
first_of_second (y ∷ xs) ys none = absurd (none-some _ (sym none))

module _ {A : Type 0} (part : ℕ → A → List Fault) (all : ℕ → List A → List Fault)
    (one : (n : ℕ) (x : A) (xs : List A) → all n (x ∷ xs) ≡ part n x ++ all (suc n) xs) where
  -- a part with a fault
  pub stops : (n : ℕ) (x : A) (xs rest : List A) (fault : Fault) (first : Option Fault) → first ≡ slice_get (all n xs) 0 → xs ≡ x ∷ rest →
      slice_get (part n x) 0 ≡ Some fault → first ≡ Some fault
  stops n x xs rest fault first is begins fails =
      is ∙ (ap (λ ys. slice_get (all n ys) 0) begins
      ∙ (ap (λ faults. slice_get faults 0) (one n x rest) ∙ first_of_both (part n x) (all (suc n) rest) fault fails))

  -- one without
  pub goes_on : (n : ℕ) (x : A) (xs rest : List A) (first : Option Fault) → first ≡ slice_get (all n xs) 0 → xs ≡ x ∷ rest →
      slice_get (part n x) 0 ≡ None → first ≡ slice_get (all (n + 1) rest) 0
  goes_on n x xs rest first is begins none =
      is ∙ (ap (λ ys. slice_get (all n ys) 0) begins
      ∙ (ap (λ faults. slice_get faults 0) (one n x rest)
      ∙ (first_of_second (part n x) (all (suc n) rest) none
      ∙ (let e : suc n ≡ n + 1 = omega arith in ap (λ m. slice_get (all m rest) 0) e))))

-- ** lists from an entry on

more : (n : ℕ) → suc n + 1 ≡ suc (n + 1)
more n = omega arith

-- the first is this one
pub from_item : {A : Type 0} → (xs : List A) (n : ℕ) (x : A) → n < length xs → x ≡ slice_index_or xs n x → drop n xs ≡ x ∷ drop (n + 1) xs
from_item [] n x within is = absurd (omega (arith, within))
from_item (y ∷ ys) zero x within is = ap (λ z. z ∷ ys) (sym is)
from_item (y ∷ ys) (suc n) x within is =
    from_item ys n x (omega (arith, within)) is ∙ ap (λ m. x ∷ drop m (y ∷ ys)) (sym (more n))

pub from_read : {A : Type 0} → (none : A) (xs : List A) (n : ℕ) → n < length xs → drop n xs ≡ read none xs n ∷ drop (n + 1) xs
from_read none [] n within = absurd (omega (arith, within))
from_read none (y ∷ ys) zero within = refl
from_read none (y ∷ ys) (suc n) within =
    from_read none ys n (omega (arith, within)) ∙ ap (λ m. read none ys n ∷ drop m (y ∷ ys)) (sym (more n))

pub from_got : {A : Type 0} → (xs : List A) (n : ℕ) (x : A) → Some x ≡ slice_get xs n → drop n xs ≡ x ∷ drop (n + 1) xs
from_got [] n x is = absurd (none-some _ (sym is))
from_got (y ∷ ys) zero x is = ap (λ z. z ∷ ys) (same_Some _ _ (sym is))
from_got (y ∷ ys) (suc n) x is = from_got ys n x is ∙ ap (λ m. x ∷ drop m (y ∷ ys)) (sym (more n))

-- and behind all of them there is none
pub none_left : {A : Type 0} → (xs : List A) (n : ℕ) → length xs ≤ n → drop n xs ≡ []
none_left [] zero behind = refl
none_left [] (suc n) behind = refl
none_left (x ∷ xs) zero behind = absurd (omega (arith, behind))
none_left (x ∷ xs) (suc n) behind = none_left xs n (omega (arith, behind))

pub none_got : {A : Type 0} → (xs : List A) (n : ℕ) → None ≡ slice_get xs n → drop n xs ≡ []
none_got [] zero is = refl
none_got [] (suc n) is = refl
none_got (x ∷ xs) zero is = absurd (none-some _ is)
none_got (x ∷ xs) (suc n) is = none_got xs n is

-- ** lists one behind the other

pub joined : (xs ys zs : List Fault) → xs ++ (ys ++ zs) ≡ (xs ++ ys) ++ zs
joined [] ys zs = refl
joined (x ∷ xs) ys zs = ap (λ faults. x ∷ faults) (joined xs ys zs)
