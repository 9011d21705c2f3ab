-- Lists that are gone through from their beginning.
use Rattle.std.proofs.Common.{◌≡◌, ◌∙◌, refl, sym, ap, ℕ, zero, suc, ◌+◌, ◌<◌, ◌≤◌, List, [], ◌∷◌, ◌++◌, length, map, take, Some, slice_get, slice_index_or, append-nil, arith}
use Rattle.std.specs.List.{flat_map}
use Rattle.std.proofs.lemmas.Grind.{flat_map-append}
use Rattle.std.proofs.lemmas.List.{map-append}
use Rattle.std.proofs.lemmas.Option.{none-some, same_Some}
use Rattle.ui_machine.specs.Seq.{listed, read}

-- ** so many values of a function

-- one more of them
pub listed_last : {A : Type 0} → (f : ℕ → A) (n : ℕ) → listed f (n + 1) ≡ listed f n ++ f n ∷ []
listed_last f n = (let e : n + 1 ≡ suc n = omega arith in ap (listed f) e) ∙ by n f
  where
    by : {A : Type 0} → (n : ℕ) (f : ℕ → A) → listed f (suc n) ≡ listed f n ++ f n ∷ []
    by zero f = refl
    by (suc n) f = ap (λ xs. f 0 ∷ xs) (by n (λ i. f (suc i)))

pub flat_last : {A : Type 0} → (f : ℕ → List A) (n : ℕ) → flat_map f (listed (λ i. i) (n + 1)) ≡ flat_map f (listed (λ i. i) n) ++ f n
flat_last f n =
    ap (flat_map f) (listed_last (λ i. i) n)
    ∙ (flat_map-append f (listed (λ i. i) n) (n ∷ []) ∙ ap (λ xs. flat_map f (listed (λ i. i) n) ++ xs) (append-nil (f n)))

pub listed_length : {A : Type 0} → (f : ℕ → A) (count : ℕ) → length (listed f count) ≡ count
listed_length f zero = refl
listed_length f (suc count) = let e = listed_length (λ i. f (suc i)) count in omega (arith, e)

pub listed_get : {A : Type 0} → (f : ℕ → A) (count n : ℕ) → n < count → slice_get (listed f count) n ≡ Some (f n)
listed_get f zero n below = absurd (omega (arith, below))
listed_get f (suc count) zero below = refl
listed_get f (suc count) (suc n) below = listed_get (λ i. f (suc i)) count n (omega (arith, below))

-- and one that is read
pub listed_read : {A : Type 0} → (none : A) (f : ℕ → A) (count n : ℕ) → n < count → read none (listed f count) n ≡ f n
listed_read none f zero n below = absurd (omega (arith, below))
listed_read none f (suc count) zero below = refl
listed_read none f (suc count) (suc n) below = listed_read none (λ i. f (suc i)) count n (omega (arith, below))

pub listed_behind : {A : Type 0} → (none : A) (f : ℕ → A) (count n : ℕ) → count ≤ n → read none (listed f count) n ≡ none
listed_behind none f zero n behind = refl
listed_behind none f (suc count) zero behind = absurd (omega (arith, behind))
listed_behind none f (suc count) (suc n) behind = listed_behind none (λ i. f (suc i)) count n (omega (arith, behind))

pub same_listed : {A : Type 0} → (count : ℕ) (f g : ℕ → A) → ((i : ℕ) → f i ≡ g i) → listed f count ≡ listed g count
same_listed zero f g same = refl
same_listed (suc count) f g same =
    ap (λ x. x ∷ listed (λ i. f (suc i)) count) (same 0) ∙ ap (λ xs. g 0 ∷ xs) (same_listed count (λ i. f (suc i)) (λ i. g (suc i)) (λ i. same (suc i)))

-- ** the first of a list

more : (n : ℕ) → suc n + 1 ≡ suc (n + 1)
more n = omega arith

-- one more of them
pub take_last : {A : Type 0} → (xs : List A) (n : ℕ) (x : A) → Some x ≡ slice_get xs n → take (n + 1) xs ≡ take n xs ++ x ∷ []
take_last [] n x is = absurd (none-some x (sym is))
take_last {A} (y ∷ ys) zero x is = ap (λ z. z ∷ []) (same_Some _ _ (sym is))
take_last {A} (y ∷ ys) (suc n) x is = ap (λ m. take m (y ∷ ys)) (more n) ∙ ap (λ zs. y ∷ zs) (take_last ys n x is)

pub take_entry : {A : Type 0} → (xs : List A) (n : ℕ) (x : A) → n < length xs → x ≡ slice_index_or xs n x → take (n + 1) xs ≡ take n xs ++ x ∷ []
take_entry [] n x within is = absurd (omega (arith, within))
take_entry {A} (y ∷ ys) zero x within is = ap (λ z. z ∷ []) (sym is)
take_entry {A} (y ∷ ys) (suc n) x within is = ap (λ m. take m (y ∷ ys)) (more n) ∙ ap (λ zs. y ∷ zs) (take_entry ys n x (omega (arith, within)) is)

pub take_all : {A : Type 0} → (xs : List A) (n : ℕ) → length xs ≤ n → take n xs ≡ xs
take_all [] zero behind = refl
take_all [] (suc n) behind = refl
take_all (x ∷ xs) zero behind = absurd (omega (arith, behind))
take_all (x ∷ xs) (suc n) behind = ap (λ ys. x ∷ ys) (take_all xs n (omega (arith, behind)))

-- one more of a list that is seen by a view
pub mapped_last : {A B : Type 0} → (f : A → B) (xs ys : List A) (x : A) → ys ≡ xs ++ x ∷ [] → map f ys ≡ map f xs ++ f x ∷ []
mapped_last f xs ys x is = ap (map f) is ∙ map-append f xs (x ∷ [])

-- ** what is read

pub read_index : {A : Type 0} → (none : A) (xs : List A) (n : ℕ) (x : A) → n < length xs → slice_index_or xs n x ≡ read none xs n
read_index none [] n x within = absurd (omega (arith, within))
read_index none (y ∷ ys) zero x within = refl
read_index none (y ∷ ys) (suc n) x within = read_index none ys n x (omega (arith, within))

pub read_past : {A : Type 0} → (none : A) (xs : List A) (n : ℕ) → length xs ≤ n → none ≡ read none xs n
read_past none [] n behind = refl
read_past none (x ∷ xs) zero behind = absurd (omega (arith, behind))
read_past none (x ∷ xs) (suc n) behind = read_past none xs n (omega (arith, behind))
