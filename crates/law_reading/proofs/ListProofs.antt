-- What is so of each entry of a list.
use Rattle.std.proofs.Common.{◌≡◌, ℕ, zero, suc, ◌+◌, ◌<◌, ◌≤◌, ◌⊎◌, inl, inr, Bool, true, false, cond, List, [], ◌∷◌, ◌++◌, length, map, Some, slice_get, refl, ap, subst, ◌∙◌, arith}
use Rattle.std.specs.Prelude.{◌&&◌}
use Rattle.std.specs.List.{list_all}
use Rattle.std.proofs.lemmas.Option.{slice_get_within}
use Rattle.ui_machine.specs.Definition.Names.{same_name, place_from, place_named}
use Rattle.ui_machine.specs.Seq.{read, listed}
use Rattle.law_typing.specs.Verdict.Accepted.{Each}

pub all_listed : {A : Type 0} (test : A → Bool) (f : ℕ → A) (n : ℕ) → ((i : ℕ) → i < n → test (f i) ≡ true)
    → list_all test (listed f n) ≡ true
all_listed test f zero all = refl
all_listed test f (suc n) all =
    ap (λ b. b && list_all test (listed (λ i. f (suc i)) n)) (all 0 (omega arith))
    ∙ all_listed test (λ i. f (suc i)) n (λ i h. all (suc i) (omega arith))

pub all_entries : {A : Type 0} (test : A → Bool) (xs : List A) → ((i : ℕ) (x : A) → slice_get xs i ≡ Some x → test x ≡ true)
    → list_all test xs ≡ true
all_entries test [] all = refl
all_entries test (x ∷ xs) all =
    ap (λ b. b && list_all test xs) (all 0 x refl) ∙ all_entries test xs (λ i. all (suc i))

pub all_read : {A : Type 0} (none : A) (test : A → Bool) (xs : List A) → ((i : ℕ) → test (read none xs i) ≡ true) → list_all test xs ≡ true
all_read none test [] all = refl
all_read none test (x ∷ xs) all = ap (λ b. b && list_all test xs) (all 0) ∙ all_read none test xs (λ i. all (suc i))

pub read_past : {A : Type 0} (none : A) (f : ℕ → A) (n i : ℕ) → n ≤ i → read none (listed f n) i ≡ none
read_past none f zero i h = refl
read_past none f (suc n) zero h = absurd (omega arith)
read_past none f (suc n) (suc i) h = read_past none (λ j. f (suc j)) n i (omega arith)

-- what is read behind the first entries is the next entry's
pub read_behind : {A B : Type 0} (none : B) (f : A → B) (xs : List A) (x : A) (ys : List A) → read none (map f (xs ++ x ∷ ys)) (length xs) ≡ f x
read_behind none f [] x ys = refl
read_behind none f (y ∷ xs) x ys = read_behind none f xs x ys

-- an entry of a list is one of each longer list
pub get_front : {A : Type 0} (xs ys : List A) (i : ℕ) (x : A) → slice_get xs i ≡ Some x → slice_get (xs ++ ys) i ≡ Some x
get_front [] ys i x h = absurd (cc)
get_front (y ∷ xs) ys zero x h = h
get_front (y ∷ xs) ys (suc i) x h = get_front xs ys i x h

-- an entry of a list with one more behind it is one of the list, or the last
pub get_push : {A : Type 0} (xs : List A) (x : A) (i : ℕ) (y : A) → slice_get (xs ++ x ∷ []) i ≡ Some y
    → (slice_get xs i ≡ Some y) ⊎ ((i ≡ length xs) × (y ≡ x))
get_push [] x zero y h = let same : y ≡ x = cc in inr (refl, same)
get_push [] x (suc i) y h = absurd (cc)
get_push (z ∷ xs) x zero y h = inl h
get_push (z ∷ xs) x (suc i) y h = elim (get_push xs x i y h) [ inl e ↦ inl e | inr e ↦ inr (ap suc e.0, e.1) ]

-- an entry of two lists, one behind the other, is one of either
pub got_either : {A : Type 0} (xs ys : List A) (i : ℕ) (x : A) → slice_get (xs ++ ys) i ≡ Some x
    → (slice_get xs i ≡ Some x) ⊎ ((length xs ≤ i) × ((j : ℕ) × (slice_get ys j ≡ Some x)))
got_either [] ys i x h = inr (omega arith, (i, h))
got_either (z ∷ xs) ys zero x h = inl h
got_either (z ∷ xs) ys (suc i) x h = elim (got_either xs ys i x h) [ inl e ↦ inl e | inr e ↦ inr (let far = e.0 in omega (arith, far), e.1) ]

-- within a list there is an entry
pub got_within : {A : Type 0} (xs : List A) (i : ℕ) → i < length xs → (x : A) × (slice_get xs i ≡ Some x)
got_within [] i h = absurd (omega arith)
got_within (x ∷ xs) zero h = (x, refl)
got_within (x ∷ xs) (suc i) h = got_within xs i (omega arith)

pub each_more : {A : Type 0} (P Q : A → Type 0) (xs : List A) → ((x : A) → P x → Q x) → Each P xs → Each Q xs
each_more P Q [] more all = tt
each_more P Q (x ∷ xs) more all = (more x all.0, each_more P Q xs more all.1)

pub each_get : {A : Type 0} (P : A → Type 0) (xs : List A) (i : ℕ) (x : A) → Each P xs → slice_get xs i ≡ Some x → P x
each_get P [] i x all h = absurd (cc)
each_get P (y ∷ ys) zero x all h = let same : y ≡ x = cc in subst P same all.0
each_get P (y ∷ ys) (suc i) x all h = each_get P ys i x all.1 h

-- ** what a name finds

found_entry : {A : Type 0} (name_of : A → List ℕ) (k : ℕ) (xs : List A) (name : List ℕ) (i : ℕ) → place_from name_of k xs name ≡ Some i
    → (j : ℕ) × (i ≡ k + j) × ((x : A) × (slice_get xs j ≡ Some x))
found_entry name_of k [] name i h = absurd (cc)
found_entry {A} name_of k (x ∷ xs) name i h = by (same_name (name_of x) name) h (found_entry name_of (suc k) xs name i)
  where
    by : (b : Bool) → cond b (Some k) (place_from name_of (suc k) xs name) ≡ Some i
        → (place_from name_of (suc k) xs name ≡ Some i → (j : ℕ) × (i ≡ suc k + j) × ((y : A) × (slice_get xs j ≡ Some y)))
        → (j : ℕ) × (i ≡ k + j) × ((y : A) × (slice_get (x ∷ xs) j ≡ Some y))
    by true e later = let same : k ≡ i = cc in (0, omega (arith, same), (x, refl))
    by false e later = let found = later e in let at = found.1 in (suc found.0, omega (arith, at), found.2)

pub named_entry : {A : Type 0} (name_of : A → List ℕ) (xs : List A) (name : List ℕ) (i : ℕ) → place_named name_of xs name ≡ Some i
    → (x : A) × (slice_get xs i ≡ Some x)
named_entry {A} name_of xs name i h =
    let found = found_entry name_of 0 xs name i h in
    let at = found.1 in
    let same : found.0 ≡ i = omega (arith, at) in
    subst (λ j. (x : A) × (slice_get xs j ≡ Some x)) same found.2

pub named_within : {A : Type 0} (name_of : A → List ℕ) (xs : List A) (name : List ℕ) (i : ℕ) → place_named name_of xs name ≡ Some i
    → i < length xs
named_within name_of xs name i h = let found = named_entry name_of xs name i h in slice_get_within xs i found.0 found.1
