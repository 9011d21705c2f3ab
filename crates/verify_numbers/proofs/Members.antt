-- Members of lists, where they come from.
use Rattle.std.proofs.Common.{◌≡◌, inl, inr, ◌⊎◌, refl, sym, ap, subst, ℕ, zero, suc, ◌<◌, ◌≤◌, List, [], ◌∷◌, ◌++◌, map, Some, slice_get, arith}
use Rattle.std.specs.Prelude.{nat_lt}
use Rattle.std.specs.List.{flat_map}
use Rattle.std.proofs.lemmas.Bool.{lt-ltb, ltb-true}
use Rattle.ui_machine.specs.Seq.{listed, read}
use Rattle.law_typing.specs.Graph.Costs.{before_last, only_last}
use Rattle.law_typing.specs.Graph.Tables.{greatest}
use Rattle.law_typing.specs.Laws.{IsIn}
use Rattle.law_typing.proofs.Lists.{filter_in}
use Rattle.law_typing.proofs.OneSolutionProofs.{filtered_kept}
use Rattle.verify_sketches.specs.Pointwise.{Pointwise, inside}

pub get_in : {A : Type 0} (xs : List A) (k : ℕ) (x : A) → slice_get xs k ≡ Some x → IsIn x xs
get_in [] k x e = absurd (cc)
get_in (y ∷ ys) zero x e = inl (let s : x ≡ y = cc in s)
get_in (y ∷ ys) (suc k) x e = inr (get_in ys k x e)

pub in_get : {A : Type 0} (xs : List A) (x : A) → IsIn x xs → (k : ℕ) × (slice_get xs k ≡ Some x)
in_get [] x h = absurd h
in_get (y ∷ ys) x (inl e) = (0, ap Some (sym e))
in_get {A} (y ∷ ys) x (inr h) = later (in_get ys x h)
  where
    later : ((k : ℕ) × (slice_get ys k ≡ Some x)) → (k : ℕ) × (slice_get (y ∷ ys) k ≡ Some x)
    later k = (suc k.0, k.1)

pub append_cases : {A : Type 0} (xs ys : List A) (x : A) → IsIn x (xs ++ ys) → IsIn x xs ⊎ IsIn x ys
append_cases [] ys x h = inr h
append_cases (z ∷ xs) ys x (inl e) = inl (inl e)
append_cases {A} (z ∷ xs) ys x (inr h) = later (append_cases xs ys x h)
  where
    later : IsIn x xs ⊎ IsIn x ys → IsIn x (z ∷ xs) ⊎ IsIn x ys
    later (inl k) = inl (inr k)
    later (inr k) = inr k

pub map_cases : {A B : Type 0} (f : A → B) (xs : List A) (y : B) → IsIn y (map f xs) → (x : A) × IsIn x xs × (y ≡ f x)
map_cases f [] y h = absurd h
map_cases f (x ∷ xs) y (inl e) = (x, inl refl, e)
map_cases {A} f (x ∷ xs) y (inr h) = later (map_cases f xs y h)
  where
    later : ((z : A) × IsIn z xs × (y ≡ f z)) → (z : A) × IsIn z (x ∷ xs) × (y ≡ f z)
    later k = (k.0, inr k.1, k.2)

pub flat_cases : {A B : Type 0} (f : A → List B) (xs : List A) (b : B) → IsIn b (flat_map f xs) → (x : A) × IsIn x xs × IsIn b (f x)
flat_cases f [] b h = absurd h
flat_cases {A} f (x ∷ xs) b h = by (append_cases (f x) (flat_map f xs) b h) (flat_cases f xs b)
  where
    later : ((y : A) × IsIn y xs × IsIn b (f y)) → (y : A) × IsIn y (x ∷ xs) × IsIn b (f y)
    later k = (k.0, inr k.1, k.2)

    by : IsIn b (f x) ⊎ IsIn b (flat_map f xs) → (IsIn b (flat_map f xs) → (y : A) × IsIn y xs × IsIn b (f y)) →
        (y : A) × IsIn y (x ∷ xs) × IsIn b (f y)
    by (inl k) more = (x, inl refl, k)
    by (inr k) more = later (more k)

-- the numbers below a count
pub inside_in : (count n : ℕ) (ns : List ℕ) → n < count → IsIn n ns → IsIn n (inside count ns)
inside_in count n ns h there = filter_in (λ n. nat_lt n count) ns n (lt-ltb n count h) there

pub inside_cases : (count n : ℕ) (ns : List ℕ) → IsIn n (inside count ns) → (n < count) × IsIn n ns
inside_cases count n ns h = let k = filtered_kept (λ n. nat_lt n count) ns n h in (ltb-true n count k.0, k.1)

pub listed_cases : (f : ℕ → ℕ) (n x : ℕ) → IsIn x (listed f n) → (i : ℕ) × (i < n) × (x ≡ f i)
listed_cases f zero x h = absurd h
listed_cases f (suc n) x (inl e) = (0, omega arith, e)
listed_cases f (suc n) x (inr h) = later (listed_cases (λ i. f (suc i)) n x h)
  where
    later : ((i : ℕ) × (i < n) × (x ≡ f (suc i))) → (i : ℕ) × (i < suc n) × (x ≡ f i)
    later k = let l = k.1 in (suc k.0, omega (arith, l), k.2)

-- ** the last of some, and those before it

pub last_cases : (xs : List ℕ) (x : ℕ) → IsIn x xs → IsIn x (before_last xs) ⊎ IsIn x (only_last xs)
last_cases [] x h = inl h
last_cases (y ∷ []) x h = inr h
last_cases (y ∷ z ∷ xs) x (inl e) = inl (inl e)
last_cases (y ∷ z ∷ xs) x (inr h) = later (last_cases (z ∷ xs) x h)
  where
    later : IsIn x (before_last (z ∷ xs)) ⊎ IsIn x (only_last (z ∷ xs)) → IsIn x (y ∷ before_last (z ∷ xs)) ⊎ IsIn x (only_last (z ∷ xs))
    later (inl k) = inl (inr k)
    later (inr k) = inr k

pub before_in : (xs : List ℕ) (x : ℕ) → IsIn x (before_last xs) → IsIn x xs
before_in [] x h = h
before_in (y ∷ []) x h = absurd h
before_in (y ∷ z ∷ xs) x (inl e) = inl e
before_in (y ∷ z ∷ xs) x (inr h) = inr (before_in (z ∷ xs) x h)

pub last_in : (xs : List ℕ) (x : ℕ) → IsIn x (only_last xs) → IsIn x xs
last_in [] x h = h
last_in (y ∷ []) x h = h
last_in (y ∷ z ∷ xs) x h = inr (last_in (z ∷ xs) x h)

-- ** lists that go together

module _ {A B : Type 0} (R : A → B → Type 0) where
  -- what goes with a member of the first list
  pub in_first : (xs : List A) (ys : List B) (x : A) → Pointwise R xs ys → IsIn x xs → (y : B) × IsIn y ys × R x y
  in_first [] [] x all h = absurd h
  in_first [] (y ∷ ys) x all h = absurd all
  in_first (z ∷ xs) [] x all h = absurd all
  in_first (z ∷ xs) (y ∷ ys) x all (inl e) = (y, inl refl, subst (λ w. R w y) (sym e) all.0)
  in_first (z ∷ xs) (y ∷ ys) x all (inr h) = later (in_first xs ys x all.1 h)
    where
      later : ((w : B) × IsIn w ys × R x w) → (w : B) × IsIn w (y ∷ ys) × R x w
      later k = (k.0, inr k.1, k.2)

  -- and of the second
  pub in_second : (xs : List A) (ys : List B) (y : B) → Pointwise R xs ys → IsIn y ys → (x : A) × IsIn x xs × R x y
  in_second [] [] y all h = absurd h
  in_second [] (z ∷ ys) y all h = absurd all
  in_second (x ∷ xs) [] y all h = absurd all
  in_second (x ∷ xs) (z ∷ ys) y all (inl e) = (x, inl refl, subst (R x) (sym e) all.0)
  in_second (x ∷ xs) (z ∷ ys) y all (inr h) = later (in_second xs ys y all.1 h)
    where
      later : ((w : A) × IsIn w xs × R w y) → (w : A) × IsIn w (x ∷ xs) × R w y
      later k = (k.0, inr k.1, k.2)

-- ** what is read

-- something in a list that is read is in it by its number
pub read_in : {A : Type 0} (xss : List (List A)) (i : ℕ) (x : A) → IsIn x (read [] xss i) →
    (xs : List A) × (slice_get xss i ≡ Some xs) × IsIn x xs
read_in [] i x h = absurd h
read_in (ys ∷ xss) zero x h = (ys, refl, h)
read_in (ys ∷ xss) (suc i) x h = read_in xss i x h

-- ** greatest numbers

pub most_of_each : {A : Type 0} (f : A → ℕ) (xs : List A) (m : ℕ) → ((x : A) → IsIn x xs → f x ≤ m) → greatest f xs ≤ m
most_of_each f [] m all = omega arith
most_of_each f (x ∷ xs) m all =
    let a = all x (inl refl) in
    let b = most_of_each f xs m (λ y h. all y (inr h)) in
    omega (arith, a, b)
