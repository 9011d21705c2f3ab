-- Lists in which each number occurs once, where it comes first.
use Rattle.std.proofs.Common.{◌≡◌, ◌∙◌, ℕ, zero, suc, ◌+◌, ◌*◌, ◌<◌, ◌≤◌, Bool, true, false, cond, not, ◌||◌, nat_eq, List, [], ◌∷◌, ◌++◌, length, length-append, refl, sym, ap, arith, ◌⊎◌, inl, inr}
use Rattle.std.specs.List.{filter, flat_map, list_any}
use Rattle.std.proofs.lemmas.Bool.{cases_lt}
use Rattle.std.proofs.lemmas.Bool.Decides.{nat_tests}
use Rattle.std.proofs.lemmas.List.Elements.{filter-append}
use Rattle.ui_machine.specs.Seq.{total}
use Rattle.type_tree.proofs.Lookups.{nat_eq-comm}
use Rattle.signal_core.specs.Sources.{each_once}

abbrev other : ℕ → ℕ → Bool
other x y = not (nat_eq x y)

or_true : (b : Bool) → (b || true) ≡ true
or_true true = refl
or_true false = refl

filter_last : (x s : ℕ) (there : Bool) → filter (other x) (cond there [] (s ∷ [])) ≡ cond (nat_eq s x || there) [] (s ∷ [])
filter_last x s true = sym (ap (λ b. cond b [] (s ∷ [])) (or_true (nat_eq s x)))
filter_last x s false = ap (λ b. cond (not b) (s ∷ []) []) (nat_eq-comm x s) ∙ by (nat_eq s x)
  where
    by : (b : Bool) → cond (not b) (s ∷ []) [] ≡ cond (b || false) [] (s ∷ [])
    by true = refl
    by false = refl

-- one more comes last, if it is not there already
pub each_once-more : (xs : List ℕ) (s : ℕ) → each_once (xs ++ s ∷ []) ≡ each_once xs ++ cond (list_any (nat_eq s) xs) [] (s ∷ [])
each_once-more [] s = refl
each_once-more (x ∷ xs) s =
    ap (λ l. x ∷ filter (other x) l) (each_once-more xs s)
    ∙ ap (λ l. x ∷ l) (filter-append (other x) (each_once xs) (cond (list_any (nat_eq s) xs) [] (s ∷ [])))
    ∙ ap (λ l. x ∷ (filter (other x) (each_once xs) ++ l)) (filter_last x s (list_any (nat_eq s) xs))

-- what comes behind changes nothing before it
pub each_once-front : (xs ys : List ℕ) → (zs : List ℕ) × (each_once (xs ++ ys) ≡ each_once xs ++ zs)
each_once-front [] ys = (each_once ys, refl)
each_once-front (x ∷ xs) ys =
    let rest = each_once-front xs ys in (
      filter (other x) rest.0,
      ap (λ l. x ∷ filter (other x) l) rest.1 ∙ ap (λ l. x ∷ l) (filter-append (other x) (each_once xs) rest.0),
    )

-- ** how much they weigh

-- the weights from 0 on, so many
sum_to : (ℕ → ℕ) → ℕ → ℕ
sum_to f zero = 0
sum_to f (suc n) = sum_to f n + f n

-- with nothing at x
abbrev without : (ℕ → ℕ) → ℕ → ℕ → ℕ
without f x u = cond (nat_eq x u) 0 (f u)

without-same : (f : ℕ → ℕ) (x : ℕ) → without f x x ≡ 0
without-same f x = let e : nat_eq x x ≡ true = grind (arith, nat_tests) in ap (λ b. cond b 0 (f x)) e

without-other : (f : ℕ → ℕ) (x u : ℕ) → u < x → without f x u ≡ f u
without-other f x u h = let e : nat_eq x u ≡ false = grind (arith, nat_tests) in ap (λ b. cond b 0 (f u)) e

without-past : (f : ℕ → ℕ) (x u : ℕ) → x < u → without f x u ≡ f u
without-past f x u h = let e : nat_eq x u ≡ false = grind (arith, nat_tests) in ap (λ b. cond b 0 (f u)) e

sum_below : (f : ℕ → ℕ) (x n : ℕ) → n ≤ x → sum_to (without f x) n ≡ sum_to f n
unfolding sum_to
sum_below f x zero h = refl
sum_below f x (suc n) h =
    let e = sum_below f x n (omega arith) in
    let w = without-other f x n (omega arith) in
    omega (arith, e, w)

sum_with : (f : ℕ → ℕ) (x n : ℕ) → x < n → f x + sum_to (without f x) n ≡ sum_to f n
unfolding sum_to
sum_with f x zero h = absurd (omega arith)
sum_with f x (suc n) h = by (cases_lt x n) (sum_with f x n)
  where
    by : (x < n) ⊎ (n ≤ x) → (x < n → f x + sum_to (without f x) n ≡ sum_to f n) → f x + (sum_to (without f x) n + without f x n) ≡ sum_to f n + f n
    by (inl lt) before =
        let e = before lt in
        let w = without-past f x n lt in
        omega (arith, e, w)
    by (inr ge) before =
        let same : x ≡ n = omega arith in
        let e = sum_below f x n (omega arith) in
        let w = ap (without f x) (sym same) ∙ without-same f x in
        let v = ap f same in
        omega (arith, e, w, v)

sum_filter : (f : ℕ → ℕ) (x : ℕ) (ys : List ℕ) → total f (filter (other x) ys) ≡ total (without f x) ys
sum_filter f x [] = refl
sum_filter f x (y ∷ ys) = by (nat_eq x y) (sum_filter f x ys)
  where
    by : (b : Bool) → total f (filter (other x) ys) ≡ total (without f x) ys
        → total f (cond (not b) (y ∷ filter (other x) ys) (filter (other x) ys)) ≡ cond b 0 (f y) + total (without f x) ys
    by true e = omega (arith, e)
    by false e = ap (λ n. f y + n) e

-- each number weighs once
sum_once : (f : ℕ → ℕ) (n : ℕ) → ((u : ℕ) → n ≤ u → f u ≡ 0) → (xs : List ℕ) → total f (each_once xs) ≤ sum_to f n
sum_once f n past [] = omega arith
sum_once f n past (x ∷ xs) =
    let e = sum_filter f x (each_once xs) in
    let rest = sum_once (without f x) n past-too xs in
    by (cases_lt x n) e rest
  where
    past-too : (u : ℕ) → n ≤ u → without f x u ≡ 0
    past-too u h = at (nat_eq x u)
      where
        at : (b : Bool) → cond b 0 (f u) ≡ 0
        at true = refl
        at false = past u h

    by : (x < n) ⊎ (n ≤ x) → total f (filter (other x) (each_once xs)) ≡ total (without f x) (each_once xs)
        → total (without f x) (each_once xs) ≤ sum_to (without f x) n → f x + total f (filter (other x) (each_once xs)) ≤ sum_to f n
    by (inl lt) e rest =
        let w = sum_with f x n lt in
        omega (arith, e, rest, w)
    by (inr ge) e rest =
        let w = sum_below f x n ge in
        let nothing = past x ge in
        omega (arith, e, rest, w, nothing)

sum_most : (f : ℕ → ℕ) (most : ℕ) → ((u : ℕ) → f u ≤ most) → (n : ℕ) → sum_to f n ≤ most * n
unfolding sum_to
sum_most f most each zero = omega arith
sum_most f most each (suc n) =
    let e = sum_most f most each n in
    let w = each n in
    grind (arith, e, w)

length-flat_map : {A : Type 0} (f : ℕ → List A) (xs : List ℕ) → length (flat_map f xs) ≡ total (λ u. length (f u)) xs
length-flat_map f [] = refl
length-flat_map f (x ∷ xs) = length-append (f x) (flat_map f xs) ∙ ap (λ n. length (f x) + n) (length-flat_map f xs)

-- so lists of which few are not empty, and none is long, are few items
pub once_few : {A : Type 0} (f : ℕ → List A) (most n : ℕ) → ((u : ℕ) → length (f u) ≤ most) → ((u : ℕ) → n ≤ u → f u ≡ [])
    → (xs : List ℕ) → length (flat_map f (each_once xs)) ≤ most * n
once_few f most n each past xs =
    let e = length-flat_map f (each_once xs) in
    let sum = sum_once (λ u. length (f u)) n (λ u h. ap length (past u h)) xs in
    let all = sum_most (λ u. length (f u)) most each n in
    omega (arith, e, sum, all)
