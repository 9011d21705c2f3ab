-- Lists of a sketch, entry by entry, and sums and greatest numbers over them.
use Rattle.std.proofs.Common.{◌≡◌, refl, sym, ap, subst, ◌∙◌, ℕ, zero, suc, ◌+◌, ◌*◌, ◌<◌, ◌≤◌, min, max, Bool, true, false, cond, List, [], ◌∷◌, ◌++◌, length, map, Option, Some, slice_get, arith}
use Rattle.std.specs.Prelude.{nat_lt}
use Rattle.ui_machine.specs.Seq.{read, listed}
use Rattle.ui_machine.specs.Seq as seq
use Rattle.law_typing.specs.Graph.{Raised}
use Rattle.law_typing.specs.Graph.Tables.{Table, entry}
use Rattle.law_typing.specs.Graph.Tables as tables
use Rattle.verify_order.specs.Numbers.{greatest, total}
use Rattle.verify_order.proofs.Sums.{capped_before}
use Rattle.verify_sketches.specs.Pointwise.{Pointwise, inside}
use Rattle.verify_numbers.specs.Tables.{table_from}

-- ** entries

pub get_map : {A B : Type 0} (f : A → B) (xs : List A) (i : ℕ) (x : A) → slice_get xs i ≡ Some x → slice_get (map f xs) i ≡ Some (f x)
get_map f [] i x e = absurd (cc)
get_map f (y ∷ ys) zero x e = let s : y ≡ x = cc in ap (λ z. Some (f z)) s
get_map f (y ∷ ys) (suc i) x e = get_map f ys i x e

pub map_get : {A B : Type 0} (f : A → B) (xs : List A) (i : ℕ) (z : B) → slice_get (map f xs) i ≡ Some z →
    (x : A) × (slice_get xs i ≡ Some x) × (f x ≡ z)
map_get f [] i z e = absurd (cc)
map_get f (y ∷ ys) zero z e = (y, refl, let s : f y ≡ z = cc in s)
map_get f (y ∷ ys) (suc i) z e = map_get f ys i z e

pub below : {A : Type 0} (xs : List A) (i : ℕ) (x : A) → slice_get xs i ≡ Some x → i < length xs
below [] i x e = absurd (cc)
below (y ∷ ys) zero x e = omega arith
below (y ∷ ys) (suc i) x e = let h = below ys i x e in omega (arith, h)

pub found : {A : Type 0} (xs : List A) (i : ℕ) → i < length xs → (x : A) × (slice_get xs i ≡ Some x)
found [] i h = absurd (omega (arith, h))
found (y ∷ ys) zero h = (y, refl)
found (y ∷ ys) (suc i) h = found ys i (omega (arith, h))

pub read_found : {A : Type 0} (d : A) (xs : List A) (i : ℕ) (x : A) → slice_get xs i ≡ Some x → read d xs i ≡ x
read_found d [] i x e = absurd (cc)
read_found d (y ∷ ys) zero x e = cc
read_found d (y ∷ ys) (suc i) x e = read_found d ys i x e

pub read_past : {A : Type 0} (d : A) (xs : List A) (i : ℕ) → length xs ≤ i → read d xs i ≡ d
read_past d [] i h = refl
read_past d (y ∷ ys) zero h = absurd (omega (arith, h))
read_past d (y ∷ ys) (suc i) h = read_past d ys i (omega (arith, h))

pub one_found : {A : Type 0} (x y : A) (o : Option A) → o ≡ Some x → o ≡ Some y → x ≡ y
one_found x y o p q = cc

-- ** lists that go together

module _ {A B : Type 0} (R : A → B → Type 0) where
  pub same_length : (xs : List A) (ys : List B) → Pointwise R xs ys → length xs ≡ length ys
  same_length [] [] h = refl
  same_length [] (y ∷ ys) h = absurd h
  same_length (x ∷ xs) [] h = absurd h
  same_length (x ∷ xs) (y ∷ ys) h = let e = same_length xs ys h.1 in omega (arith, e)

  -- of an entry of the second list that of the first
  pub at_second : (xs : List A) (ys : List B) (i : ℕ) (y : B) → Pointwise R xs ys → slice_get ys i ≡ Some y →
      (x : A) × (slice_get xs i ≡ Some x) × R x y
  at_second [] [] i y h e = absurd (cc)
  at_second [] (z ∷ ys) i y h e = absurd h
  at_second (x ∷ xs) [] i y h e = absurd h
  at_second (x ∷ xs) (z ∷ ys) zero y h e = (x, refl, let s : z ≡ y = cc in subst (R x) s h.0)
  at_second (x ∷ xs) (z ∷ ys) (suc i) y h e = at_second xs ys i y h.1 e

  -- and the other way round
  pub at_first : (xs : List A) (ys : List B) (i : ℕ) (x : A) → Pointwise R xs ys → slice_get xs i ≡ Some x →
      (y : B) × (slice_get ys i ≡ Some y) × R x y
  at_first [] [] i x h e = absurd (cc)
  at_first [] (y ∷ ys) i x h e = absurd h
  at_first (z ∷ xs) [] i x h e = absurd h
  at_first (z ∷ xs) (y ∷ ys) zero x h e = (y, refl, let s : z ≡ x = cc in subst (λ w. R w y) s h.0)
  at_first (z ∷ xs) (y ∷ ys) (suc i) x h e = at_first xs ys i x h.1 e

pub pointwise_map : {A B C : Type 0} (R : B → C → Type 0) (f : A → B) (xs : List A) (ys : List C) → Pointwise R (map f xs) ys →
    Pointwise (λ x y. R (f x) y) xs ys
pointwise_map R f [] [] h = tt
pointwise_map R f [] (y ∷ ys) h = absurd h
pointwise_map R f (x ∷ xs) [] h = absurd h
pointwise_map R f (x ∷ xs) (y ∷ ys) h = (h.0, pointwise_map R f xs ys h.1)

-- ** numbers up to a cap

-- two numbers that are the same, where neither may be above the cap
abbrev pub Like : ℕ → ℕ → ℕ → Type 0
Like cap a b = min a cap ≡ min b cap

pub sum_like : (cap a b c d : ℕ) → Like cap a b → Like cap c d → Like cap (a + c) (b + d)
sum_like cap a b c d p q = omega (arith, p, q)

pub max_like : (cap a b c d : ℕ) → Like cap a b → Like cap c d → Like cap (max a c) (max b d)
max_like cap a b c d p q = omega (arith, p, q)

pub times_like : (cap n a b : ℕ) → Like cap a b → Like cap (n * a) (n * b)
times_like cap n a b p =
    let x = capped_before n a 0 cap in
    let y = capped_before n b 0 cap in
    let z = ap (λ k. min cap (n * k + 0)) p in
    omega (arith, x, y, z)

module _ {B : Type 0} (R : ℕ → B → Type 0) (cap : ℕ) (f a : ℕ → ℕ) (h : B → ℕ) where
  pub total_like : (xs : List ℕ) (ys : List B) → Pointwise R xs ys → ((x : ℕ) (y : B) → R x y → Like cap (f (a x)) (h y)) →
      Like cap (total f (map a xs)) (seq.total h ys)
  total_like [] [] all like = refl
  total_like [] (y ∷ ys) all like = absurd all
  total_like (x ∷ xs) [] all like = absurd all
  total_like (x ∷ xs) (y ∷ ys) all like =
      sum_like cap (f (a x)) (h y) (total f (map a xs)) (seq.total h ys) (like x y all.0) (total_like xs ys all.1 like)

  pub greatest_like : (xs : List ℕ) (ys : List B) → Pointwise R xs ys → ((x : ℕ) (y : B) → R x y → Like cap (f (a x)) (h y)) →
      Like cap (greatest f (map a xs)) (tables.greatest h ys)
  greatest_like [] [] all like = refl
  greatest_like [] (y ∷ ys) all like = absurd all
  greatest_like (x ∷ xs) [] all like = absurd all
  greatest_like (x ∷ xs) (y ∷ ys) all like =
      max_like cap (f (a x)) (h y) (greatest f (map a xs)) (tables.greatest h ys) (like x y all.0) (greatest_like xs ys all.1 like)

  -- where only the numbers below a count are looked at, and what goes with the others is 0
  module _ (count : ℕ) (like : (x : ℕ) (y : B) → R x y → nat_lt x count ≡ true → Like cap (f (a x)) (h y))
      (none : (x : ℕ) (y : B) → R x y → nat_lt x count ≡ false → h y ≡ 0) where
    one_total : (b : Bool) (x : ℕ) (y : B) (xs : List ℕ) (ys : List B) → nat_lt x count ≡ b → R x y →
        Like cap (total f (map a (inside count xs)) + length xs) (seq.total (λ y. 1 + h y) ys) →
        Like cap (total f (map a (cond b (x ∷ inside count xs) (inside count xs))) + suc (length xs)) ((1 + h y) + seq.total (λ y. 1 + h y) ys)
    one_total true x y xs ys is both ih = let e = like x y both is in omega (arith, e, ih)
    one_total false x y xs ys is both ih = let e = none x y both is in omega (arith, e, ih)

    -- with one more for each
    pub inside_total : (xs : List ℕ) (ys : List B) → Pointwise R xs ys →
        Like cap (total f (map a (inside count xs)) + length xs) (seq.total (λ y. 1 + h y) ys)
    inside_total [] [] all = refl
    inside_total [] (y ∷ ys) all = absurd all
    inside_total (x ∷ xs) [] all = absurd all
    inside_total (x ∷ xs) (y ∷ ys) all = one_total (nat_lt x count) x y xs ys refl all.0 (inside_total xs ys all.1)

    one_sum : (b : Bool) (x : ℕ) (y : B) (xs : List ℕ) (ys : List B) → nat_lt x count ≡ b → R x y →
        Like cap (total f (map a (inside count xs))) (seq.total h ys) →
        Like cap (total f (map a (cond b (x ∷ inside count xs) (inside count xs)))) (h y + seq.total h ys)
    one_sum true x y xs ys is both ih = let e = like x y both is in omega (arith, e, ih)
    one_sum false x y xs ys is both ih = let e = none x y both is in omega (arith, e, ih)

    pub inside_sum : (xs : List ℕ) (ys : List B) → Pointwise R xs ys → Like cap (total f (map a (inside count xs))) (seq.total h ys)
    inside_sum [] [] all = refl
    inside_sum [] (y ∷ ys) all = absurd all
    inside_sum (x ∷ xs) [] all = absurd all
    inside_sum (x ∷ xs) (y ∷ ys) all = one_sum (nat_lt x count) x y xs ys refl all.0 (inside_sum xs ys all.1)

    one_greatest : (b : Bool) (x : ℕ) (y : B) (xs : List ℕ) (ys : List B) → nat_lt x count ≡ b → R x y →
        Like cap (greatest f (map a (inside count xs))) (tables.greatest h ys) →
        Like cap (greatest f (map a (cond b (x ∷ inside count xs) (inside count xs)))) (max (h y) (tables.greatest h ys))
    one_greatest true x y xs ys is both ih = let e = like x y both is in omega (arith, e, ih)
    one_greatest false x y xs ys is both ih = let e = none x y both is in omega (arith, e, ih)

    pub inside_greatest : (xs : List ℕ) (ys : List B) → Pointwise R xs ys →
        Like cap (greatest f (map a (inside count xs))) (tables.greatest h ys)
    inside_greatest [] [] all = refl
    inside_greatest [] (y ∷ ys) all = absurd all
    inside_greatest (x ∷ xs) [] all = absurd all
    inside_greatest (x ∷ xs) (y ∷ ys) all = one_greatest (nat_lt x count) x y xs ys refl all.0 (inside_greatest xs ys all.1)

-- a list goes with itself
pub itself : (xs : List ℕ) → Pointwise (λ (x y : ℕ). x ≡ y) xs xs
itself [] = tt
itself (x ∷ xs) = (refl, itself xs)

-- ** sums of parts

pub total_append : (f : ℕ → ℕ) (xs ys : List ℕ) → total f (xs ++ ys) ≡ total f xs + total f ys
total_append f [] ys = omega arith
total_append f (x ∷ xs) ys = let e = total_append f xs ys in omega (arith, e)

pub greatest_append : (f : ℕ → ℕ) (xs ys : List ℕ) → greatest f (xs ++ ys) ≡ max (greatest f xs) (greatest f ys)
greatest_append f [] ys = omega arith
greatest_append f (x ∷ xs) ys = let e = greatest_append f xs ys in omega (arith, e)

-- ** tables

pub read_listed : (f : ℕ → ℕ) (n i : ℕ) → i < n → read 0 (listed f n) i ≡ f i
read_listed f zero i h = absurd (omega (arith, h))
read_listed f (suc n) zero h = refl
read_listed f (suc n) (suc i) h = read_listed (λ i. f (suc i)) n i (omega (arith, h))

pub length_listed : (f : ℕ → ℕ) (n : ℕ) → length (listed f n) ≡ n
length_listed f zero = refl
length_listed f (suc n) = let e = length_listed (λ i. f (suc i)) n in omega (arith, e)

-- numbers that are listed one by one
pub listed_map : {A : Type 0} (f : ℕ → ℕ) (h : A → ℕ) (xs : List A) → ((i : ℕ) (x : A) → slice_get xs i ≡ Some x → f i ≡ h x) →
    listed f (length xs) ≡ map h xs
listed_map f h [] all = refl
listed_map f h (x ∷ xs) all =
    let a = all 0 x refl in
    let b = listed_map (λ i. f (suc i)) h xs (λ i y e. all (suc i) y e) in
    cc

pub table_map : (f : ℕ → ℕ) (h : Raised → ℕ) (n : ℕ) (rs : List Raised) →
    ((i : ℕ) (r : Raised) → slice_get rs i ≡ Some r → f (n + i) ≡ h r) →
    table_from f n rs ≡ map (λ (r : Raised). (r.channel, h r)) rs
table_map f h n [] all = refl
table_map f h n (r ∷ rs) all =
    let here : n + 0 ≡ n = omega arith in
    let a : f n ≡ h r = ap f (sym here) ∙ all 0 r refl in
    let b = table_map f h (suc n) rs (λ i x e. (let s : suc n + i ≡ n + suc i = omega arith in ap f s ∙ all (suc i) x e)) in
    ap (λ m. (r.channel, m) ∷ table_from f (suc n) rs) a ∙ ap (λ (ts : Table). (r.channel, h r) ∷ ts) b
