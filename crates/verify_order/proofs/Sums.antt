-- Sums and greatest numbers, capped, and taken one after the other.
use Rattle.std.proofs.Common.{◌≡◌, refl, sym, ap, ◌∙◌, inl, inr, ◌⊎◌, ℕ, zero, suc, ◌+◌, ◌*◌, ◌<◌, ◌≤◌, min, max, Bool, true, false, List, [], ◌∷◌, length, drop, Some, slice_get, slice_index_or, arith}
use Rattle.verify_order.specs.declared.rules.Rule.{Rule}
use Rattle.verify_order.specs.Numbers.{counted, greatest, number_by, total}

-- ** lists from an entry on

more : (n : ℕ) → suc n + 1 ≡ suc (n + 1)
more n = omega arith

pub from_item : (xs : List ℕ) (n : ℕ) → n < length xs → drop n xs ≡ slice_index_or xs n 0 ∷ drop (n + 1) xs
from_item [] n within = absurd (omega (arith, within))
from_item (y ∷ ys) zero within = refl
from_item (y ∷ ys) (suc n) within =
    from_item ys n (omega (arith, within)) ∙ ap (λ m. slice_index_or ys n 0 ∷ drop m (y ∷ ys)) (sym (more n))

pub none_left : (xs : List ℕ) (n : ℕ) → length xs ≤ n → drop n xs ≡ []
none_left [] zero behind = refl
none_left [] (suc n) behind = refl
none_left (x ∷ xs) zero behind = absurd (omega (arith, behind))
none_left (x ∷ xs) (suc n) behind = none_left xs n (omega (arith, behind))

-- ** one after the other

-- one more number is added
pub adds_on : (f : ℕ → ℕ) (nodes : List ℕ) (n most so_far : ℕ) → n < length nodes →
    min (so_far + total f (drop n nodes)) most ≡ min (total f nodes) most →
    min (min most (so_far + f (slice_index_or nodes n 0)) + total f (drop (n + 1) nodes)) most ≡ min (total f nodes) most
adds_on f nodes n most so_far within is =
    let e : total f (drop n nodes) ≡ f (slice_index_or nodes n 0) + total f (drop (n + 1) nodes) = ap (total f) (from_item nodes n within) in
    omega (arith, is, e)

pub adds_all : (f : ℕ → ℕ) (nodes : List ℕ) (n most so_far : ℕ) → length nodes ≤ n → so_far ≤ most →
    min (so_far + total f (drop n nodes)) most ≡ min (total f nodes) most → so_far ≡ min (total f nodes) most
adds_all f nodes n most so_far behind within is =
    let e : total f (drop n nodes) ≡ 0 = ap (total f) (none_left nodes n behind) in
    omega (arith, is, e, within)

-- one more number is looked at
pub looks_on : (f : ℕ → ℕ) (nodes : List ℕ) (n so_far : ℕ) → n < length nodes →
    max so_far (greatest f (drop n nodes)) ≡ greatest f nodes →
    max (max (f (slice_index_or nodes n 0)) so_far) (greatest f (drop (n + 1) nodes)) ≡ greatest f nodes
looks_on f nodes n so_far within is =
    let e : greatest f (drop n nodes) ≡ max (f (slice_index_or nodes n 0)) (greatest f (drop (n + 1) nodes)) = ap (greatest f) (from_item nodes n within) in
    omega (arith, is, e)

pub looks_all : (f : ℕ → ℕ) (nodes : List ℕ) (n so_far : ℕ) → length nodes ≤ n →
    max so_far (greatest f (drop n nodes)) ≡ greatest f nodes → so_far ≡ greatest f nodes
looks_all f nodes n so_far behind is =
    let e : greatest f (drop n nodes) ≡ 0 = ap (greatest f) (none_left nodes n behind) in
    omega (arith, is, e)

-- ** capped

times_more : (n a : ℕ) → a ≤ suc n * a
times_more n a = grind arith

times_least : (n a b : ℕ) → b ≤ a → n * b ≤ n * a
times_least n a b h = grind arith

less_or_more : (a b : ℕ) → (a ≤ b) ⊎ (b ≤ a)
less_or_more zero b = inl (omega arith)
less_or_more (suc a) zero = inr (omega arith)
less_or_more (suc a) (suc b) = by (less_or_more a b)
  where
    by : (a ≤ b) ⊎ (b ≤ a) → (suc a ≤ suc b) ⊎ (suc b ≤ suc a)
    by (inl h) = inl (omega (arith, h))
    by (inr h) = inr (omega (arith, h))

-- it does not matter whether what is taken some times is capped before
pub capped_before : (n a b most : ℕ) → min most (n * min a most + b) ≡ min (n * a + b) most
capped_before zero a b most = let x : 0 * min a most ≡ 0 = grind arith in let y : 0 * a ≡ 0 = grind arith in omega (arith, x, y)
capped_before (suc n) a b most = by (less_or_more a most)
  where
    by : (a ≤ most) ⊎ (most ≤ a) → min most (suc n * min a most + b) ≡ min (suc n * a + b) most
    by (inl h) =
        let same : min a most ≡ a = omega (arith, h) in
        let whole = ap (λ m. suc n * m) same in
        omega (arith, whole)
    by (inr h) =
        let same : min a most ≡ most = omega (arith, h) in
        let whole = ap (λ m. suc n * m) same in
        let one = times_more n most in
        let two = times_least (suc n) a most h in
        omega (arith, whole, one, two)

-- ** the same numbers

pub total_same : (f h : ℕ → ℕ) (nodes : List ℕ) → ((k to : ℕ) → slice_get nodes k ≡ Some to → f to ≡ h to) → total f nodes ≡ total h nodes
total_same f h [] same = refl
total_same f h (x ∷ xs) same =
    let a = same 0 x refl in
    let b = total_same f h xs (λ k to e. same (suc k) to e) in
    cc

pub greatest_same : (f h : ℕ → ℕ) (nodes : List ℕ) → ((k to : ℕ) → slice_get nodes k ≡ Some to → f to ≡ h to) → greatest f nodes ≡ greatest h nodes
greatest_same f h [] same = refl
greatest_same f h (x ∷ xs) same =
    let a = same 0 x refl in
    let b = greatest_same f h xs (λ k to e. same (suc k) to e) in
    cc

counted_same : (adds : Bool) (f h : ℕ → ℕ) (nodes : List ℕ) → ((k to : ℕ) → slice_get nodes k ≡ Some to → f to ≡ h to) → counted adds f nodes ≡ counted adds h nodes
counted_same true f h nodes same = total_same f h nodes same
counted_same false f h nodes same = greatest_same f h nodes same

pub number_same : (rule : Rule) (most : ℕ) (f h : ℕ → ℕ) (nodes : List ℕ) → ((k to : ℕ) → slice_get nodes k ≡ Some to → f to ≡ h to) →
    number_by rule most f nodes ≡ number_by rule most h nodes
number_same rule most f h nodes same = ap (λ n. min (rule.times * n + rule.more) most) (counted_same rule.adds f h nodes same)

pub number_within : (rule : Rule) (most : ℕ) (f : ℕ → ℕ) (nodes : List ℕ) → number_by rule most f nodes ≤ most
number_within rule most f nodes = omega arith
