-- Numbers that grow by little from node to node are small.
use Rattle.std.proofs.Common.{◌≡◌, inl, inr, ◌⊎◌, refl, sym, ap, subst, ℕ, zero, suc, ◌+◌, ◌*◌, ◌<◌, ◌≤◌, true, false, List, [], ◌∷◌, length, Some, slice_get, slice_index_or, arith}
use Rattle.std.specs.List.{AllByRecursion, IsDistinct, list_any}
use Rattle.std.proofs.Math.Dec.{eqb}
use Rattle.std.proofs.lemmas.Bool.{eqb-true, ne_eqb}
use Rattle.std.proofs.lemmas.Map.Steps.{length-le_from_distinct_below}
use Rattle.verify_order.specs.Graphs.{Edge, Graph, IsOnce, IsOrder, LeadTo}
use Rattle.verify_order.specs.declared.rules.Rule.{Rule}
use Rattle.verify_order.specs.Numbers.{Solves, counted, greatest, number_by, of_node}
use Rattle.law_typing.proofs.Lists.{either_part}
use Rattle.verify_numbers.proofs.SketchLists.{below, found}

-- ** an order has no more entries than nodes

apart : (x : ℕ) (xs : List ℕ) → ((k y : ℕ) → slice_get xs k ≡ Some y → x ≡ y → ⊥) → AllByRecursion (λ y. eqb x y ≡ false) xs
apart x [] all = tt
apart x (y ∷ ys) all = (ne_eqb x y (all 0 y refl), apart x ys (λ k z e. all (suc k) z e))

pub once_after : (x : ℕ) (xs : List ℕ) → IsOnce (x ∷ xs) → IsOnce xs
once_after x xs once j k node p q = let e = once (suc j) (suc k) node p q in omega (arith, e)

distinct : (xs : List ℕ) → IsOnce xs → IsDistinct eqb xs
unfolding IsDistinct
distinct [] once = tt
distinct (x ∷ xs) once = (
  apart x xs (λ k y e same. (let c = once 0 (suc k) y (ap Some same) e in omega (arith, c))),
  distinct xs (once_after x xs once),
)

any_found : (q : ℕ) (xs : List ℕ) → list_any (eqb q) xs ≡ true → (k : ℕ) × (slice_get xs k ≡ Some q)
any_found q [] e = absurd (cc)
any_found q (x ∷ xs) e = by (either_part (eqb q x) (list_any (eqb q) xs) e) (any_found q xs)
  where
    later : ((k : ℕ) × (slice_get xs k ≡ Some q)) → (k : ℕ) × (slice_get (x ∷ xs) k ≡ Some q)
    later h = (suc h.0, h.1)

    by : (eqb q x ≡ true) ⊎ (list_any (eqb q) xs ≡ true) → (list_any (eqb q) xs ≡ true → (k : ℕ) × (slice_get xs k ≡ Some q)) →
        (k : ℕ) × (slice_get (x ∷ xs) k ≡ Some q)
    by (inl h) ih = (0, ap Some (sym (eqb-true q x h)))
    by (inr h) ih = later (ih h)

pub order_length : (g : Graph) (order : List ℕ) → IsOrder g order → length order ≤ length g
order_length g order is =
    length-le_from_distinct_below order (length g) (distinct order is.once)
    (λ q e. (let f = any_found q order e in is.inside f.0 q f.1))

-- ** small numbers

-- a greatest number of some is at most what each of them is
pub most_within : (f : ℕ → ℕ) (xs : List ℕ) (m : ℕ) → ((k x : ℕ) → slice_get xs k ≡ Some x → f x ≤ m) → greatest f xs ≤ m
most_within f [] m all = omega arith
most_within f (x ∷ xs) m all =
    let a = all 0 x refl in
    let b = most_within f xs m (λ k y e. all (suc k) y e) in
    omega (arith, a, b)

-- a rule that makes two more at most of the greatest number
pub record IsSmall (rule : Rule) : Type 0 where
  pub adds : rule.adds ≡ false
  pub times : rule.times ≤ 1
  pub more : rule.more ≤ 2

small_times : (n a : ℕ) → n ≤ 1 → n * a ≤ a
small_times zero a h = let z : 0 * a ≡ 0 = grind arith in omega (arith, z)
small_times (suc zero) a h = omega arith
small_times (suc (suc n)) a h = absurd (omega (arith, h))

small_number : (rule : Rule) (cap : ℕ) (f : ℕ → ℕ) (xs : List ℕ) (m : ℕ) → IsSmall rule → greatest f xs ≤ m →
    number_by rule cap f xs ≤ m + 2
small_number rule cap f xs m small within =
    let e = ap (λ b. rule.times * counted b f xs) small.adds in
    let t = small_times rule.times (greatest f xs) small.times in
    let more = small.more in
    omega (arith, e, t, more, within)

past_end : (xs : List ℕ) (i : ℕ) → length xs ≤ i → slice_index_or xs i 0 ≡ 0
past_end [] i h = refl
past_end (x ∷ xs) zero h = absurd (omega (arith, h))
past_end (x ∷ xs) (suc i) h = past_end xs i (omega (arith, h))

edge_of : (g : Graph) (node k to : ℕ) (xs : List ℕ) → slice_get g node ≡ Some xs → slice_get xs k ≡ Some to → Edge g node to
edge_of g node k to xs e f = subst (λ o. LeadTo o to) (sym e) (k, f)

le_or_gt : (a b : ℕ) → (a ≤ b) ⊎ (b < a)
le_or_gt zero b = inl (omega arith)
le_or_gt (suc a) zero = inr (omega arith)
le_or_gt (suc a) (suc b) = by (le_or_gt a b)
  where
    by : (a ≤ b) ⊎ (b < a) → (suc a ≤ suc b) ⊎ (suc b < suc a)
    by (inl h) = inl (omega (arith, h))
    by (inr h) = inr (omega (arith, h))

module _ (rules : List Rule) (cap : ℕ) (g : Graph) (order values : List ℕ) (is : IsOrder g order) (solves : Solves rules cap g values)
    (as_many : length rules ≡ length g)
    (small : (k : ℕ) (rule : Rule) → slice_get rules k ≡ Some rule → IsSmall rule) where
  -- by the place in the order, where no place is past m
  within : (m j node : ℕ) → j < m → slice_get order j ≡ Some node → of_node values node ≤ 2 * m
  within zero j node h e = absurd (omega (arith, h))
  within (suc m) j node h e =
      let there = is.inside j node e in
      let rule = found rules node (omega (arith, there, as_many)) in
      let edges = found g node there in
      let v = solves.each node rule.0 edges.0 rule.1 edges.1 in
      let l =
      most_within (of_node values) edges.0 (2 * m)
      (λ k to f.
      let b = is.behind j node to e (edge_of g node k to edges.0 edges.1 f) in
      let low = b.1 in
      within m b.0 to (omega (arith, low, h)) b.2) in
      let s = small_number rule.0 cap (of_node values) edges.0 (2 * m) (small node rule.0 rule.1) l in
      omega (arith, v, s)

  pub all_small : (node : ℕ) → of_node values node ≤ 2 * length g
  all_small node = by (le_or_gt (length g) node)
    where
      by : (length g ≤ node) ⊎ (node < length g) → of_node values node ≤ 2 * length g
      by (inl h) = let c = solves.count in let e = past_end values node (omega (arith, c, h)) in omega (arith, e)
      by (inr h) =
          let k = is.all node h in
          let n = order_length g order is in
          let l = below order k.0 node k.1 in
          within (length g) k.0 node (omega (arith, n, l)) k.1
