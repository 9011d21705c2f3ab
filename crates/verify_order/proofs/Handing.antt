-- What a pass from the end of an order keeps: each node hands its number on to those that it depends on.
use Rattle.std.proofs.Common.{◌≡◌, inl, inr, ◌⊎◌, refl, sym, ap, ◌∙◌, subst, ℕ, zero, suc, ◌+◌, ◌<◌, ◌≤◌, max, Bool, true, false, List, [], ◌∷◌, length, drop, replicate, Option, None, Some, slice_get, slice_set, slice_index_or, arith}
use Rattle.std.specs.Prelude.{eqb, ◌≢◌, ◌||◌}
use Rattle.std.specs.List.{AllByRecursion, IsDistinct, list_any}
use Rattle.std.proofs.lemmas.Bool.{false≢true}
use Rattle.std.proofs.lemmas.Bool.Decides.{eqb_tells}
use Rattle.std.proofs.lemmas.Map.Steps.{length-le_from_distinct_below}
use Rattle.std.proofs.lemmas.List.{get_or-set_same, get_or-set_other}
use Rattle.std.proofs.lemmas.Option.{none-some, same_Some, slice_get_within}
use Rattle.verify_order.specs.Graphs.{Edge, Graph, LeadTo, IsOnce, IsOrder}
use Rattle.verify_order.specs.Chains.{AreRanks, handed_on, one_if, step}
use Rattle.verify_order.specs.Numbers.{AreWithin, LeadInside, of_node}
use Rattle.verify_order.proofs.Sums.{from_item, none_left}

-- ** one node's number, handed on

set_length : (xs : List ℕ) (i x : ℕ) → length (slice_set xs i x) ≡ length xs
set_length [] i x = refl
set_length (y ∷ ys) zero x = refl
set_length (y ∷ ys) (suc i) x = ap suc (set_length ys i x)

pub handed_length : (nodes : List ℕ) (number : ℕ) (ranks : List ℕ) → length (handed_on nodes number ranks) ≡ length ranks
handed_length [] number ranks = refl
handed_length (n ∷ nodes) number ranks =
    handed_length nodes number (slice_set ranks n (max (of_node ranks n) number)) ∙ set_length ranks n (max (of_node ranks n) number)

-- a number that is written over
written : (ranks : List ℕ) (node number to : ℕ) → node < length ranks →
    ((node ≡ to) × (of_node (slice_set ranks node (max (of_node ranks node) number)) to ≡ max (of_node ranks to) number))
    ⊎ (of_node (slice_set ranks node (max (of_node ranks node) number)) to ≡ of_node ranks to)
written ranks node number to within = by (eqb_tells node to)
  where
    new : ℕ
    new = max (of_node ranks node) number

    by : ((eqb node to ≡ true) × (node ≡ to)) ⊎ ((eqb node to ≡ false) × (node ≢ to)) →
        ((node ≡ to) × (of_node (slice_set ranks node new) to ≡ max (of_node ranks to) number)) ⊎ (of_node (slice_set ranks node new) to ≡ of_node ranks to)
    by (inl e) =
        inl (
          e.1,
          ap (λ x. of_node (slice_set ranks node new) x) (sym e.1)
              ∙ (get_or-set_same ranks node new 0 within ∙ ap (λ x. max (of_node ranks x) number) e.1),
        )
    by (inr e) = inr (get_or-set_other ranks node to new 0 (λ same. e.1 (sym same)))

rest_inside : (node : ℕ) (nodes ranks : List ℕ) (x : ℕ) → LeadInside (node ∷ nodes) ranks → LeadInside nodes (slice_set ranks node x)
rest_inside node nodes ranks x inside k to there =
    let e = set_length ranks node x in
    let i = inside (suc k) to there in
    omega (arith, e, i)

-- no number falls
pub grows : (nodes : List ℕ) (number : ℕ) (ranks : List ℕ) (to : ℕ) → LeadInside nodes ranks → of_node ranks to ≤ of_node (handed_on nodes number ranks) to
grows [] number ranks to inside = omega arith
grows (n ∷ nodes) number ranks to inside =
    by (written ranks n number to (inside 0 n refl))
    (grows nodes number (slice_set ranks n (max (of_node ranks n) number)) to (rest_inside n nodes ranks (max (of_node ranks n) number) inside))
  where
    next : List ℕ
    next = slice_set ranks n (max (of_node ranks n) number)

    by : ((n ≡ to) × (of_node next to ≡ max (of_node ranks to) number)) ⊎ (of_node next to ≡ of_node ranks to) →
        of_node next to ≤ of_node (handed_on nodes number next) to → of_node ranks to ≤ of_node (handed_on nodes number next) to
    by (inl e) later = let w = e.1 in omega (arith, w, later)
    by (inr e) later = omega (arith, e, later)

-- a node that it is handed on to has it at least
pub reaches : (nodes : List ℕ) (number : ℕ) (ranks : List ℕ) (k to : ℕ) → LeadInside nodes ranks → slice_get nodes k ≡ Some to →
    number ≤ of_node (handed_on nodes number ranks) to
reaches [] number ranks k to inside there = absurd (none-some _ there)
reaches (n ∷ nodes) number ranks zero to inside there =
    let next = slice_set ranks n (max (of_node ranks n) number) in
    let one : n ≡ to = same_Some _ _ there in
    let w : of_node next to ≡ max (of_node ranks n) number =
    ap (λ x. of_node next x) (sym one) ∙ get_or-set_same ranks n (max (of_node ranks n) number) 0 (inside 0 n refl) in
    let more = grows nodes number next to (rest_inside n nodes ranks (max (of_node ranks n) number) inside) in
    omega (arith, w, more)
reaches (n ∷ nodes) number ranks (suc k) to inside there =
    reaches nodes number (slice_set ranks n (max (of_node ranks n) number)) k to (rest_inside n nodes ranks (max (of_node ranks n) number) inside) there

-- a node's number stays, or it is handed on to the node and is the new one
pub told : (nodes : List ℕ) (number : ℕ) (ranks : List ℕ) (to : ℕ) → LeadInside nodes ranks →
    (of_node (handed_on nodes number ranks) to ≡ of_node ranks to)
    ⊎ (((k : ℕ) × (slice_get nodes k ≡ Some to)) × (of_node (handed_on nodes number ranks) to ≡ number))
told [] number ranks to inside = inl refl
told (n ∷ nodes) number ranks to inside =
    by (written ranks n number to (inside 0 n refl))
    (told nodes number (slice_set ranks n (max (of_node ranks n) number)) to (rest_inside n nodes ranks (max (of_node ranks n) number) inside))
  where
    next : List ℕ
    next = slice_set ranks n (max (of_node ranks n) number)

    whole : ℕ
    whole = of_node (handed_on nodes number next) to

    either : (a b : ℕ) → (max a b ≡ a) ⊎ (max a b ≡ b)
    either a b = grind arith

    by : ((n ≡ to) × (of_node next to ≡ max (of_node ranks to) number)) ⊎ (of_node next to ≡ of_node ranks to) →
        (whole ≡ of_node next to) ⊎ (((k : ℕ) × (slice_get nodes k ≡ Some to)) × (whole ≡ number)) →
        (whole ≡ of_node ranks to) ⊎ (((k : ℕ) × (slice_get (n ∷ nodes) k ≡ Some to)) × (whole ≡ number))
    by w (inr later) = inr ((suc later.0.0, later.0.1), later.1)
    by (inr w) (inl later) = inl (later ∙ w)
    by (inl w) (inl later) = choose (either (of_node ranks to) number)
      where
        choose : (max (of_node ranks to) number ≡ of_node ranks to) ⊎ (max (of_node ranks to) number ≡ number) →
            (whole ≡ of_node ranks to) ⊎ (((k : ℕ) × (slice_get (n ∷ nodes) k ≡ Some to)) × (whole ≡ number))
        choose (inl m) = inl (later ∙ (w.1 ∙ m))
        choose (inr m) = inr ((0, ap Some w.0), later ∙ (w.1 ∙ m))

-- ** one node after the other

-- one more of the nodes
pub hands_on : (nodes : List ℕ) (number place : ℕ) (ranks first : List ℕ) → place < length nodes →
    handed_on (drop place nodes) number ranks ≡ handed_on nodes number first →
    handed_on (drop (place + 1) nodes) number (slice_set ranks (slice_index_or nodes place 0) (max (of_node ranks (slice_index_or nodes place 0)) number))
    ≡ handed_on nodes number first
hands_on nodes number place ranks first within is = sym (ap (λ ns. handed_on ns number ranks) (from_item nodes place within)) ∙ is

pub handed_all : (nodes : List ℕ) (number place : ℕ) (ranks first : List ℕ) → length nodes ≤ place →
    handed_on (drop place nodes) number ranks ≡ handed_on nodes number first → ranks ≡ handed_on nodes number first
handed_all nodes number place ranks first behind is = sym (ap (λ ns. handed_on ns number ranks) (none_left nodes place behind)) ∙ is

-- the last nodes of the order, as many as this, have handed on their numbers
pub record Handed (counts : List Bool) (g : Graph) (order ranks : List ℕ) (behind : ℕ) : Type 0 where
  pub count : length ranks ≡ length g
  pub few : (node : ℕ) → of_node ranks node ≤ behind
  pub above : (k from to : ℕ) → length order ≤ k + behind → slice_get order k ≡ Some from → Edge g from to → of_node ranks from + step counts from ≤ of_node ranks to
  pub reached : (to : ℕ) →
      (of_node ranks to ≡ 0)
      ⊎ ((k : ℕ) × (from : ℕ) × (length order ≤ k + behind) × (slice_get order k ≡ Some from) × Edge g from to × (of_node ranks to ≡ of_node ranks from + step counts from))

-- what is read within a list is what is there
pub read_there : (xs : List ℕ) (i x : ℕ) → i < length xs → slice_index_or xs i x ≡ of_node xs i
read_there [] i x within = absurd (omega (arith, within))
read_there (y ∷ ys) zero x within = refl
read_there (y ∷ ys) (suc i) x within = read_there ys i x (omega (arith, within))

-- before the first all have 0
zero_of : (n node : ℕ) → of_node (replicate n 0) node ≡ 0
zero_of zero node = refl
zero_of (suc n) zero = refl
zero_of (suc n) (suc node) = zero_of n node

zero_count : (n : ℕ) → length {A = ℕ} (replicate n 0) ≡ n
zero_count zero = refl
zero_count (suc n) = ap suc (zero_count n)

pub at_first : (counts : List Bool) (g : Graph) (order ranks : List ℕ) (n : ℕ) → ranks ≡ replicate n 0 → n ≡ length g → Handed counts g order ranks 0
at_first counts g order ranks n is count = record {
  count = ap (λ rs. length rs) is ∙ (zero_count n ∙ count);
  few = λ node. (let e = ap (λ rs. of_node rs node) is in let f = zero_of n node in omega (arith, e, f));
  above = λ k from to late stands edge. absurd (let i = slice_get_within order k from stands in omega (arith, late, i));
  reached = λ to. inl (ap (λ rs. of_node rs to) is ∙ zero_of n to);
}

-- a node depends on nodes that have numbers
pub leads_inside : (counts : List Bool) (g : Graph) (order ranks : List ℕ) (behind place node : ℕ) (nodes : List ℕ) → IsOrder g order →
    Handed counts g order ranks behind → slice_get order place ≡ Some node → slice_get g node ≡ Some nodes → LeadInside nodes ranks
leads_inside counts g order ranks behind place node nodes sorted is here there k to edge =
    let b = sorted.behind place node to here (subst (λ x. LeadTo x to) (sym there) (k, edge)) in
    let i = sorted.inside b.0 to b.2 in
    omega (arith, i, is.count)

pub one_at_most : (b : Bool) → one_if b ≤ 1
one_at_most true = omega arith
one_at_most false = omega arith

-- one more node hands its number on
pub hands : (counts : List Bool) (g : Graph) (order ranks : List ℕ) (behind place node : ℕ) (nodes : List ℕ) → IsOrder g order →
    Handed counts g order ranks behind → place + (behind + 1) ≡ length order → slice_get order place ≡ Some node → slice_get g node ≡ Some nodes →
    Handed counts g order (handed_on nodes (of_node ranks node + step counts node) ranks) (behind + 1)
hands counts g order ranks behind place node nodes sorted is at here there = record {
  count = handed_length nodes number ranks ∙ is.count;
  few = λ n. low n (told nodes number ranks n inside);
  above = above;
  reached = λ to. reached to (told nodes number ranks to inside);
}
  where
    number : ℕ
    number = of_node ranks node + step counts node

    new : List ℕ
    new = handed_on nodes number ranks

    inside : LeadInside nodes ranks
    inside = leads_inside counts g order ranks behind place node nodes sorted is here there

    low : (n : ℕ) → (of_node new n ≡ of_node ranks n) ⊎ (((k : ℕ) × (slice_get nodes k ≡ Some n)) × (of_node new n ≡ number)) → of_node new n ≤ behind + 1
    low n (inl e) = let f = is.few n in omega (arith, e, f)
    low n (inr e) =
        let f = is.few node in
        let one = one_at_most (slice_index_or counts node false) in
        let w = e.1 in
        omega (arith, w, f, one)

    -- what is at the place or behind it has its number
    stays : (k from : ℕ) → place ≤ k → slice_get order k ≡ Some from → of_node new from ≡ of_node ranks from
    stays k from later stands = by (told nodes number ranks from inside)
      where
        by : (of_node new from ≡ of_node ranks from) ⊎ (((j : ℕ) × (slice_get nodes j ≡ Some from)) × (of_node new from ≡ number)) → of_node new from ≡ of_node ranks from
        by (inl e) = e
        by (inr e) =
            let b = sorted.behind place node from here (subst (λ x. LeadTo x from) (sym there) e.0) in
            let same = sorted.once b.0 k from b.2 stands in
            let before = b.1 in
            absurd (omega (arith, same, before, later))

    same_node : (k from : ℕ) → k ≡ place → slice_get order k ≡ Some from → node ≡ from
    same_node k from e stands = same_Some _ _ (sym here ∙ (ap (λ x. slice_get order x) (sym e) ∙ stands))

    above : (k from to : ℕ) → length order ≤ k + (behind + 1) → slice_get order k ≡ Some from → Edge g from to → of_node new from + step counts from ≤ of_node new to
    above k from to late stands edge = by (eqb_tells k place)
      where
        by : ((eqb k place ≡ true) × (k ≡ place)) ⊎ ((eqb k place ≡ false) × (k ≢ place)) → of_node new from + step counts from ≤ of_node new to
        by (inl e) =
            let one = same_node k from e.1 stands in
            let kept = stays k from (let f = e.1 in omega (arith, f)) stands in
            let leads : LeadTo (slice_get g node) to = subst (λ x. Edge g x to) (sym one) edge in
            let listed : LeadTo (Some nodes) to = subst (λ x. LeadTo x to) there leads in
            let high = reaches nodes number ranks listed.0 to inside listed.1 in
            let r = ap (λ x. of_node ranks x + step counts x) one in
            omega (arith, kept, high, r)
        by (inr e) =
            let other = e.1 in
            let f = is.above k from to (omega (arith, late, at, other)) stands edge in
            let kept = stays k from (omega (arith, late, at, other)) stands in
            let more = grows nodes number ranks to inside in
            omega (arith, f, kept, more)

    reached : (to : ℕ) → (of_node new to ≡ of_node ranks to) ⊎ (((j : ℕ) × (slice_get nodes j ≡ Some to)) × (of_node new to ≡ number)) →
        (of_node new to ≡ 0)
        ⊎ ((k : ℕ) × (from : ℕ) × (length order ≤ k + (behind + 1)) × (slice_get order k ≡ Some from) × Edge g from to × (of_node new to ≡ of_node new from + step counts from))
    reached to (inr e) =
        inr (
          place,
          node,
          omega (arith, at),
          here,
          subst (λ x. LeadTo x to) (sym there) e.0,
          (e.1 ∙ ap (λ x. x + step counts node) (sym (stays place node (omega arith) here))),
        )
    reached to (inl e) = by (is.reached to)
      where
        by : (of_node ranks to ≡ 0)
            ⊎ ((k : ℕ) × (from : ℕ) × (length order ≤ k + behind) × (slice_get order k ≡ Some from) × Edge g from to × (of_node ranks to ≡ of_node ranks from + step counts from)) →
            (of_node new to ≡ 0)
            ⊎ ((k : ℕ) × (from : ℕ) × (length order ≤ k + (behind + 1)) × (slice_get order k ≡ Some from) × Edge g from to × (of_node new to ≡ of_node new from + step counts from))
        by (inl none) = inl (e ∙ none)
        by (inr r) =
            let late = r.2 in
            inr (
              r.0,
              r.1,
              omega (arith, late),
              r.3,
              r.4,
              (e ∙ (r.5 ∙ ap (λ x. x + step counts r.1) (sym (stays r.0 r.1 (omega (arith, late, at)) r.3)))),
            )

-- ** how many there are

apart : (x : ℕ) (xs : List ℕ) → ((k : ℕ) → slice_get xs k ≡ Some x → ⊥) → AllByRecursion (λ y. eqb x y ≡ false) xs
apart x [] none = tt
apart x (y ∷ ys) none = (by (eqb_tells x y), apart x ys (λ k e. none (suc k) e))
  where
    by : ((eqb x y ≡ true) × (x ≡ y)) ⊎ ((eqb x y ≡ false) × (x ≢ y)) → eqb x y ≡ false
    by (inl e) = absurd (none 0 (ap Some (sym e.1)))
    by (inr e) = e.0

distinct : (xs : List ℕ) → IsOnce xs → IsDistinct eqb xs
unfolding IsDistinct
distinct [] once = tt
distinct (x ∷ xs) once =
    (apart x xs (λ k e. absurd (omega (arith, once 0 (suc k) x refl e))), distinct xs (λ j k node a b. omega (arith, once (suc j) (suc k) node a b)))

listed_at : (q : ℕ) (xs : List ℕ) → list_any (eqb q) xs ≡ true → (k : ℕ) × (slice_get xs k ≡ Some q)
listed_at q [] is = absurd (false≢true is)
listed_at q (x ∷ xs) is = by (eqb_tells q x) (listed_at q xs)
  where
    by : ((eqb q x ≡ true) × (q ≡ x)) ⊎ ((eqb q x ≡ false) × (q ≢ x)) → (list_any (eqb q) xs ≡ true → (k : ℕ) × (slice_get xs k ≡ Some q)) →
        (k : ℕ) × (slice_get (x ∷ xs) k ≡ Some q)
    by (inl e) later = (0, ap Some (sym e.1))
    by (inr e) later = let found = later (ap (λ b. b || list_any (eqb q) xs) (sym e.0) ∙ is) in (suc found.0, found.1)

-- an order has no more entries than there are nodes
few_ordered : (g : Graph) (order : List ℕ) → IsOrder g order → length order ≤ length g
few_ordered g order sorted =
    length-le_from_distinct_below order (length g) (distinct order sorted.once)
    (λ q is. let at = listed_at q order is in sorted.inside at.0 q at.1)

-- no number is above that of the nodes
pub few_handed : (counts : List Bool) (g : Graph) (order ranks : List ℕ) (behind : ℕ) → IsOrder g order → Handed counts g order ranks behind →
    behind ≤ length order → AreWithin ranks (length g)
few_handed counts g order ranks behind sorted is within node =
    let few = is.few node in
    let all = few_ordered g order sorted in
    omega (arith, few, all, within)

-- at the end all have
pub all_handed : (counts : List Bool) (g : Graph) (order ranks : List ℕ) (behind : ℕ) → IsOrder g order → Handed counts g order ranks behind →
    length order ≤ behind → AreRanks counts g ranks
all_handed counts g order ranks behind sorted is over = record {
  count = is.count;
  above = λ from to edge.
      let a = sorted.all from (starts_inside from to edge) in
      is.above a.0 from to (omega (arith, over)) a.1 edge;
  reached = λ to. by to (is.reached to);
}
  where
    starts_inside : (from to : ℕ) → Edge g from to → from < length g
    starts_inside from to edge = inside_by (slice_get g from) refl edge
      where
        inside_by : (o : Option (List ℕ)) → slice_get g from ≡ o → LeadTo o to → from < length g
        inside_by None e lead = absurd lead
        inside_by (Some nodes) e lead = slice_get_within g from nodes e

    by : (to : ℕ) → (of_node ranks to ≡ 0)
        ⊎ ((k : ℕ) × (from : ℕ) × (length order ≤ k + behind) × (slice_get order k ≡ Some from) × Edge g from to × (of_node ranks to ≡ of_node ranks from + step counts from)) →
        (of_node ranks to ≡ 0) ⊎ ((from : ℕ) × Edge g from to × (of_node ranks to ≡ of_node ranks from + step counts from))
    by to (inl none) = inl none
    by to (inr r) = inr (r.1, r.4, r.5)
