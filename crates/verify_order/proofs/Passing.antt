-- What a pass over an order keeps.
use Rattle.std.proofs.Common.{◌≡◌, inl, inr, ◌⊎◌, refl, sym, ap, ◌∙◌, subst, ℕ, zero, suc, ◌+◌, ◌<◌, ◌≤◌, List, [], ◌∷◌, length, Some, slice_get, slice_set, arith}
use Rattle.std.specs.Prelude.{eqb, true, false, ◌≢◌}
use Rattle.std.proofs.lemmas.Bool.Decides.{eqb_tells}
use Rattle.std.proofs.lemmas.List.{get_or-set_same, get_or-set_other}
use Rattle.std.proofs.lemmas.Option.{same_Some, slice_get_within}
use Rattle.verify_order.specs.Graphs.{Graph, LeadTo, IsOrder}
use Rattle.verify_order.specs.declared.rules.Rule.{Rule}
use Rattle.verify_order.specs.Numbers.{AreWithin, LeadInside, Solves, number_by, of_node}
use Rattle.verify_order.proofs.Sums.{number_same, number_within}

set_length : (xs : List ℕ) (i x : ℕ) → length (slice_set xs i x) ≡ length xs
set_length [] i x = refl
set_length (y ∷ ys) zero x = refl
set_length (y ∷ ys) (suc i) x = ap suc (set_length ys i x)

-- the nodes before a place of the order have their numbers
pub record Passed (rules : List Rule) (most : ℕ) (g : Graph) (order values : List ℕ) (place : ℕ) : Type 0 where
  pub count : length values ≡ length g
  pub within : AreWithin values most
  pub each : (k node : ℕ) (rule : Rule) (nodes : List ℕ) → k < place → slice_get order k ≡ Some node → slice_get rules node ≡ Some rule →
      slice_get g node ≡ Some nodes → of_node values node ≡ number_by rule most (of_node values) nodes

-- a node depends on nodes that have numbers
pub leads_inside : (g : Graph) (order values : List ℕ) (place node : ℕ) (nodes : List ℕ) → IsOrder g order → length values ≡ length g →
    slice_get order place ≡ Some node → slice_get g node ≡ Some nodes → LeadInside nodes values
leads_inside g order values place node nodes sorted count here there k to edge =
    let b = sorted.behind place node to here (subst (λ x. LeadTo x to) (sym there) (k, edge)) in
    let i = sorted.inside b.0 to b.2 in
    omega (arith, i, count)

-- a node's number is written
pub passes : (rules : List Rule) (most : ℕ) (g : Graph) (order values : List ℕ) (place node number : ℕ) (rule : Rule) (nodes : List ℕ) → IsOrder g order →
    Passed rules most g order values place → slice_get order place ≡ Some node → slice_get rules node ≡ Some rule → slice_get g node ≡ Some nodes →
    node < length g → number ≡ number_by rule most (of_node values) nodes → Passed rules most g order (slice_set values node number) (place + 1)
passes rules most g order values place node number rule nodes sorted is here ruled there inside new = record {
  count = set_length values node number ∙ is.count;
  within = few;
  each = each;
}
  where
    few : (n : ℕ) → of_node (slice_set values node number) n ≤ most
    few n = by (eqb_tells node n)
      where
        by : ((eqb node n ≡ true) × (node ≡ n)) ⊎ ((eqb node n ≡ false) × (node ≢ n)) → of_node (slice_set values node number) n ≤ most
        by (inl e) =
            let written : of_node (slice_set values node number) n ≡ number =
            ap (λ x. of_node (slice_set values node number) x) (sym e.1) ∙ get_or-set_same values node number 0 (omega (arith, inside, is.count)) in
            let low = number_within rule most (of_node values) nodes in
            omega (arith, written, new, low)
        by (inr e) =
            let kept : of_node (slice_set values node number) n ≡ of_node values n = get_or-set_other values node n number 0 (λ same. e.1 (sym same)) in
            let low = is.within n in
            omega (arith, kept, low)

    -- what comes before the place is another node
    earlier : (j to : ℕ) → j < place → slice_get order j ≡ Some to → of_node (slice_set values node number) to ≡ of_node values to
    earlier j to below stands =
        get_or-set_other values node to number 0 (λ same. absurd (omega (arith, below, sorted.once j place node (stands ∙ ap Some same) here)))

    lower : (k n : ℕ) (ns : List ℕ) → k ≤ place → slice_get order k ≡ Some n → slice_get g n ≡ Some ns →
        (i to : ℕ) → slice_get ns i ≡ Some to → of_node (slice_set values node number) to ≡ of_node values to
    lower k n ns before stands leads i to edge =
        let b = sorted.behind k n to stands (subst (λ x. LeadTo x to) (sym leads) (i, edge)) in
        earlier b.0 to (omega (arith, b.1, before)) b.2

    each : (k n : ℕ) (r : Rule) (ns : List ℕ) → k < place + 1 → slice_get order k ≡ Some n → slice_get rules n ≡ Some r → slice_get g n ≡ Some ns →
        of_node (slice_set values node number) n ≡ number_by r most (of_node (slice_set values node number)) ns
    each k n r ns below stands by_rule leads = by (eqb_tells k place)
      where
        same : number_by r most (of_node (slice_set values node number)) ns ≡ number_by r most (of_node values) ns
        same = number_same r most (of_node (slice_set values node number)) (of_node values) ns (lower k n ns (omega (arith, below)) stands leads)

        by : ((eqb k place ≡ true) × (k ≡ place)) ⊎ ((eqb k place ≡ false) × (k ≢ place)) →
            of_node (slice_set values node number) n ≡ number_by r most (of_node (slice_set values node number)) ns
        by (inr e) =
            earlier k n (omega (arith, below, e.1)) stands
            ∙ (is.each k n r ns (omega (arith, below, e.1)) stands by_rule leads ∙ sym same)
        by (inl e) =
            let one : node ≡ n = same_Some _ _ (sym here ∙ (ap (λ x. slice_get order x) (sym e.1) ∙ stands)) in
            let list : nodes ≡ ns = same_Some _ _ (sym there ∙ (ap (λ x. slice_get g x) one ∙ leads)) in
            let law : rule ≡ r = same_Some _ _ (sym ruled ∙ (ap (λ x. slice_get rules x) one ∙ by_rule)) in
            ap (λ x. of_node (slice_set values node number) x) (sym one)
            ∙ (get_or-set_same values node number 0 (omega (arith, inside, is.count))
            ∙ (new
            ∙ (ap (λ (x : Rule). number_by x most (of_node values) nodes) law
            ∙ (ap (λ x. number_by r most (of_node values) x) list ∙ sym same))))

-- at the end each node has its number
pub all_passed : (rules : List Rule) (most : ℕ) (g : Graph) (order values : List ℕ) (place : ℕ) → IsOrder g order → Passed rules most g order values place →
    length order ≤ place → Solves rules most g values
all_passed rules most g order values place sorted is over = record {
  count = is.count;
  within = is.within;
  each = λ node rule nodes by_rule leads.
      let a = sorted.all node (slice_get_within g node nodes leads) in
      is.each a.0 node rule nodes (omega (arith, slice_get_within order a.0 node a.1, over)) a.1 by_rule leads;
}
