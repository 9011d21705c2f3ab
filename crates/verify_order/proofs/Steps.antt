-- What a step of the search keeps.
use Rattle.std.proofs.Common.{◌≡◌, inl, inr, ◌⊎◌, refl, sym, ap, ◌∙◌, subst, ℕ, zero, suc, ◌+◌, ◌-◌, ◌*◌, ◌<◌, ◌≤◌, List, [], ◌∷◌, ◌++◌, length, take, Some, slice_get, slice_set, slice_index_or, drop, replicate, arith}
use Rattle.std.proofs.lemmas.Option.{slice_get_within, slice_get-get_or, none-some, same_Some}
use Rattle.std.specs.Prelude.{eqb, true, false, ◌≢◌}
use Rattle.std.proofs.lemmas.Bool.Decides.{eqb_tells}
use Rattle.std.proofs.Math.Nat.{mul-le-mul_left}
use Rattle.verify_order.specs.Graphs.{Graph, Edge, LeadTo, LeadRound, LeadsRound, IsGraph, IsOnce, IsOrder, IsCycle}
use Rattle.verify_order.specs.Searches.{State, IsDone, IsSearch, IsLast, AreDone, left, passed_of, done_with, down_to, begun_at, at_first}
use Rattle.verify_order.proofs.Lists.{set_same, set_other, set_length, get_kept, get_was, append_length, take_was, long, read_within}

-- ** numbers

-- there are no more nodes on the path than there are
pub few_on_path : (g : Graph) (s : State) → IsSearch g s → length s.path ≤ length g
few_on_path g s is = omega (arith, long s.place (length s.path) at, is.place_length)
  where
    at : (q : ℕ) → q < length s.path → (i : ℕ) × (slice_get s.place i ≡ Some q)
    at q below = let r = read_within s.path q below in (r.0, is.placed q r.0 r.1)

-- and no more nodes are in the order than there are
pub few_done : (g : Graph) (s : State) → IsSearch g s → length s.order ≤ length g
few_done g s is = omega (arith, long s.position (length s.order) at, is.position_length)
  where
    at : (q : ℕ) → q < length s.order → (i : ℕ) × (slice_get s.position i ≡ Some q)
    at q below = let r = read_within s.order q below in (r.0, is.positioned q r.0 r.1)

-- the last node of the path is a node
pub last_inside : (g : Graph) (s : State) (node : ℕ) → IsSearch g s → IsLast s.path node → node < length g
last_inside g s node is last =
    omega (arith, slice_get_within s.place node (length s.path - 1) (is.placed (length s.path - 1) node last.last), is.place_length)

-- ** a node is done

some_edges : (g : Graph) (node to : ℕ) (edges : List ℕ) → slice_get g node ≡ Some edges → Edge g node to → (k : ℕ) × (slice_get edges k ≡ Some to)
some_edges g node to edges is edge = subst (λ x. LeadTo x to) is edge

pub finish_keeps : (g : Graph) (s : State) (node : ℕ) (edges : List ℕ) → IsSearch g s → IsLast s.path node → slice_get g node ≡ Some edges →
    AreDone s edges (length edges) → IsSearch g (done_with s node)
finish_keeps g s node edges is last here done = record {
  passed_length = is.passed_length;
  place_length = is.place_length;
  position_length = set_length s.position node (length s.order) ∙ is.position_length;
  passed = passed;
  placed = λ i n at. is.placed i n (take_was (length s.path - 1) s.path i n at).0;
  open_yet = open_yet;
  leads = λ i n to at next. is.leads i n to (take_was (length s.path - 1) s.path i n at).0 (take_was (length s.path - 1) s.path (suc i) to next).0;
  positioned = positioned;
  behind = behind;
}
  where
    inside : node < length s.position
    inside = omega (arith, last_inside g s node is last, is.position_length)

    kept : (n : ℕ) → IsDone s n → IsDone (done_with s node) n
    kept n d = (d.0, get_kept s.order d.0 node n d.1)

    passed : (n count k to : ℕ) (es : List ℕ) → slice_get s.passed n ≡ Some count → slice_get g n ≡ Some es → k < count → slice_get es k ≡ Some to →
        IsDone (done_with s node) to
    passed n count k to es now these below leads = kept to (is.passed n count k to es now these below leads)

    open_yet : (i k n : ℕ) → slice_get (take (length s.path - 1) s.path) i ≡ Some n → slice_get (s.order ++ node ∷ []) k ≡ Some n → ⊥
    open_yet i k n at order = by (get_was s.order k node n order)
      where
        t : (slice_get s.path i ≡ Some n) × (i < length s.path - 1)
        t = take_was (length s.path - 1) s.path i n at

        by : (slice_get s.order k ≡ Some n) ⊎ ((k ≡ length s.order) × (node ≡ n)) → ⊥
        by (inl was) = is.open_yet i k n t.0 was
        by (inr l) =
            let a = is.placed i n t.0 in
            let b = is.placed (length s.path - 1) node last.last in
            let same = same_Some _ _ (sym a ∙ (ap (λ x. slice_get s.place x) (sym l.1) ∙ b)) in
            omega (arith, same, t.1)

    position_of : (k n : ℕ) → slice_get s.order k ≡ Some n → slice_get (slice_set s.position node (length s.order)) n ≡ Some k
    position_of k n was = set_other s.position node n (length s.order) other ∙ is.positioned k n was
      where
        other : node ≡ n → ⊥
        other same = is.open_yet (length s.path - 1) k node last.last (was ∙ ap Some (sym same))

    positioned : (k n : ℕ) → slice_get (s.order ++ node ∷ []) k ≡ Some n → slice_get (slice_set s.position node (length s.order)) n ≡ Some k
    positioned k n order = by (get_was s.order k node n order)
      where
        by : (slice_get s.order k ≡ Some n) ⊎ ((k ≡ length s.order) × (node ≡ n)) → slice_get (slice_set s.position node (length s.order)) n ≡ Some k
        by (inl was) = position_of k n was
        by (inr l) = ap (λ x. slice_get (slice_set s.position node (length s.order)) x) (sym l.1)
            ∙ (set_same s.position node (length s.order) inside ∙ ap Some (sym l.0))

    behind : (k n to : ℕ) → slice_get (s.order ++ node ∷ []) k ≡ Some n → Edge g n to →
        (j : ℕ) × (j < k) × (slice_get (s.order ++ node ∷ []) j ≡ Some to)
    behind k n to order edge = by (get_was s.order k node n order)
      where
        by : (slice_get s.order k ≡ Some n) ⊎ ((k ≡ length s.order) × (node ≡ n)) → (j : ℕ) × (j < k) × (slice_get (s.order ++ node ∷ []) j ≡ Some to)
        by (inl was) = let b = is.behind k n to was edge in (b.0, b.1, get_kept s.order b.0 node to b.2)
        by (inr l) =
            let e = some_edges g node to edges here (subst (λ x. Edge g x to) (sym l.1) edge) in
            let d = done e.0 to (slice_get_within edges e.0 to e.1) e.1 in
            (d.0, omega (arith, slice_get_within s.order d.0 to d.1, l.0), get_kept s.order d.0 node to d.1)

-- ** the path goes on

one_less : (i n : ℕ) → suc i ≡ n → i ≡ n - 1
one_less i n is = omega (arith, is)

pub down_keeps : (g : Graph) (s : State) (node number to : ℕ) (edges : List ℕ) → IsGraph g → IsSearch g s → IsLast s.path node →
    slice_get g node ≡ Some edges → AreDone s edges number → slice_get edges number ≡ Some to → (IsDone s to → ⊥) →
    ((i : ℕ) → slice_get s.path i ≡ Some to → ⊥) → IsSearch g (down_to s node number to)
down_keeps g s node number to edges graph is last here done edge waits off = record {
  passed_length = set_length s.passed node number ∙ is.passed_length;
  place_length = set_length s.place to (length s.path) ∙ is.place_length;
  position_length = is.position_length;
  passed = passed;
  placed = placed;
  open_yet = open_yet;
  leads = leads;
  positioned = is.positioned;
  behind = is.behind;
}
  where
    leads_there : Edge g node to
    leads_there = subst (λ x. LeadTo x to) (sym here) (number, edge)

    inside : to < length s.place
    inside = omega (arith, graph.inside node to leads_there, is.place_length)

    node_inside : node < length s.passed
    node_inside = omega (arith, last_inside g s node is last, is.passed_length)

    passed : (n count k t : ℕ) (es : List ℕ) → slice_get (slice_set s.passed node number) n ≡ Some count → slice_get g n ≡ Some es → k < count →
        slice_get es k ≡ Some t → IsDone s t
    passed n count k t es now these below leads = by (eqb_tells node n)
      where
        by : ((eqb node n ≡ true) × (node ≡ n)) ⊎ ((eqb node n ≡ false) × (node ≢ n)) → IsDone s t
        by (inr e) = is.passed n count k t es (sym (set_other s.passed node n number e.1) ∙ now) these below leads
        by (inl e) =
            let a = same_Some _ _ (sym (set_same s.passed node number node_inside) ∙ (ap (λ x. slice_get (slice_set s.passed node number) x) e.1 ∙ now)) in
            let b = same_Some _ _ (sym these ∙ (ap (λ x. slice_get g x) (sym e.1) ∙ here)) in
            done k t (omega (arith, a, below)) (ap (λ x. slice_get x k) (sym b) ∙ leads)

    placed : (i n : ℕ) → slice_get (s.path ++ to ∷ []) i ≡ Some n → slice_get (slice_set s.place to (length s.path)) n ≡ Some i
    placed i n at = by (get_was s.path i to n at)
      where
        by : (slice_get s.path i ≡ Some n) ⊎ ((i ≡ length s.path) × (to ≡ n)) → slice_get (slice_set s.place to (length s.path)) n ≡ Some i
        by (inl was) = set_other s.place to n (length s.path) (λ same. off i (was ∙ ap Some (sym same))) ∙ is.placed i n was
        by (inr l) = ap (λ x. slice_get (slice_set s.place to (length s.path)) x) (sym l.1)
            ∙ (set_same s.place to (length s.path) inside ∙ ap Some (sym l.0))

    open_yet : (i k n : ℕ) → slice_get (s.path ++ to ∷ []) i ≡ Some n → slice_get s.order k ≡ Some n → ⊥
    open_yet i k n at order = by (get_was s.path i to n at)
      where
        by : (slice_get s.path i ≡ Some n) ⊎ ((i ≡ length s.path) × (to ≡ n)) → ⊥
        by (inl was) = is.open_yet i k n was order
        by (inr l) = waits (k, order ∙ ap Some (sym l.1))

    leads : (i n t : ℕ) → slice_get (s.path ++ to ∷ []) i ≡ Some n → slice_get (s.path ++ to ∷ []) (suc i) ≡ Some t → Edge g n t
    leads i n t at next = by (get_was s.path (suc i) to t next)
      where
        by : (slice_get s.path (suc i) ≡ Some t) ⊎ ((suc i ≡ length s.path) × (to ≡ t)) → Edge g n t
        by (inl later) = here_by (get_was s.path i to n at)
          where
            here_by : (slice_get s.path i ≡ Some n) ⊎ ((i ≡ length s.path) × (to ≡ n)) → Edge g n t
            here_by (inl was) = is.leads i n t was later
            here_by (inr l) = absurd (omega (arith, slice_get_within s.path (suc i) t later, l.0))
        by (inr l) = here_by (get_was s.path i to n at)
          where
            here_by : (slice_get s.path i ≡ Some n) ⊎ ((i ≡ length s.path) × (to ≡ n)) → Edge g n t
            here_by (inr m) = absurd (omega (arith, l.0, m.0))
            here_by (inl was) =
                let same = same_Some _ _ (sym was ∙ (ap (λ x. slice_get s.path x) (one_less i (length s.path) l.0) ∙ last.last)) in
                subst (λ x. Edge g n x) l.1 (subst (λ x. Edge g x to) (sym same) leads_there)

-- ** what is left falls

times : (a b c : ℕ) → b + 1 ≤ c → a * b + a ≤ a * c
times a b c less = omega (arith, mul-le-mul_left a less)

pub finish_falls : (g : Graph) (s : State) (node : ℕ) → IsSearch g s → IsSearch g (done_with s node) → left g (done_with s node) < left g s
finish_falls g s node is new =
    omega (arith, few_done g (done_with s node) new, few_on_path g s is, append_length s.order node, below)
  where
    below : (1 + length g) * (length g - length (s.order ++ node ∷ [])) + (1 + length g) ≤ (1 + length g) * (length g - length s.order)
    below =
        times (1 + length g) (length g - length (s.order ++ node ∷ [])) (length g - length s.order)
        (omega (arith, few_done g (done_with s node) new, append_length s.order node))

pub down_falls : (g : Graph) (s : State) (node number to : ℕ) → IsSearch g s → IsSearch g (down_to s node number to) →
    left g (down_to s node number to) < left g s
down_falls g s node number to is new =
    omega (arith, few_on_path g (down_to s node number to) new, append_length s.path to)

-- ** what a step asks

pub edge_inside : (g : Graph) (node k to : ℕ) (edges : List ℕ) → IsGraph g → slice_get g node ≡ Some edges → slice_get edges k ≡ Some to → to < length g
edge_inside g node k to edges graph here edge = graph.inside node to (subst (λ x. LeadTo x to) (sym here) (k, edge))

pub passed_done : (g : Graph) (s : State) (node : ℕ) (edges : List ℕ) → IsSearch g s → IsLast s.path node → slice_get g node ≡ Some edges →
    AreDone s edges (passed_of s edges node)
passed_done g s node edges is last here k to below leads =
    is.passed node (slice_index_or s.passed node 0) k to edges
    (slice_get-get_or s.passed node 0 (omega (arith, last_inside g s node is last, is.passed_length))) here (omega (arith, below)) leads

pub leads_over : (g : Graph) (node number to : ℕ) (edges : List ℕ) → slice_get g node ≡ Some edges → slice_get edges number ≡ Some to → Edge g node to
leads_over g node number to edges here edge = subst (λ x. LeadTo x to) (sym here) (number, edge)

-- ** the path begins

pub begin_keeps : (g : Graph) (s : State) (root : ℕ) → IsSearch g s → root < length g → length s.path ≡ 0 → (IsDone s root → ⊥) →
    IsSearch g (begun_at s root)
begin_keeps g s root is inside none waits = record {
  passed_length = is.passed_length;
  place_length = set_length s.place root (length s.path) ∙ is.place_length;
  position_length = is.position_length;
  passed = is.passed;
  placed = placed;
  open_yet = open_yet;
  leads = leads;
  positioned = is.positioned;
  behind = is.behind;
}
  where
    nothing : (i n : ℕ) → slice_get s.path i ≡ Some n → ⊥
    nothing i n at = omega (arith, slice_get_within s.path i n at, none)

    placed : (i n : ℕ) → slice_get (s.path ++ root ∷ []) i ≡ Some n → slice_get (slice_set s.place root (length s.path)) n ≡ Some i
    placed i n at = by (get_was s.path i root n at)
      where
        by : (slice_get s.path i ≡ Some n) ⊎ ((i ≡ length s.path) × (root ≡ n)) → slice_get (slice_set s.place root (length s.path)) n ≡ Some i
        by (inl was) = absurd (nothing i n was)
        by (inr l) = ap (λ x. slice_get (slice_set s.place root (length s.path)) x) (sym l.1)
            ∙ (set_same s.place root (length s.path) (omega (arith, inside, is.place_length)) ∙ ap Some (sym l.0))

    open_yet : (i k n : ℕ) → slice_get (s.path ++ root ∷ []) i ≡ Some n → slice_get s.order k ≡ Some n → ⊥
    open_yet i k n at order = by (get_was s.path i root n at)
      where
        by : (slice_get s.path i ≡ Some n) ⊎ ((i ≡ length s.path) × (root ≡ n)) → ⊥
        by (inl was) = nothing i n was
        by (inr l) = waits (k, order ∙ ap Some (sym l.1))

    leads : (i n t : ℕ) → slice_get (s.path ++ root ∷ []) i ≡ Some n → slice_get (s.path ++ root ∷ []) (suc i) ≡ Some t → Edge g n t
    leads i n t at next = by (get_was s.path (suc i) root t next)
      where
        by : (slice_get s.path (suc i) ≡ Some t) ⊎ ((suc i ≡ length s.path) × (root ≡ t)) → Edge g n t
        by (inl later) = absurd (nothing (suc i) t later)
        by (inr l) = absurd (omega (arith, l.0, none))

pub begin_falls : (g : Graph) (s : State) (root : ℕ) → IsSearch g s → IsSearch g (begun_at s root) → left g (begun_at s root) < left g s
begin_falls g s root is new = omega (arith, few_on_path g (begun_at s root) new, append_length s.path root)

-- ** what is done stays done

pub finish_done : (s : State) (node n : ℕ) → IsDone s n → IsDone (done_with s node) n
finish_done s node n d = (d.0, get_kept s.order d.0 node n d.1)

-- ** cycles

round : (g : Graph) (first node : ℕ) (xs : List ℕ) (end : ℕ) →
    ((i a b : ℕ) → slice_get xs i ≡ Some a → slice_get xs (suc i) ≡ Some b → Edge g a b) →
    suc end ≡ length xs → slice_get xs end ≡ Some node → Edge g node first → LeadRound g first xs
round g first node [] end leads is last edge = absurd (none-some _ last)
round g first node (x ∷ []) zero leads is last edge = subst (λ n. Edge g n first) (sym (same_Some _ _ last)) edge
round g first node (x ∷ []) (suc end) leads is last edge = absurd (none-some _ last)
round g first node (x ∷ y ∷ more) zero leads is last edge = absurd (omega (arith, is))
round g first node (x ∷ y ∷ more) (suc end) leads is last edge =
    (leads 0 x y refl refl, round g first node (y ∷ more) end (λ i a b. leads (suc i) a b) (omega (arith, is)) last edge)

-- the path from a place on leads round where its last node leads to the one at the place
leads_round : (g : Graph) (first node : ℕ) (xs : List ℕ) (place end : ℕ) →
    ((i a b : ℕ) → slice_get xs i ≡ Some a → slice_get xs (suc i) ≡ Some b → Edge g a b) →
    suc end ≡ length xs → slice_get xs end ≡ Some node → slice_get xs place ≡ Some first → Edge g node first → LeadsRound g (drop place xs)
leads_round g first node [] place end leads is last at edge = absurd (none-some _ last)
leads_round g first node (x ∷ more) zero end leads is last at edge =
    subst (λ f. LeadRound g f (x ∷ more)) (sym (same_Some _ _ at)) (round g first node (x ∷ more) end leads is last edge)
leads_round g first node (x ∷ []) (suc place) end leads is last at edge = absurd (none-some _ at)
leads_round g first node (x ∷ y ∷ more) (suc place) zero leads is last at edge = absurd (omega (arith, is))
leads_round g first node (x ∷ y ∷ more) (suc place) (suc end) leads is last at edge =
    leads_round g first node (y ∷ more) place end (λ i a b. leads (suc i) a b) (omega (arith, is)) last at edge

-- no node is in the rest of a path twice
once_after : (place : ℕ) (xs : List ℕ) → IsOnce xs → IsOnce (drop place xs)
once_after zero xs once = once
once_after (suc place) [] once = λ j k node first second. absurd (none-some _ first)
once_after (suc place) (x ∷ xs) once =
    once_after place xs (λ j k node first second. let same = once (suc j) (suc k) node first second in omega (arith, same))

-- so it is a cycle
pub cycles : (g : Graph) (s : State) (node place to : ℕ) → IsSearch g s → IsLast s.path node → slice_get s.path place ≡ Some to → Edge g node to →
    IsCycle g (drop place s.path)
cycles g s node place to is last at edge = record {
  round = leads_round g to node s.path place (length s.path - 1) is.leads (omega (arith, last.some)) last.last at edge;
  once = once_after place s.path (λ j k n first second. same_Some _ _ (sym (is.placed j n first) ∙ is.placed k n second));
}

-- ** the beginning and the end

replicated : (n x i y : ℕ) → slice_get (replicate n x) i ≡ Some y → y ≡ x
replicated zero x i y at = absurd (none-some _ at)
replicated (suc n) x zero y at = sym (same_Some _ _ at)
replicated (suc n) x (suc i) y at = replicated n x i y at

replicated_length : (n x : ℕ) → length (replicate n x) ≡ n
replicated_length zero x = refl
replicated_length (suc n) x = ap suc (replicated_length n x)

pub first_search : (g : Graph) (n : ℕ) → n ≡ length g → IsSearch g (at_first n)
first_search g n is = record {
  passed_length = replicated_length n 0 ∙ is;
  place_length = replicated_length n 0 ∙ is;
  position_length = replicated_length n 0 ∙ is;
  passed = λ node count k to edges now these below leads. absurd (omega (arith, below, replicated n 0 node count now));
  placed = λ i node at. absurd (none-some _ at);
  open_yet = λ i k node at order. none-some _ at;
  leads = λ i node to at next. absurd (none-some _ at);
  positioned = λ k node at. absurd (none-some _ at);
  behind = λ k node to at edge. absurd (none-some _ at);
}

pub is_order : (g : Graph) (s : State) → IsSearch g s → ((n : ℕ) → n < length g → IsDone s n) → IsOrder g s.order
is_order g s is all = record {
  inside = λ k node at. omega (arith, slice_get_within s.position node k (is.positioned k node at), is.position_length);
  behind = is.behind;
  once = λ j k node first second. same_Some _ _ (sym (is.positioned j node first) ∙ is.positioned k node second);
  all = all;
}

pub more_done : (s t : State) (root : ℕ) → ((n : ℕ) → n < root → IsDone s n) → ((n : ℕ) → IsDone s n → IsDone t n) → IsDone t root →
    (n : ℕ) → n < root + 1 → IsDone t n
more_done s t root before kept now n below = by (eqb_tells n root)
  where
    by : ((eqb n root ≡ true) × (n ≡ root)) ⊎ ((eqb n root ≡ false) × (n ≢ root)) → IsDone t n
    by (inl e) = subst (λ x. IsDone t x) (sym e.1) now
    by (inr e) = kept n (before n (omega (arith, below, e.1)))
