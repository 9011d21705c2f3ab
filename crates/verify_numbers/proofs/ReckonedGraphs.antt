-- What is reckoned of the nodes of a sketch is so of its graph.
use Rattle.std.proofs.Common.{◌≡◌, refl, sym, ap, subst, ◌∙◌, ℕ, zero, suc, ◌+◌, ◌*◌, ◌<◌, ◌≤◌, All, true, List, [], ◌∷◌, length, map, Option, None, Some, slice_get, slice_index_or, arith}
use Rattle.std.proofs.lemmas.Option.{IfSome_then, none-some, same_Some}
use Rattle.std.proofs.lemmas.List.Elements.{All-weaker}
use Rattle.verify_order.specs.Graphs.{Edge, IsCycle, IsGraph, IsOrder, LeadTo}
use Rattle.verify_order.specs.Numbers.{AreWithin}
use Rattle.law_typing.specs.Graph.{Graph}
use Rattle.law_typing.specs.Graph.Channels.{Link, same_channel}
use Rattle.law_typing.specs.Graph.Ranks.{is_cycle}
use Rattle.law_typing.specs.Laws.WellRead.{no_two}
use Rattle.law_typing.specs.Verdict.{most_bound}
use Rattle.verify_sketches.specs.Sketches.{IsSketch, Sketch, SketchedChannel}
use Rattle.verify_sketches.specs.Sizes.{IsSmall}
use Rattle.verify_sketches.specs.Numbered.{IsNumbered, Node, edges_in, of_whole, whole, whole_node}
use Rattle.verify_numbers.specs.Cycles.{HaveNodes, links_of}
use Rattle.verify_numbers.specs.Tables.{value_of}
use Rattle.verify_numbers.proofs.CostNumbers.{costs_are_solved, node_cost_at, not_there}
use Rattle.verify_numbers.proofs.CycleChannels.{cycles_have_channels}
use Rattle.verify_numbers.proofs.CycleLinks.{cycles_are_told}
use Rattle.verify_numbers.proofs.DepthNumbers.{depths_are_solved, entry_is}
use Rattle.verify_numbers.proofs.RankNumbers.{chains_are_ranks, rank_at}
use Rattle.verify_numbers.proofs.SketchParts.{table_none}
use Rattle.verify_numbers.proofs.PartEdges.{leads_on, part_at}
use Rattle.verify_numbers.specs.Columns.{Columns}
use Rattle.verify_numbers.specs.Counts.{at_in, counts_of}
use Rattle.verify_numbers.specs.Laid.{laid}
use Rattle.verify_numbers.specs.Links.{ComesOfCycle, NamesBelow, links_view, parts_at}
use Rattle.verify_numbers.specs.Links as links
use Rattle.verify_numbers.specs.Reckonings.{AreGraphNumbers, AreNodeNumbers, HaveFew, IsCycleOnce, most_depth}
use Rattle.verify_numbers.specs.declared.cycle_links.SketchedLink.{SketchedLink}
use Rattle.verify_numbers.specs.declared.reckonings.NodeNumbers.{NodeNumbers}
use Rattle.verify_numbers.proofs.LaidNodes.{laid_is_numbered, laid_length}
use Rattle.verify_numbers.proofs.Lists.{mapped_length}
use Rattle.verify_numbers.proofs.Small.{few_blocks}
use Rattle.verify_numbers.proofs.Rows.{columns_of}
use Rattle.verify_numbers.proofs.TurnedCycles.{edge_of, turned_cycle}

below : {A : Type 0} → (xs : List A) (i : ℕ) (x : A) → slice_get xs i ≡ Some x → i < length xs
below [] i x is = absurd (none-some _ is)
below (y ∷ ys) zero x is = omega arith
below (y ∷ ys) (suc i) x is = let h = below ys i x is in omega (arith, h)

found : {A : Type 0} → (xs : List A) (i : ℕ) → i < length xs → (x : A) × (slice_get xs i ≡ Some x)
found [] i low = absurd (omega (arith, low))
found (x ∷ xs) zero low = (x, refl)
found (x ∷ xs) (suc i) low = found xs i (omega (arith, low))

-- ** how great numbers are

-- there are fewer than 2^28 nodes
few_nodes : (s : Sketch) (handlers : ℕ) → IsSmall s → length (laid s handlers) < 268_435_456
few_nodes s handlers small =
    let l = laid_length s handlers in
    let a = small.channels in
    let b = small.groups in
    let c = small.programs in
    let d = small.places in
    let e = small.starts in
    let f = few_blocks s small in
    omega (arith, l, a, b, c, d, e, f)

pub few_columns : (s : Sketch) (handlers : ℕ) (c : Columns) → c ≡ columns_of (laid s handlers) → IsSmall s → length c.graph < 268_435_456
few_columns s handlers c is small =
    let l = few_nodes s handlers small in
    let m = mapped_length (λ (y : Node). y.edges) (laid s handlers) in
    let e = ap (λ (x : Columns). length x.graph) is in
    omega (arith, l, m, e)

-- the ranks and the depths of so many nodes
pub have_few : (c : Columns) (n : NodeNumbers) → length c.graph < 268_435_456 → AreNodeNumbers c n → AreWithin n.ranks.items (length c.graph) → HaveFew n
have_few c n few numbers ranks = record {
  ranks = λ node. (let r = ranks node in omega (arith, r, few));
  depths = numbers.depths.within;
}

-- the programs of a cycle's links
pub name_few : (programs : ℕ) (links : List SketchedLink) → programs ≤ 256 → All (NamesBelow programs) links → All (NamesBelow 256) links
name_few programs links few all =
    All-weaker (NamesBelow programs) (NamesBelow 256) (λ l below. IfSome_then l.by below (λ p low. omega (arith, low, few))) links all

module _ (g : Graph) (s : Sketch) (handlers : ℕ) (sketch : IsSketch g s) where
  abbrev nodes : List Node
  nodes = laid s handlers

  numbered : IsNumbered s (at_in s) handlers nodes
  numbered = laid_is_numbered s handlers

  -- each edge leads to a node
  pub is_graph : IsGraph (edges_in nodes)
  is_graph = record {
    inside = λ from to edge.
        let x = part_at g s (at_in s) handlers sketch nodes numbered from to edge in
        let z = leads_on g s (at_in s) handlers sketch nodes numbered x.0 x.1 to (subst (λ k. Edge (edges_in nodes) k to) x.2 edge) in
        let h = below nodes (at_in s z.0) z.1.0 (numbered.there z.0 z.1.0 z.1.1) in
        let l = mapped_length (λ (y : Node). y.edges) nodes in
        let e = z.2 in
        omega (arith, h, l, e);
  }

  -- a number from which an edge leads is that of its part
  abbrev HasNode : ℕ → Type 0
  HasNode k = (y : Node) × (slice_get nodes k ≡ Some y) × (at_in s y.part ≡ k)

  has_node : (from to : ℕ) → Edge (edges_in nodes) from to → HasNode from
  has_node from to edge = by (slice_get nodes from) refl
    where
      none : (ys : List Node) (k : ℕ) → slice_get ys k ≡ None → LeadTo (slice_get (map (λ (y : Node). y.edges) ys) k) to → ⊥
      none [] k e lead = lead
      none (y ∷ ys) zero e lead = none-some _ (sym e)
      none (y ∷ ys) (suc k) e lead = none ys k e lead

      by : (o : Option Node) → slice_get nodes from ≡ o → HasNode from
      by None e = absurd (none nodes from e edge)
      by (Some y) e = (y, e, (numbered.each from y e).0)

  -- the parts of numbers that have nodes
  AllHave : List ℕ → Type 0
  AllHave ks = (i k : ℕ) → slice_get ks i ≡ Some k → HasNode k

  part_is : (k : ℕ) → (h : HasNode k) → links.part_at nodes k ≡ h.0.part
  part_is k h = ap links.part_or h.1

  back : (ks : List ℕ) → ((i k : ℕ) → slice_get ks i ≡ Some k → HasNode k) → map (at_in s) (parts_at nodes ks) ≡ ks
  back [] have = refl
  back (k ∷ ks) have =
      let h = have 0 k refl in
      ap (λ x. x ∷ map (at_in s) (parts_at nodes ks)) (ap (at_in s) (part_is k h) ∙ h.2)
      ∙ ap (λ xs. k ∷ xs) (back ks (λ i j is. have (suc i) j is))

  parts_have : (ks : List ℕ) → ((i k : ℕ) → slice_get ks i ≡ Some k → HasNode k) → HaveNodes (at_in s) nodes (parts_at nodes ks)
  parts_have [] have i x is = absurd (none-some _ is)
  parts_have (k ∷ ks) have zero x is =
      let h = have 0 k refl in
      let e : links.part_at nodes k ≡ x = same_Some _ _ is in
      let p : h.0.part ≡ x = sym (part_is k h) ∙ e in
      (h.0, ap (λ z. slice_get nodes (at_in s z)) (sym p) ∙ (ap (slice_get nodes) h.2 ∙ h.1), p)
  parts_have (k ∷ ks) have (suc i) x is = parts_have ks (λ j m there. have (suc j) m there) i x is

  -- each node of a cycle has one
  cycle_has : (first : ℕ) (rest : List ℕ) → IsCycle (edges_in nodes) (first ∷ rest) → (i k : ℕ) → slice_get (first ∷ rest) i ≡ Some k → HasNode k
  cycle_has first rest cycle i k is =
      let e = edge_of (edges_in nodes) first (first ∷ rest) i k cycle.round is in
      has_node k e.0 e.1

  -- one of a cycle's nodes is that of a channel
  pub has_channel : (cycle : List ℕ) → IsCycle (edges_in nodes) cycle → (i : ℕ) × (i < length cycle) × (slice_index_or cycle i 0 < length s.channels)
  has_channel cycle is =
      let h = cycles_have_channels g s (at_in s) handlers nodes cycle sketch numbered is in
      let l = below cycle h.0 h.1 h.2 in
      let e : slice_index_or cycle h.0 0 ≡ h.1 = read_at cycle h.0 h.1 h.2 in
      (h.0, l, (let low = h.3 in omega (arith, e, low)))
    where
      read_at : (xs : List ℕ) (i x : ℕ) → slice_get xs i ≡ Some x → slice_index_or xs i 0 ≡ x
      read_at [] i x is = absurd (none-some _ is)
      read_at (y ∷ ys) zero x is = same_Some _ _ is
      read_at (y ∷ ys) (suc i) x is = read_at ys i x is

module _ (g : Graph) (s : Sketch) (sketch : IsSketch g s) where
  abbrev its_nodes : List Node
  its_nodes = laid s g.most_handlers

  -- the links of a cycle from a channel on
  told_from : (channel : ℕ) (rest : List ℕ) (ls : List Link) → channel < length s.channels → IsCycle (edges_in its_nodes) (channel ∷ rest) →
      ls ≡ links_of g channel (parts_at its_nodes rest) → IsCycleOnce g ls
  told_from channel rest ls low cycle are =
      let have = cycle_has g s g.most_handlers sketch channel rest cycle in
      let k = found s.channels channel low in
      let here = (laid_is_numbered s g.most_handlers).there (whole channel) (whole_node (at_in s) channel k.0) (of_whole channel k.0 k.1) in
      let more = λ (i j : ℕ) (is : slice_get rest i ≡ Some j). have (suc i) j is in
      let same : map (at_in s) (whole channel ∷ parts_at its_nodes rest) ≡ channel ∷ rest = ap (λ xs. channel ∷ xs) (back g s g.most_handlers sketch rest more) in
      let told = cycles_are_told g s (at_in s) its_nodes channel (parts_at its_nodes rest) sketch (laid_is_numbered s g.most_handlers)
      (all_have channel rest k.0 here (parts_have g s g.most_handlers sketch rest more)) (subst (IsCycle (edges_in its_nodes)) (sym same) cycle) in
      record {
        cycle = subst (λ xs. is_cycle g xs ≡ true) (sym are) told.0;
        once = subst (λ xs. no_two same_channel (map (λ (l : Link). l.from) xs) ≡ true) (sym are) told.1;
      }
    where
      all_have : (channel : ℕ) (rest : List ℕ) (k : SketchedChannel) → slice_get its_nodes (at_in s (whole channel)) ≡ Some (whole_node (at_in s) channel k) →
          HaveNodes (at_in s) its_nodes (parts_at its_nodes rest) → HaveNodes (at_in s) its_nodes (whole channel ∷ parts_at its_nodes rest)
      all_have channel rest k here have zero x is =
          let e : whole channel ≡ x = same_Some _ _ is in
          (whole_node (at_in s) channel k, ap (λ z. slice_get its_nodes (at_in s z)) (sym e) ∙ here, e)
      all_have channel rest k here have (suc i) x is = have i x is

  pub cycle_is_told : (cycle : List ℕ) (ls : List SketchedLink) → IsCycle (edges_in its_nodes) cycle → ComesOfCycle (counts_of s) cycle ls →
      IsCycleOnce g (links_view g ls)
  cycle_is_told cycle ls is (first, channel, rest, low, turned, there, are) =
      told_from channel rest (links_view g ls) there
      (subst (IsCycle (edges_in its_nodes)) turned (turned_cycle (edges_in its_nodes) cycle first (omega (arith, low)) is)) (are g s g.most_handlers refl)

  pub numbers_are : (c : Columns) (order : List ℕ) (n : NodeNumbers) → c ≡ columns_of its_nodes → IsOrder c.graph order → AreNodeNumbers c n →
      2 * length c.graph < most_depth → AreGraphNumbers g s n
  numbers_are c order n is ordered numbers few =
      let at = laid_is_numbered s g.most_handlers in
      let same = subst (λ (k : Columns). AreNodeNumbers k n) is numbers in
      let in_order = subst (λ (k : Columns). IsOrder k.graph order) is ordered in
      let l = mapped_length (λ (y : Node). y.edges) its_nodes in
      let few_nodes = subst (λ (k : Columns). 2 * length k.graph < most_depth) is few in
      record {
        costs = costs_are_solved g s (at_in s) its_nodes n.costs.items sketch at same.costs;
        depths = depths_are_solved g s (at_in s) its_nodes order n.depths.items most_depth sketch at in_order (omega (arith, l, few_nodes)) same.depths;
        ranks = chains_are_ranks g s (at_in s) its_nodes n.ranks.items sketch at same.ranks;
        cost_of = node_cost_at g s (at_in s) its_nodes n.costs.items (1 + most_bound) sketch at same.costs;
        depth_of = λ i c names. sym (entry_is g s (at_in s) its_nodes n.depths.items most_depth sketch at same.depths i c names);
        rank_of = λ i c names. sym (rank_at g s (at_in s) g.most_handlers its_nodes n.ranks.items sketch at same.ranks i c names);
        no_cost = not_there g s (at_in s) its_nodes n.costs.items (1 + most_bound) sketch at same.costs;
        no_depth = table_none (value_of s (at_in s) n.depths.items) 0 g.raised;
      }
