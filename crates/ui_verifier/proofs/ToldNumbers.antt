-- The numbers of a sketch's nodes are those that are reported of the definition.
use Rattle.std.proofs.Common.{◌≡◌, refl, sym, ap, ◌∙◌, ℕ, zero, suc, ◌+◌, ◌<◌, ◌≤◌, max, Bool, true, false, cond, List, [], ◌∷◌, ◌++◌, length, map, Some, slice_get, arith}
use Rattle.std.specs.List.{list_any}
use Rattle.ui_machine.specs.Seq.{listed}
use Rattle.ui_machine.specs.Definition.{Definition}
use Rattle.ui_machine.specs.Definition.Programs.{Program}
use Rattle.law_typing.specs.Graph.{Connection, Raised, connections, graph, is_source, raised_at, sources_of, stretches_of}
use Rattle.law_typing.specs.Graph.Channels.{Channel, channels, same_channel}
use Rattle.law_typing.specs.Graph.Channels as entries
use Rattle.law_typing.specs.Graph.Costs.{bound, node_cost}
use Rattle.law_typing.specs.Graph.Depths.{depth}
use Rattle.law_typing.specs.Graph.Ranks.{is_raised, node}
use Rattle.law_typing.specs.Graph.Tables.{Table, Tables, entry, greatest}
use Rattle.law_typing.specs.Laws.Capped.{capped}
use Rattle.law_typing.specs.Rules.Sites.{Site, sites}
use Rattle.law_typing.proofs.Lists.{same_channel_true}
use Rattle.law_idle.specs.Idle.{busy_channels, busy_graph}
use Rattle.verify_numbers.specs.Tables.{cost_tables, depth_tables, rank_table, table_from, value_of}
use Rattle.verify_numbers.proofs.SketchLists.{read_listed, same_length}
use Rattle.verify_order.specs.Numbers.{of_node}
use Rattle.verify_sketches.specs.Sketches.{IsSketch, IsSketchedChannel, Names, Sketch, channels_in}
use Rattle.verify_sketches.specs.Numbered.{program}
use Rattle.verify_numbers.specs.Counts.{at_in}
use Rattle.verify_numbers.specs.Reckonings.{AreGraphNumbers}
use Rattle.verify_numbers.specs.declared.reckonings.NodeNumbers.{NodeNumbers}
use Rattle.verify_numbers.proofs.Lists.{mapped_length}
use Rattle.verify_channels.proofs.GraphChannels.{graph_channels}
use Rattle.ui_verifier.specs.ByChannel.{Gives, GivesCapped, makings_depth}
use Rattle.ui_verifier.specs.Bounds.{with_objects}

-- ** lists

-- the values of a list's entries by their numbers
values_are : (F : ℕ → ℕ) (G : Channel → ℕ) (cs : List Channel) → ((i : ℕ) (c : Channel) → slice_get cs i ≡ Some c → F i ≡ G c) →
    listed F (length cs) ≡ map G cs
values_are F G [] all = refl
values_are F G (c ∷ cs) all =
    ap (λ n. n ∷ listed (λ i. F (suc i)) (length cs)) (all 0 c refl)
    ∙ ap (λ ns. G c ∷ ns) (values_are (λ i. F (suc i)) G cs (λ i e is. all (suc i) e is))

mapped_back : (d : Definition) (ns : List Connection) (cs : List Channel) → map (λ (r : Raised). r.channel) (map (raised_at d ns) cs) ≡ cs
mapped_back d ns [] = refl
mapped_back d ns (c ∷ cs) = ap (λ xs. c ∷ xs) (mapped_back d ns cs)

-- the channels of the graph are those of the definition
pub all_channels : (d : Definition) → channels_in (graph d) ≡ channels d
all_channels d = mapped_back d (connections d (sites d)) (channels d)

-- and those of the graph without idle ones are the busy ones
pub same_channels : (d : Definition) → channels_in (busy_graph d) ≡ busy_channels d
same_channels d = graph_channels d

-- a channel that has no number is not raised
not_raised : (rs : List Raised) (c : Channel) → ((n : ℕ) → slice_get (map (λ (r : Raised). r.channel) rs) n ≡ Some c → ⊥) →
    list_any (λ (r : Raised). same_channel r.channel c) rs ≡ false
not_raised [] c none = refl
not_raised (r ∷ rs) c none = by (same_channel r.channel c) refl (not_raised rs c (λ n is. none (suc n) is))
  where
    by : (b : Bool) → same_channel r.channel c ≡ b → list_any (λ (r : Raised). same_channel r.channel c) rs ≡ false →
        list_any (λ (r : Raised). same_channel r.channel c) (r ∷ rs) ≡ false
    by true is rest = absurd (none 0 (ap Some (same_channel_true r.channel c is)))
    by false is rest = let e = ap (λ b. cond b true (list_any (λ (r : Raised). same_channel r.channel c) rs)) is in cc

-- the greatest number of a table
greatest_of_table : (F : ℕ → ℕ) (n : ℕ) (rs : List Raised) →
    greatest (λ (x : Channel × ℕ). x.1) (table_from F n rs) ≡ greatest (λ (k : ℕ). k) (listed (λ i. F (n + i)) (length rs))
greatest_of_table F n [] = refl
greatest_of_table F n (r ∷ rs) =
    let a = greatest_of_table F (suc n) rs in
    let z : n ≡ n + 0 = omega arith in
    ap (λ k. max k (greatest (λ (x : Channel × ℕ). x.1) (table_from F (suc n) rs))) (ap F z)
    ∙ ap (λ k. max (F (n + 0)) k) (a ∙ ap (greatest (λ (k : ℕ). k)) (same (λ i. F (suc n + i)) (λ i. F (n + suc i)) (length rs) (λ i. (let e : suc n + i ≡ n + suc i = omega arith in ap F e))))
  where
    same : (G H : ℕ → ℕ) (k : ℕ) → ((i : ℕ) → G i ≡ H i) → listed G k ≡ listed H k
    same G H zero is = refl
    same G H (suc k) is = ap (λ x. x ∷ listed (λ i. G (suc i)) k) (is 0) ∙ ap (λ xs. H 0 ∷ xs) (same (λ i. G (suc i)) (λ i. H (suc i)) k (λ i. is (suc i)))

same_listed : (G H : ℕ → ℕ) (k : ℕ) → ((i : ℕ) → G i ≡ H i) → listed G k ≡ listed H k
same_listed G H zero is = refl
same_listed G H (suc k) is = ap (λ x. x ∷ listed (λ i. G (suc i)) k) (is 0) ∙ ap (λ xs. H 0 ∷ xs) (same_listed (λ i. G (suc i)) (λ i. H (suc i)) k (λ i. is (suc i)))

-- numbers of programs are below their count
sources_same : (d : Definition) (ss : List Site) (f h : ℕ → ℕ) (number total : ℕ) (ps : List Program) → number + length ps ≤ total →
    ((p : ℕ) → p < total → f p ≡ h p) →
    map {B = ℕ × ℕ} (λ (p : ℕ). (p, f p)) (sources_of d ss number ps) ≡ map (λ (p : ℕ). (p, h p)) (sources_of d ss number ps)
sources_same d ss f h number total [] low all = refl
sources_same d ss f h number total (p ∷ ps) low all =
    by (is_source d ss number) (sources_same d ss f h (suc number) total ps (omega (arith, low)) all)
  where
    by : (b : Bool) →
        map {B = ℕ × ℕ} (λ (p : ℕ). (p, f p)) (sources_of d ss (suc number) ps) ≡ map (λ (p : ℕ). (p, h p)) (sources_of d ss (suc number) ps) →
        map {B = ℕ × ℕ} (λ (p : ℕ). (p, f p)) (cond b (number ∷ []) [] ++ sources_of d ss (suc number) ps)
        ≡ map (λ (p : ℕ). (p, h p)) (cond b (number ∷ []) [] ++ sources_of d ss (suc number) ps)
    by true rest =
        let e : f number ≡ h number = all number (omega (arith, low)) in
        ap (λ k. (number, k) ∷ map (λ (p : ℕ). (p, f p)) (sources_of d ss (suc number) ps)) e ∙ ap (λ (xs : List (ℕ × ℕ)). (number, h number) ∷ xs) rest
    by false rest = rest

-- ** what is reported

module _ (d : Definition) (s : Sketch) (n : NodeNumbers) (sketch : IsSketch (busy_graph d) s) (numbers : AreGraphNumbers (busy_graph d) s n) where
  abbrev pub by_cost : Tables
  by_cost = cost_tables (busy_graph d) (at_in s) n.costs.items

  abbrev pub by_depth : Tables
  by_depth = depth_tables (busy_graph d) s (at_in s) n.depths.items

  abbrev pub by_rank : Table
  by_rank = rank_table (busy_graph d) s (at_in s) n.ranks.items

  abbrev pub cost_list : List ℕ
  cost_list = listed (value_of s (at_in s) n.costs.items) (length s.channels)

  abbrev pub depth_list : List ℕ
  depth_list = listed (value_of s (at_in s) n.depths.items) (length s.channels)

  abbrev pub rank_list : List ℕ
  rank_list = listed (value_of s (at_in s) n.ranks.items) (length s.channels)

  counted : length s.channels ≡ length (busy_channels d)
  counted =
      same_length (IsSketchedChannel (busy_graph d) s.groups) s.channels (busy_graph d).raised sketch.channels
      ∙ (sym (mapped_length (λ (r : Raised). r.channel) (busy_graph d).raised) ∙ ap (λ cs. length cs) (same_channels d))

  names : (i : ℕ) (c : Channel) → slice_get (busy_channels d) i ≡ Some c → Names (busy_graph d) i c
  names i c is = ap (λ cs. slice_get cs i) (same_channels d) ∙ is

  pub costs_are : cost_list ≡ map (λ (c : Channel). capped (node_cost (busy_graph d) by_cost c)) (busy_channels d)
  costs_are =
      ap (listed (value_of s (at_in s) n.costs.items)) counted
      ∙ values_are (value_of s (at_in s) n.costs.items) (λ c. capped (node_cost (busy_graph d) by_cost c)) (busy_channels d) (λ i c is. numbers.cost_of i c (names i c is))

  pub ranks_are : rank_list ≡ map (λ (c : Channel). entry by_rank (node (busy_graph d) c)) (busy_channels d)
  ranks_are =
      ap (listed (value_of s (at_in s) n.ranks.items)) counted
      ∙ values_are (value_of s (at_in s) n.ranks.items) (λ c. entry by_rank (node (busy_graph d) c)) (busy_channels d) (λ i c is. numbers.rank_of i c (names i c is))

  pub depths_are : depth_list ≡ map (λ (c : Channel). entry by_depth.channels c) (busy_channels d)
  depths_are =
      ap (listed (value_of s (at_in s) n.depths.items)) counted
      ∙ values_are (value_of s (at_in s) n.depths.items) (λ c. entry by_depth.channels c) (busy_channels d) (λ i c is. numbers.depth_of i c (names i c is))

  absent : (c : Channel) → ((k : ℕ) → slice_get (busy_channels d) k ≡ Some c → ⊥) → is_raised (busy_graph d) c ≡ false
  absent c none = not_raised (busy_graph d).raised c (λ k is. none k (ap (λ cs. slice_get cs k) (sym (same_channels d)) ∙ is))

  pub gives_costs : GivesCapped (busy_channels d) cost_list (node_cost (busy_graph d) by_cost)
  gives_costs = record {
    same = costs_are;
    none = λ c none. ap capped (numbers.no_cost c (absent c none));
  }

  pub gives_depths : Gives (busy_channels d) depth_list (entry by_depth.channels)
  gives_depths = record { same = depths_are; none = λ c none. numbers.no_depth c (absent c none) }

  with_all : (objects : ℕ) (cs : List Channel) →
      with_objects objects (map (λ (c : Channel). capped (node_cost (busy_graph d) by_cost c)) cs) ≡ map (λ (c : Channel). capped (node_cost (busy_graph d) by_cost c + objects)) cs
  with_all objects [] = refl
  with_all objects (c ∷ cs) =
      let k = node_cost (busy_graph d) by_cost c in
      let e : capped (capped k + objects) ≡ capped (k + objects) = omega arith in
      ap (λ x. x ∷ with_objects objects (map (λ (c : Channel). capped (node_cost (busy_graph d) by_cost c)) cs)) e
      ∙ ap (λ xs. capped (k + objects) ∷ xs) (with_all objects cs)

  pub bounds_are : with_objects d.most_objects cost_list ≡ map (λ (c : Channel). capped (bound (busy_graph d) by_cost (entries.at c))) (busy_channels d)
  bounds_are = ap (with_objects d.most_objects) costs_are ∙ with_all d.most_objects (busy_channels d)

  program_count : length (busy_graph d).programs ≡ length d.programs
  program_count = mapped_length (stretches_of d) d.programs

  pub sources_are :
      map {B = ℕ × ℕ} (λ (p : ℕ). (p, capped (of_node n.costs.items (at_in s (program p)) + d.most_objects))) (busy_graph d).sources
      ≡ map (λ (p : ℕ). (p, capped (bound (busy_graph d) by_cost (entries.source p)))) (busy_graph d).sources
  sources_are =
      sources_same d (sites d) (λ p. capped (of_node n.costs.items (at_in s (program p)) + d.most_objects)) (λ p. capped (bound (busy_graph d) by_cost (entries.source p)))
      0 (length d.programs) d.programs (omega arith)
      (λ p low.
      let c = program_count in
      let e = read_listed (λ p. of_node n.costs.items (at_in s (program p))) (length (busy_graph d).programs) p (omega (arith, low, c)) in
      ap (λ k. capped (k + d.most_objects)) (sym e))

  pub depth_is :
      max (greatest (λ (k : ℕ). k) depth_list)
      (max (greatest (λ (k : ℕ). k) (listed (λ p. of_node n.depths.items (at_in s (program p))) (length d.programs))) (makings_depth d (entry by_depth.channels)))
      ≡ depth (busy_graph d) by_depth
  depth_is =
      let f = value_of s (at_in s) n.depths.items in
      let same = same_length (IsSketchedChannel (busy_graph d) s.groups) s.channels (busy_graph d).raised sketch.channels in
      let a : greatest (λ (k : ℕ). k) depth_list ≡ greatest (λ (x : Channel × ℕ). x.1) by_depth.channels =
      ap (λ k. greatest (λ (k : ℕ). k) (listed f k)) same
      ∙ (ap (greatest (λ (k : ℕ). k)) (same_listed f (λ i. f (0 + i)) (length (busy_graph d).raised) (λ i. (let z : i ≡ 0 + i = omega arith in ap f z)))
      ∙ sym (greatest_of_table f 0 (busy_graph d).raised)) in
      ap (λ x. max x (max (greatest (λ (k : ℕ). k) (listed (λ p. of_node n.depths.items (at_in s (program p))) (length d.programs))) (makings_depth d (entry by_depth.channels)))) a
      ∙ ap (λ k. max (greatest (λ (x : Channel × ℕ). x.1) by_depth.channels) (max (greatest (λ (k : ℕ). k) (listed (λ p. of_node n.depths.items (at_in s (program p))) k)) (makings_depth d (entry by_depth.channels)))) (sym program_count)
