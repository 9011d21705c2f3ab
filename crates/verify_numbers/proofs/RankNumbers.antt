-- The longest chains of nodes are the ranks.
use Rattle.std.proofs.Common.{◌≡◌, inl, inr, ◌⊎◌, refl, sym, ap, subst, ◌∙◌, ℕ, zero, suc, ◌+◌, ◌<◌, ◌≤◌, Bool, true, false, cond, List, [], ◌∷◌, ◌++◌, length, map, Option, None, Some, slice_get, slice_index_or, arith}
use Rattle.std.specs.List.{filter, flat_map}
use Rattle.ui_machine.specs.Seq.{read}
use Rattle.law_typing.specs.Graph.Channels.{Channel, same_channel}
use Rattle.law_typing.specs.Graph.Channels as causes
use Rattle.law_typing.specs.Graph.{Graph, Raised, Start, Stretch}
use Rattle.law_typing.specs.Graph as starts
use Rattle.law_typing.specs.Graph.Tables.{Table, entry}
use Rattle.law_typing.specs.Graph.Ranks.{Arrow, above, arrow, arrows, arrows_by, arrows_from, is_raised, IsRanking, node, nodes as graph_nodes, rank_by, running_at, started, started_by}
use Rattle.law_typing.specs.Graph.Costs.{before_last, only_last}
use Rattle.law_typing.specs.Laws.{IsIn}
use Rattle.law_typing.proofs.Lists.{each_in, filter_in, greatest_in, map_in, same_channel_true, same_channel_refl}
use Rattle.law_typing.proofs.CostProofs.{listed_in}
use Rattle.law_typing.proofs.EdgeProofs.{append_left, append_right, flat_in}
use Rattle.law_typing.proofs.OneSolutionProofs.{filtered_kept}
use Rattle.law_typing.proofs.RankProofs.{begins}
use Rattle.verify_order.specs.Graphs.{Edge}
use Rattle.verify_order.specs.Numbers.{of_node}
use Rattle.verify_order.specs.Chains.{AreRanks, one_if, step}
use Rattle.verify_sketches.specs.Pointwise.{Pointwise, inside}
use Rattle.verify_sketches.specs.Sketches.{AreNamed, IsSketch, IsSketchedBlock, IsSketchedStart, IsStartOf, Names, Sketch, SketchedBlock, SketchedChannel, SketchedStart, channels_in, nothing, raises, makes, thaws}
use Rattle.verify_sketches.specs.Numbered.{IsNumbered, IsPart, Node, Part, block, block_node, blocks, blocks_node, connected, connected_node, counts_in, edges_in, first_block, first_of, group, group_node, next, nodes_of, of_block, of_blocks, of_connected, of_group, of_next, of_own, of_passes, of_place, of_program, of_stages, of_start, of_whole, own, own_node, passes, passes_node, place, place_node, program, program_node, programs_of, stages, stages_node, start, start_node, starts_of, whole}
use Rattle.verify_numbers.specs.Tables.{ChainsAreRanks, node_table_from, rank_table, value_of}
use Rattle.verify_numbers.proofs.SketchLists.{map_get, at_second, below, get_map, one_found, pointwise_map, read_found}
use Rattle.verify_numbers.proofs.SketchParts.{IsChannelAt, first_node, named, node_alone, node_both, raised_at}
use Rattle.verify_numbers.proofs.Members.{append_cases, flat_cases, get_in, in_get, in_second, inside_in, last_cases, map_cases, most_of_each, read_in}
use Rattle.verify_numbers.proofs.PartEdges.{Leads, edge_from, first_named, leads_back, runs_class, runs_group, runs_handler, starts_before, starts_last, to_blocks, to_connected, to_each, to_first, to_group, to_later, to_next, to_own, to_paired, to_passes, to_place, to_raised, to_stages, to_target}

index_found : {A : Type 0} (xs : List A) (i : ℕ) (x d : A) → slice_get xs i ≡ Some x → slice_index_or xs i d ≡ x
index_found [] i x d e = absurd (cc)
index_found (y ∷ ys) zero x d e = cc
index_found (y ∷ ys) (suc i) x d e = index_found ys i x d e

read_none : {A : Type 0} (d : A) (xs : List A) (i : ℕ) → slice_get xs i ≡ None → read d xs i ≡ d
read_none d [] i e = refl
read_none d (y ∷ ys) zero e = absurd (cc)
read_none d (y ∷ ys) (suc i) e = read_none d ys i e

-- the node of a channel counts, and no other
abbrev is_whole : Part → Bool
is_whole (whole i) = true
is_whole (own i) = false
is_whole (stages i) = false
is_whole (connected i) = false
is_whole (group i) = false
is_whole (program i) = false
is_whole (blocks i) = false
is_whole (place i) = false
is_whole (start i) = false
is_whole (block p i) = false
is_whole (passes p i) = false
is_whole (next p i) = false

counts_is : (s : Sketch) (at : Part → ℕ) (handlers : ℕ) (x : Part) (y : Node) → IsPart s at handlers x y → y.counts ≡ is_whole x
counts_is s at handlers x y (of_whole i k e) = refl
counts_is s at handlers x y (of_own i k e) = refl
counts_is s at handlers x y (of_stages i k e) = refl
counts_is s at handlers x y (of_connected i k e) = refl
counts_is s at handlers x y (of_group i ps e) = refl
counts_is s at handlers x y (of_program i bs e) = refl
counts_is s at handlers x y (of_blocks i bs e) = refl
counts_is s at handlers x y (of_place i cs e) = refl
counts_is s at handlers x y (of_start i k e) = refl
counts_is s at handlers x y (of_block p i bs b e f) = refl
counts_is s at handlers x y (of_passes p i bs b e f) = refl
counts_is s at handlers x y (of_next p i bs b e f) = refl

-- a number is 0, or it comes from somewhere
abbrev Reached : (ℕ → Type 0) → ℕ → Type 0
Reached P v = (v ≡ 0) ⊎ P v

reached_same : (P : ℕ → Type 0) (v w : ℕ) → v ≡ w + 0 → Reached P w → Reached P v
reached_same P v w e h = let same : w ≡ v = omega (arith, e) in subst (Reached P) same h

reached_map : (P Q : ℕ → Type 0) (v : ℕ) → (P v → Q v) → Reached P v → Reached Q v
reached_map P Q v f (inl e) = inl e
reached_map P Q v f (inr h) = inr (f h)

module _ (g : Graph) (s : Sketch) (at : Part → ℕ) (handlers : ℕ) (nodes : List Node) (values : List ℕ) (sketch : IsSketch g s)
    (numbered : IsNumbered s at handlers nodes)
    (ranks : AreRanks (counts_in nodes) (edges_in nodes) values) where
  abbrev number : Part → ℕ
  number x = of_node values (at x)

  abbrev There : Part → Type 0
  There x = (y : Node) × IsPart s at handlers x y

  step_is : (x : Part) (y : Node) → IsPart s at handlers x y → step (counts_in nodes) (at x) ≡ one_if (is_whole x)
  step_is x y is =
      ap one_if
      (index_found (counts_in nodes) (at x) y.counts false (get_map (λ (y : Node). y.counts) nodes (at x) y (numbered.there x y is)) ∙ counts_is s at handlers x y is)

  -- ** where a number comes from

  came : (z : Part) → There z → (number z ≡ 0) ⊎ ((x : Part) × There x × Leads g s x z × (number z ≡ number x + one_if (is_whole x)))
  came z there = by (ranks.reached (at z))
    where
      from_part : (from : ℕ) → of_node values (at z) ≡ of_node values from + step (counts_in nodes) from →
          ((x : Part) × There x × (from ≡ at x) × Leads g s x z) →
          (x : Part) × There x × Leads g s x z × (number z ≡ number x + one_if (is_whole x))
      from_part from e x = (
        x.0,
        x.1,
        x.3,
        e ∙ (ap (λ k. of_node values k + step (counts_in nodes) k) x.2 ∙ ap (λ n. of_node values (at x.0) + n) (step_is x.0 x.1.0 x.1.1)),
      )

      by : ((of_node values (at z) ≡ 0) ⊎ ((from : ℕ) × Edge (edges_in nodes) from (at z) × (of_node values (at z) ≡ of_node values from + step (counts_in nodes) from))) →
          (number z ≡ 0) ⊎ ((x : Part) × There x × Leads g s x z × (number z ≡ number x + one_if (is_whole x)))
      by (inl e) = inl e
      by (inr h) = inr (from_part h.0 h.2 (leads_back g s at handlers sketch nodes numbered h.0 z there h.1))

  -- a number that is one more than that of a channel's node
  abbrev Above : ℕ → ℕ → Type 0
  Above n v = (c : Channel) × (i : ℕ) × (Names g n c) × (Names g i (node g c)) × (v ≡ suc (number (whole i)))

  -- by the part that it comes from
  trace : (P : ℕ → Type 0) (z : Part) → There z →
      ((x : Part) → There x → Leads g s x z → number z ≡ number x + one_if (is_whole x) → Reached P (number z)) → Reached P (number z)
  trace P z there each = by (came z there)
    where
      by : (number z ≡ 0) ⊎ ((x : Part) × There x × Leads g s x z × (number z ≡ number x + one_if (is_whole x))) → Reached P (number z)
      by (inl e) = inl e
      by (inr h) = each h.0 h.1 h.2 h.3

  own_by : (n : ℕ) (x : Part) → There x → Leads g s x (own n) → number (own n) ≡ number x + one_if (is_whole x) →
      Reached (Above n) (number (own n))
  own_by n x there (to_own i m c a b) e = inr (c, i, a, b, omega (arith, e))

  own_from : (n : ℕ) → There (own n) → Reached (Above n) (number (own n))
  own_from n there = trace (Above n) (own n) there (own_by n)

  stages_by : (n : ℕ) (x : Part) → There x → Leads g s x (stages n) → number (stages n) ≡ number x + one_if (is_whole x) →
      Reached (Above n) (number (stages n))
  stages_by n x there (to_stages m) e = reached_same (Above n) (number (stages n)) (number (own n)) e (own_from n there)

  connected_by : (n : ℕ) (x : Part) → There x → Leads g s x (connected n) → number (connected n) ≡ number x + one_if (is_whole x) →
      Reached (Above n) (number (connected n))
  connected_by n x there (to_connected m) e = reached_same (Above n) (number (connected n)) (number (own n)) e (own_from n there)

  -- what runs the programs of a group
  abbrev Grouped : ℕ → ℕ → Type 0
  Grouped m v = (n : ℕ) × (r : Raised) × (slice_get g.raised n ≡ Some r) × ((p : ℕ) → IsIn p (read [] s.groups m) → IsIn p (running_at r)) × Above n v

  group_by : (m : ℕ) (x : Part) → There x → Leads g s x (group m) → number (group m) ≡ number x + one_if (is_whole x) →
      Reached (Grouped m) (number (group m))
  group_by m x there (to_group n l r is all) e =
      reached_same (Grouped m) (number (group m)) (number (connected n)) e
      (reached_map (Above n) (Grouped m) (number (connected n)) (λ a. (n, r, is, all, a)) (trace (Above n) (connected n) there (connected_by n)))

  -- what runs a program
  abbrev Runs : ℕ → ℕ → Type 0
  Runs p v = (n : ℕ) × (r : Raised) × (slice_get g.raised n ≡ Some r) × IsIn p (running_at r) × Above n v

  program_by : (p : ℕ) (x : Part) → There x → Leads g s x (program p) → number (program p) ≡ number x + one_if (is_whole x) →
      Reached (Runs p) (number (program p))
  program_by p x there (runs_handler n q r is runs) e =
      reached_same (Runs p) (number (program p)) (number (own n)) e
      (reached_map (Above n) (Runs p) (number (own n)) (λ a. (n, r, is, runs, a)) (own_from n there))
  program_by p x there (runs_class n q r is runs) e =
      reached_same (Runs p) (number (program p)) (number (stages n)) e
      (reached_map (Above n) (Runs p) (number (stages n)) (λ a. (n, r, is, runs, a)) (trace (Above n) (stages n) there (stages_by n)))
  program_by p x there (runs_group m q h) e =
      reached_same (Runs p) (number (program p)) (number (group m)) e
      (reached_map (Grouped m) (Runs p) (number (group m)) (λ a. (a.0, a.1, a.2, a.3 p h, a.4)) (trace (Grouped m) (group m) there (group_by m)))

  program_from : (p : ℕ) → There (program p) → Reached (Runs p) (number (program p))
  program_from p there = trace (Runs p) (program p) there (program_by p)

  blocks_by : (p : ℕ) (x : Part) → There x → Leads g s x (blocks p) → number (blocks p) ≡ number x + one_if (is_whole x) →
      Reached (Runs p) (number (blocks p))
  blocks_by p x there (to_blocks q) e = reached_same (Runs p) (number (blocks p)) (number (program p)) e (program_from p there)

  -- a block comes from its program, or from one before it
  abbrev BlocksBelow : ℕ → ℕ → Type 0
  BlocksBelow p m = (i : ℕ) → i < m → There (block p i) → Reached (Runs p) (number (block p i))

  next_by : (p m i : ℕ) → BlocksBelow p m → i < m → (x : Part) → There x → Leads g s x (next p i) →
      number (next p i) ≡ number x + one_if (is_whole x) →
      Reached (Runs p) (number (next p i))
  next_by p m i ih h x there (to_next q j) e = reached_same (Runs p) (number (next p i)) (number (block p i)) e (ih i h there)

  block_by : (p m i : ℕ) → BlocksBelow p m → i < suc m → (x : Part) → There x → Leads g s x (block p i) →
      number (block p i) ≡ number x + one_if (is_whole x) →
      Reached (Runs p) (number (block p i))
  block_by p m i ih h x there (to_first q) e = reached_same (Runs p) (number (block p 0)) (number (program p)) e (program_from p there)
  block_by p m i ih h x there (to_each q j) e =
      reached_same (Runs p) (number (block p i)) (number (blocks p)) e (trace (Runs p) (blocks p) there (blocks_by p))
  block_by p m i ih h x there (to_later q j k later) e =
      reached_same (Runs p) (number (block p i)) (number (next p j)) e
      (trace (Runs p) (next p j) there (next_by p m j ih (omega (arith, h, later))))

  blocks_below : (p m : ℕ) → BlocksBelow p m
  blocks_below p zero i h there = absurd (omega (arith, h))
  blocks_below p (suc m) i h there = trace (Runs p) (block p i) there (block_by p m i (blocks_below p m) h)

  block_from : (p i : ℕ) → There (block p i) → Reached (Runs p) (number (block p i))
  block_from p i there = blocks_below p (suc i) i (omega arith) there

  passes_by : (p i : ℕ) (x : Part) → There x → Leads g s x (passes p i) → number (passes p i) ≡ number x + one_if (is_whole x) →
      Reached (Runs p) (number (passes p i))
  passes_by p i x there (to_passes q j) e = reached_same (Runs p) (number (passes p i)) (number (block p i)) e (block_from p i there)

  -- what runs a program that has a start
  abbrev Begins : ℕ → ℕ → Type 0
  Begins n v = (p : ℕ) × (y : Start) × IsStartOf g s n y × ((c : Channel) → IsIn c (started y) → IsIn c (started_by g p)) × Runs p v

  start_by : (n : ℕ) (x : Part) → There x → Leads g s x (start n) → number (start n) ≡ number x + one_if (is_whole x) →
      Reached (Begins n) (number (start n))
  start_by n x there (starts_last p i m y is all) e =
      reached_same (Begins n) (number (start n)) (number (block p i)) e
      (reached_map (Runs p) (Begins n) (number (block p i)) (λ a. (p, y, is, all, a)) (block_from p i there))
  start_by n x there (starts_before p i m y is all) e =
      reached_same (Begins n) (number (start n)) (number (passes p i)) e
      (reached_map (Runs p) (Begins n) (number (passes p i)) (λ a. (p, y, is, all, a)) (trace (Runs p) (passes p i) there (passes_by p i)))

  start_from : (n : ℕ) → There (start n) → Reached (Begins n) (number (start n))
  start_from n there = trace (Begins n) (start n) there (start_by n)

  -- what runs a program that thaws a place
  abbrev Thaws : ℕ → ℕ → Type 0
  Thaws m v = (p : ℕ) × ((j : ℕ) (c : Channel) → IsIn j (read [] s.paired m) → Names g j c → IsIn c (started_by g p)) × Runs p v

  place_by : (m : ℕ) (x : Part) → There x → Leads g s x (place m) → number (place m) ≡ number x + one_if (is_whole x) →
      Reached (Thaws m) (number (place m))
  place_by m x there (to_place n l all) e =
      reached_same (Thaws m) (number (place m)) (number (start n)) e
      (reached_map (Begins n) (Thaws m) (number (start n)) (λ a. (a.0, λ j c has names. a.3 c (all a.1 j c a.2 has names), a.4)) (start_from n there))

  -- the edge by which a channel's node is reached
  abbrev Arrives : ℕ → ℕ → Type 0
  Arrives f v = (a : Arrow) × IsIn a (arrows g) × (Names g f a.to) × (i : ℕ) × (Names g i a.from) × (v ≡ suc (number (whole i)))

  same_node : (n : ℕ) (r : Raised) (c : Channel) (i : ℕ) → slice_get g.raised n ≡ Some r → Names g n c → Names g i (node g c) →
      Names g i (node g r.channel)
  same_node n r c i is names first =
      let same : c ≡ r.channel = one_found c r.channel (slice_get (channels_in g) n) names (get_map (λ (r : Raised). r.channel) g.raised n r is) in
      subst (λ c. Names g i (node g c)) same first

  by_program : (p f v : ℕ) (c : Channel) → IsIn c (started_by g p) → Names g f (node g c) → Runs p v → Arrives f v
  by_program p f v c starts named_to runs =
      let r = runs.1 in
      let above = runs.4 in (
        arrow g r.channel (causes.program p) c,
        flat_in (arrows_from g) g.raised r (arrow g r.channel (causes.program p) c) (get_in g.raised runs.0 r runs.2)
            (append_left (flat_map (arrows_by g r.channel) (running_at r)) (map (arrow g r.channel causes.binding) (filter (is_raised g) r.targets))
            (arrow g r.channel (causes.program p) c)
            (flat_in (arrows_by g r.channel) (running_at r) p (arrow g r.channel (causes.program p) c) runs.3
            (map_in (arrow g r.channel (causes.program p)) (started_by g p) c starts))),
        named_to,
        above.1,
        same_node runs.0 r above.0 above.1 runs.2 above.2 above.3,
        above.4,
      )

  by_binding : (n f v : ℕ) (r : Raised) (c : Channel) → slice_get g.raised n ≡ Some r → IsIn c (filter (is_raised g) r.targets) →
      Names g f (node g c) → Above n v → Arrives f v
  by_binding n f v r c is leads named_to above = (
    arrow g r.channel causes.binding c,
    flat_in (arrows_from g) g.raised r (arrow g r.channel causes.binding c) (get_in g.raised n r is)
        (append_right (flat_map (arrows_by g r.channel) (running_at r)) (map (arrow g r.channel causes.binding) (filter (is_raised g) r.targets))
        (arrow g r.channel causes.binding c)
        (map_in (arrow g r.channel causes.binding) (filter (is_raised g) r.targets) c leads)),
    named_to,
    above.1,
    same_node n r above.0 above.1 is above.2 above.3,
    above.4,
  )

  whole_by : (f : ℕ) (x : Part) → There x → Leads g s x (whole f) → number (whole f) ≡ number x + one_if (is_whole x) →
      Reached (Arrives f) (number (whole f))
  whole_by f x there (to_target n i r c is leads named_to) e =
      reached_same (Arrives f) (number (whole f)) (number (own n)) e
      (reached_map (Above n) (Arrives f) (number (own n)) (by_binding n f (number (own n)) r c is leads named_to) (own_from n there))
  whole_by f x there (to_raised n i all) e =
      reached_same (Arrives f) (number (whole f)) (number (start n)) e
      (reached_map (Begins n) (Arrives f) (number (start n))
      (λ a. (let c = all a.1 a.2 in by_program a.0 f (number (start n)) c.0 (a.3 c.0 c.1) c.2 a.4)) (start_from n there))
  whole_by f x there (to_paired m j i c has names named_to) e =
      reached_same (Arrives f) (number (whole f)) (number (place m)) e
      (reached_map (Thaws m) (Arrives f) (number (place m)) (λ a. by_program a.0 f (number (place m)) c (a.1 j c has names) named_to a.2)
      (trace (Thaws m) (place m) there (place_by m)))

  whole_from : (f : ℕ) → There (whole f) → Reached (Arrives f) (number (whole f))
  whole_from f there = trace (Arrives f) (whole f) there (whole_by f)

  -- ** a number is handed on along edges

  up : (x : Part) (y : Node) (z : Part) → IsPart s at handlers x y → IsIn (at z) y.edges → number x + one_if (is_whole x) ≤ number z
  up x y z is h =
      let e = ranks.above (at x) (at z) (edge_from g s at handlers sketch nodes numbered x y (at z) is h) in
      let k = step_is x y is in
      omega (arith, e, k)

  own_up : (n i : ℕ) (c : Channel) → Names g n c → Names g i (node g c) → suc (number (whole i)) ≤ number (own n)
  own_up n i c names first = at_channel (named g s sketch n c names)
    where
      at_channel : ((k : SketchedChannel) × (r : Raised) × (IsChannelAt g s n k r) × (r.channel ≡ c)) →
          suc (number (whole i)) ≤ number (own n)
      at_channel x = by x.0.other refl
        where
          is_first : x.0.first ≡ i
          is_first = sketch.once x.0.first i (node g c) (subst (λ c. Names g x.0.first (node g c)) x.3 x.2.is.first) first

          alone : x.0.other ≡ None → suc (number (whole i)) ≤ number (own n)
          alone e =
              let w = node_alone g s at handlers sketch n x.0 x.2.sketched e in
              let l = up (whole n) (first_node at n true None x.0.emits) (own n) w.1 (inl refl) in
              let same = ap (λ i. number (whole i)) (sym w.0 ∙ is_first) in
              omega (arith, l, same)

          both : (o : ℕ) → ((x.0.first ≡ n) × IsPart s at handlers (whole n) (first_node at n true (Some o) x.0.emits))
              ⊎ ((emits : Bool) × (x.0.first ≡ o) × IsPart s at handlers (whole o) (first_node at o true (Some n) emits)) →
              suc (number (whole i)) ≤ number (own n)
          both o (inl w) =
              let l = up (whole n) (first_node at n true (Some o) x.0.emits) (own n) w.1 (inl refl) in
              let same = ap (λ i. number (whole i)) (sym w.0 ∙ is_first) in
              omega (arith, l, same)
          both o (inr w) =
              let l = up (whole o) (first_node at o true (Some n) w.0) (own n) w.2 (inr (inl refl)) in
              let same = ap (λ i. number (whole i)) (sym w.1 ∙ is_first) in
              omega (arith, l, same)

          by : (o : Option ℕ) → x.0.other ≡ o → suc (number (whole i)) ≤ number (own n)
          by None e = alone e
          by (Some o) e = both o (node_both g s at handlers sketch n o x.0 x.2.sketched e)

  -- ** to a program

  program_in : (p : ℕ) (ps : List ℕ) → p < length s.programs → IsIn p ps → IsIn (at (program p)) (programs_of s at ps)
  program_in p ps h there = map_in (λ p. at (program p)) (inside (length s.programs) ps) p (inside_in (length s.programs) p ps h there)

  module _ (n : ℕ) (k : SketchedChannel) (r : Raised) (is : IsChannelAt g s n k r) (p : ℕ) (there : p < length s.programs) where
    class_up : IsIn p r.class_handler → number (own n) ≤ number (program p)
    class_up h =
        let a = up (own n) (own_node s at n k) (stages n) (of_own n k is.sketched) (inl refl) in
        let b =
        up (stages n) (stages_node s at n k) (program p) (of_stages n k is.sketched)
        (program_in p k.class_handler there (subst (IsIn p) (sym is.is.class_handler) h)) in
        omega (arith, a, b)

    handlers_up : IsIn p r.handlers → number (own n) ≤ number (program p)
    handlers_up h =
        let a =
        up (own n) (own_node s at n k) (program p) (of_own n k is.sketched)
        (inr (inr (append_left (programs_of s at k.handlers) (nodes_of s at k.targets) (at (program p)) (program_in p k.handlers there (subst (IsIn p) (sym is.is.handlers) h))))) in
        omega (arith, a)

    connectable_up : IsIn p r.connectable → number (own n) ≤ number (program p)
    connectable_up h =
        let m = flat_cases (read [] s.groups) k.groups p (is.is.connectable.back p h) in
        let ps = read_in s.groups m.0 p m.2 in
        let a = up (own n) (own_node s at n k) (connected n) (of_own n k is.sketched) (inr (inl refl)) in
        let b =
        up (connected n) (connected_node s at handlers n k) (group m.0) (of_connected n k is.sketched)
        (map_in (λ m. at (group m)) (inside (length s.groups) k.groups) m.0 (inside_in (length s.groups) m.0 k.groups (below s.groups m.0 ps.0 ps.1) m.1)) in
        let c = up (group m.0) (group_node s at m.0 ps.0) (program p) (of_group m.0 ps.0 ps.1) (program_in p ps.0 there ps.2) in
        omega (arith, a, b, c)

    runs_up : IsIn p (running_at r) → number (own n) ≤ number (program p)
    runs_up h = by (append_cases r.class_handler (r.handlers ++ r.connectable) p h)
      where
        by_others : IsIn p r.handlers ⊎ IsIn p r.connectable → number (own n) ≤ number (program p)
        by_others (inl h) = handlers_up h
        by_others (inr h) = connectable_up h

        by : IsIn p r.class_handler ⊎ IsIn p (r.handlers ++ r.connectable) → number (own n) ≤ number (program p)
        by (inl h) = class_up h
        by (inr h) = by_others (append_cases r.handlers r.connectable p h)

  -- ** to a start

  -- a start that starts something is kept
  kept_start : (n : ℕ) (y : Start) (c : Channel) → IsStartOf g s n y → IsIn c (started y) →
      (k : SketchedStart) × (slice_get s.starts n ≡ Some k) × IsSketchedStart g s.paired k y
  kept_start n y c is h = by (slice_get s.starts n) refl
    where
      none : (y : Start) → IsSketchedStart g s.paired nothing y → IsIn c (started y) → ⊥
      none starts.nothing is h = h
      none (starts.raises cs) is h = is
      none (starts.makes cs) is h = is
      none (starts.thaws css) is h = is

      by : (o : Option SketchedStart) → slice_get s.starts n ≡ o →
          (k : SketchedStart) × (slice_get s.starts n ≡ Some k) × IsSketchedStart g s.paired k y
      by None e = absurd (none y (subst (λ k. IsSketchedStart g s.paired k y) (read_none nothing s.starts n e) is) h)
      by (Some k) e = (k, e, subst (λ k. IsSketchedStart g s.paired k y) (read_found nothing s.starts n k e) is)

  start_in : (n : ℕ) (k : SketchedStart) (ns : List ℕ) → slice_get s.starts n ≡ Some k → IsIn n ns → IsIn (at (start n)) (starts_of s at ns)
  start_in n k ns e h =
      map_in (λ n. at (start n)) (inside (length s.starts) ns) n (inside_in (length s.starts) n ns (below s.starts n k e) h)

  block_up : (p i n : ℕ) (bs : List SketchedBlock) (b : SketchedBlock) (k : SketchedStart) → slice_get s.programs p ≡ Some bs →
      slice_get bs i ≡ Some b →
      slice_get s.starts n ≡ Some k → IsIn n b.starts → number (block p i) ≤ number (start n)
  block_up p i n bs b k e f is h = by (last_cases b.starts n h)
    where
      by : IsIn n (before_last b.starts) ⊎ IsIn n (only_last b.starts) → number (block p i) ≤ number (start n)
      by (inl h) =
          let a = up (block p i) (block_node s at p i b) (passes p i) (of_block p i bs b e f) (inl refl) in
          let c = up (passes p i) (passes_node s at p i b) (start n) (of_passes p i bs b e f) (start_in n k (before_last b.starts) is h) in
          omega (arith, a, c)
      by (inr h) =
          let a =
          up (block p i) (block_node s at p i b) (start n) (of_block p i bs b e f) (inr (inr (start_in n k (only_last b.starts) is h))) in
          omega (arith, a)

  to_block : (p i : ℕ) (bs : List SketchedBlock) → slice_get s.programs p ≡ Some bs → i < length bs →
      number (program p) ≤ number (block p i)
  to_block p i bs e h =
      let a =
      up (program p) (program_node at p bs) (blocks p) (of_program p bs e)
      (append_right (first_block at p (length bs)) (at (blocks p) ∷ []) (at (blocks p)) (inl refl)) in
      let b = up (blocks p) (blocks_node at p bs) (block p i) (of_blocks p bs e) (listed_in (λ i. at (block p i)) (length bs) i h) in
      omega (arith, a, b)

  -- what a program starts, some start of it does, which has its number at least
  program_up : (p : ℕ) (c : Channel) → IsIn c (started_by g p) →
      (n : ℕ) × (k : SketchedStart) × (y : Start) × (slice_get s.starts n ≡ Some k) × (IsSketchedStart g s.paired k y) × (IsIn c (started y)) × (p < length s.programs)
      × (number (program p) ≤ number (start n))
  program_up p c h =
      let y = flat_cases (λ (y : Stretch). flat_map started y.starts) (read [] g.programs p) c h in
      let ys = read_in g.programs p y.0 y.1 in
      let i = in_get ys.0 y.0 ys.2 in
      let bs = at_second (Pointwise (IsSketchedBlock g s)) s.programs g.programs p ys.0 sketch.programs ys.1 in
      let b = at_second (IsSketchedBlock g s) bs.0 ys.0 i.0 y.0 bs.2 i.1 in
      let st = flat_cases started y.0.starts c y.2 in
      let n = in_second (IsStartOf g s) b.0.starts y.0.starts st.0 b.2.starts st.1 in
      let k = kept_start n.0 st.0 c n.2 st.2 in
      let u = to_block p i.0 bs.0 bs.1 (below bs.0 i.0 b.0 b.1) in
      let w = block_up p i.0 n.0 bs.0 b.0 k.0 bs.1 b.1 k.1 n.1 in
      (n.0, k.0, st.0, k.1, k.2, st.2, below s.programs p bs.0 bs.1, omega (arith, u, w))

  -- ** to a channel

  -- the number of the node of a channel
  channel_number : (j f : ℕ) (c : Channel) → Names g j c → Names g f (node g c) →
      of_node values (at (whole (first_of (slice_get s.channels j) j))) ≡ number (whole f)
  channel_number j f c names first =
      let x = first_named g s at handlers sketch j c names in
      ap (λ i. number (whole i)) (x.1 ∙ sketch.once x.0 f (node g c) x.2 first)

  -- among the edges to the nodes of channels is that to the node of each
  named_edge : (ns : List ℕ) (cs : List Channel) (c : Channel) (f : ℕ) → AreNamed g ns cs → IsIn c cs → Names g f (node g c) →
      (i : ℕ) × IsIn (at (whole i)) (nodes_of s at ns) × (number (whole i) ≡ number (whole f))
  named_edge ns cs c f names h first =
      let j = in_second (Names g) ns cs c names h in (
        first_of (slice_get s.channels j.0) j.0,
        map_in (λ n. at (whole (first_of (slice_get s.channels n) n))) ns j.0 j.1,
        channel_number j.0 f c j.2 first,
      )

  raises_up : (n : ℕ) (ns : List ℕ) (cs : List Channel) (c : Channel) (f : ℕ) (k : SketchedStart) → slice_get s.starts n ≡ Some k →
      (start_node s at n k).edges ≡ nodes_of s at ns → AreNamed g ns cs → IsIn c cs → Names g f (node g c) →
      number (start n) ≤ number (whole f)
  raises_up n ns cs c f k e same names h first =
      let x = named_edge ns cs c f names h first in
      let a = up (start n) (start_node s at n k) (whole x.0) (of_start n k e) (subst (IsIn (at (whole x.0))) (sym same) x.1) in
      let b = x.2 in
      omega (arith, a, b)

  thaws_up : (n : ℕ) (ps : List ℕ) (css : List (List Channel)) (c : Channel) (f : ℕ) → slice_get s.starts n ≡ Some (thaws ps) →
      Pointwise (AreNamed g) (map (read [] s.paired) ps) css → IsIn c (flat_map (λ (cs : List Channel). cs) css) → Names g f (node g c) →
      number (start n) ≤ number (whole f)
  thaws_up n ps css c f e names h first =
      let cs = flat_cases (λ (cs : List Channel). cs) css c h in
      let m =
      in_second (λ (m : ℕ) (cs : List Channel). AreNamed g (read [] s.paired m) cs) ps css cs.0
      (pointwise_map (AreNamed g) (read [] s.paired) ps css names) cs.1 in
      let j = in_second (Names g) (read [] s.paired m.0) cs.0 c m.2 cs.2 in
      let ns = read_in s.paired m.0 j.0 j.1 in
      let x = named_edge ns.0 cs.0 c f (subst (λ ns. AreNamed g ns cs.0) (read_found [] s.paired m.0 ns.0 ns.1) m.2) cs.2 first in
      let a =
      up (start n) (start_node s at n (thaws ps)) (place m.0) (of_start n (thaws ps) e)
      (map_in (λ m. at (place m)) (inside (length s.paired) ps) m.0 (inside_in (length s.paired) m.0 ps (below s.paired m.0 ns.0 ns.1) m.1)) in
      let b = up (place m.0) (place_node s at m.0 ns.0) (whole x.0) (of_place m.0 ns.0 ns.1) x.1 in
      let d = x.2 in
      omega (arith, a, b, d)

  start_up : (n : ℕ) (k : SketchedStart) (y : Start) (c : Channel) (f : ℕ) → slice_get s.starts n ≡ Some k →
      IsSketchedStart g s.paired k y → IsIn c (started y) →
      Names g f (node g c) → number (start n) ≤ number (whole f)
  start_up n nothing starts.nothing c f e is h first = absurd h
  start_up n nothing (starts.raises cs) c f e is h first = absurd is
  start_up n nothing (starts.makes cs) c f e is h first = absurd is
  start_up n nothing (starts.thaws css) c f e is h first = absurd is
  start_up n (raises ns) starts.nothing c f e is h first = absurd is
  start_up n (raises ns) (starts.raises cs) c f e is h first = raises_up n ns cs c f (raises ns) e refl is h first
  start_up n (raises ns) (starts.makes cs) c f e is h first = absurd is
  start_up n (raises ns) (starts.thaws css) c f e is h first = absurd is
  start_up n (makes ns) starts.nothing c f e is h first = absurd is
  start_up n (makes ns) (starts.raises cs) c f e is h first = absurd is
  start_up n (makes ns) (starts.makes cs) c f e is h first = raises_up n ns cs c f (makes ns) e refl is h first
  start_up n (makes ns) (starts.thaws css) c f e is h first = absurd is
  start_up n (thaws ps) starts.nothing c f e is h first = absurd is
  start_up n (thaws ps) (starts.raises cs) c f e is h first = absurd is
  start_up n (thaws ps) (starts.makes cs) c f e is h first = absurd is
  start_up n (thaws ps) (starts.thaws css) c f e is h first = thaws_up n ps css c f e is h first

  -- ** along an edge of the graph

  first_of_raised : (n : ℕ) (r : Raised) → slice_get g.raised n ≡ Some r →
      (i : ℕ) × (value_of s at values n ≡ number (whole i)) × Names g i (node g r.channel) × There (whole i)
  first_of_raised n r e =
      let x = first_named g s at handlers sketch n r.channel (get_map (λ (r : Raised). r.channel) g.raised n r e) in
      (x.0, ap (λ i. number (whole i)) x.1, x.2, x.3)

  own_over : (n i : ℕ) (r : Raised) → slice_get g.raised n ≡ Some r → Names g i (node g r.channel) → suc (number (whole i)) ≤ number (own n)
  own_over n i r e first = own_up n i r.channel (get_map (λ (r : Raised). r.channel) g.raised n r e) first

  program_over : (n i f p : ℕ) (r : Raised) (c : Channel) → slice_get g.raised n ≡ Some r → Names g i (node g r.channel) →
      IsIn p (running_at r) → IsIn c (started_by g p) →
      Names g f (node g c) → suc (number (whole i)) ≤ number (whole f)
  program_over n i f p r c e first runs h named_to =
      let k = raised_at g s sketch n r e in
      let a = own_over n i r e first in
      let x = program_up p c h in
      let b = runs_up n k.0 r k.1 p x.6 runs in
      let d = start_up x.0 x.1 x.2 c f x.3 x.4 x.5 named_to in
      let l = x.7 in
      omega (arith, a, b, d, l)

  binding_over : (n i f : ℕ) (r : Raised) (c : Channel) → slice_get g.raised n ≡ Some r → Names g i (node g r.channel) →
      IsIn c (filter (is_raised g) r.targets) →
      Names g f (node g c) → suc (number (whole i)) ≤ number (whole f)
  binding_over n i f r c e first leads named_to =
      let k = raised_at g s sketch n r e in
      let a = own_over n i r e first in
      let x = named_edge k.0.targets (filter (is_raised g) r.targets) c f k.1.is.targets leads named_to in
      let b =
      up (own n) (own_node s at n k.0) (whole x.0) (of_own n k.0 k.1.sketched)
      (inr (inr (append_right (programs_of s at k.0.handlers) (nodes_of s at k.0.targets) (at (whole x.0)) x.1))) in
      let d = x.2 in
      omega (arith, a, b, d)

  -- ** the table

  abbrev t : Table
  t = rank_table g s at values

  node_entry : (f : ℕ → ℕ) (n : ℕ) (rs : List Raised) (m : Channel) (w : ℕ) →
      ((i : ℕ) (r : Raised) → slice_get rs i ≡ Some r → node g r.channel ≡ m → f (n + i) ≡ w) →
      IsIn m (map (λ (r : Raised). node g r.channel) rs) → entry (node_table_from g f n rs) m ≡ w
  node_entry f n [] m w all h = absurd h
  node_entry f n (r ∷ rs) m w all h =
      by (same_channel (node g r.channel) m) refl h
      (node_entry f (suc n) rs m w (λ i x e is. (let k : suc n + i ≡ n + suc i = omega arith in ap f k ∙ all (suc i) x e is)))
    where
      by : (b : Bool) → same_channel (node g r.channel) m ≡ b →
          (m ≡ node g r.channel) ⊎ IsIn m (map (λ (r : Raised). node g r.channel) rs) →
          (IsIn m (map (λ (r : Raised). node g r.channel) rs) → entry (node_table_from g f (suc n) rs) m ≡ w) →
          cond b (f n) (entry (node_table_from g f (suc n) rs) m) ≡ w
      by true same h ih = let z : n ≡ n + 0 = omega arith in ap f z ∙ all 0 r refl (same_channel_true (node g r.channel) m same)
      by false same (inl e) ih = absurd (let x = same_channel_refl m in let y = ap (λ c. same_channel c m) e in cc)
      by false same (inr h) ih = ih h

  -- the rank of a node
  rank_is : (f : ℕ) (m : Channel) → Names g f m → IsIn m (graph_nodes g) → entry t m ≡ number (whole f)
  rank_is f m names h =
      node_entry (value_of s at values) 0 g.raised m (number (whole f))
      (λ n r e is.
      let x = first_of_raised n r e in
      let z : 0 + n ≡ n = omega arith in
      ap (value_of s at values) z ∙ (x.1 ∙ ap (λ i. number (whole i)) (sketch.once x.0 f m (subst (Names g x.0) is x.2) names)))
      h

  -- and that of a channel's node, by its number
  pub rank_at : (n : ℕ) (c : Channel) → Names g n c → entry t (node g c) ≡ value_of s at values n
  rank_at n c names =
      let r = map_get (λ (r : Raised). r.channel) g.raised n c names in
      let x = first_of_raised n r.0 r.1 in
      let h : IsIn (node g r.0.channel) (graph_nodes g) = get_in (graph_nodes g) n (node g r.0.channel) (get_map (λ (r : Raised). node g r.channel) g.raised n r.0 r.1) in
      subst (λ d. entry t (node g d) ≡ value_of s at values n) r.2 (rank_is x.0 (node g r.0.channel) x.2 h ∙ sym x.1)

  -- ** what the edges to a node make of the ranks

  -- where an edge begins
  begins_at : (a : Arrow) → IsIn a (arrows g) → IsIn a.from (graph_nodes g)
  begins_at a h = each_in (λ (a : Arrow). IsIn a.from (graph_nodes g)) (arrows g) (begins g) a h

  module _ (f : ℕ) (m : Channel) (names : Names g f m) where
    -- an edge leads from the node of a raised channel, and is below
    from_raised : (n : ℕ) (r : Raised) (a : Arrow) → slice_get g.raised n ≡ Some r → a.from ≡ node g r.channel → IsIn a (arrows g) →
        ((i : ℕ) → Names g i (node g r.channel) → suc (number (whole i)) ≤ number (whole f)) → above t a ≤ number (whole f)
    from_raised n r a e from h over =
        let x = first_of_raised n r e in
        let v = rank_is x.0 a.from (subst (Names g x.0) (sym from) x.2) (begins_at a h) in
        let l = over x.0 x.2 in
        omega (arith, v, l)

    named_to : (c k : Channel) → k ≡ node g c → k ≡ m → Names g f (node g c)
    named_to c k e is = subst (Names g f) (sym is ∙ e) names

    program_below : (n : ℕ) (r : Raised) (a : Arrow) → slice_get g.raised n ≡ Some r → IsIn a (arrows g) → a.to ≡ m →
        IsIn a (flat_map (arrows_by g r.channel) (running_at r)) → above t a ≤ number (whole f)
    program_below n r a e h to there =
        let p = flat_cases (arrows_by g r.channel) (running_at r) a there in
        let c = map_cases (arrow g r.channel (causes.program p.0)) (started_by g p.0) a p.2 in
        from_raised n r a e (ap (λ (a : Arrow). a.from) c.2) h
        (λ i first. program_over n i f p.0 r c.0 e first p.1 c.1 (named_to c.0 a.to (ap (λ (a : Arrow). a.to) c.2) to))

    binding_below : (n : ℕ) (r : Raised) (a : Arrow) → slice_get g.raised n ≡ Some r → IsIn a (arrows g) → a.to ≡ m →
        IsIn a (map (arrow g r.channel causes.binding) (filter (is_raised g) r.targets)) → above t a ≤ number (whole f)
    binding_below n r a e h to there =
        let c = map_cases (arrow g r.channel causes.binding) (filter (is_raised g) r.targets) a there in
        from_raised n r a e (ap (λ (a : Arrow). a.from) c.2) h
        (λ i first. binding_over n i f r c.0 e first c.1 (named_to c.0 a.to (ap (λ (a : Arrow). a.to) c.2) to))

    edge_below : (a : Arrow) → IsIn a (arrows g) → a.to ≡ m → above t a ≤ number (whole f)
    edge_below a h to =
        let r = flat_cases (arrows_from g) g.raised a h in
        let n = in_get g.raised r.0 r.1 in
        by n.0 r.0 n.1
        (append_cases (flat_map (arrows_by g r.0.channel) (running_at r.0)) (map (arrow g r.0.channel causes.binding) (filter (is_raised g) r.0.targets)) a r.2)
      where
        by : (n : ℕ) (r : Raised) → slice_get g.raised n ≡ Some r →
            IsIn a (flat_map (arrows_by g r.channel) (running_at r)) ⊎ IsIn a (map (arrow g r.channel causes.binding) (filter (is_raised g) r.targets)) →
            above t a ≤ number (whole f)
        by n r e (inl there) = program_below n r a e h to there
        by n r e (inr there) = binding_below n r a e h to there

    all_below : rank_by (arrows g) t m ≤ number (whole f)
    all_below =
        most_of_each (above t) (filter (λ (a : Arrow). same_channel a.to m) (arrows g)) (number (whole f))
        (λ a h.
        let k = filtered_kept (λ (a : Arrow). same_channel a.to m) (arrows g) a h in
        edge_below a k.1 (same_channel_true a.to m k.0))

    arrives_within : Arrives f (number (whole f)) → number (whole f) ≤ rank_by (arrows g) t m
    arrives_within x =
        let a = x.0 in
        let to : a.to ≡ m = one_found a.to m (slice_get (channels_in g) f) x.2 names in
        let v = rank_is x.3 a.from x.4 (begins_at a x.1) in
        let same : same_channel a.to m ≡ true = subst (λ c. same_channel a.to c ≡ true) to (same_channel_refl a.to) in
        let l =
        greatest_in (above t) (filter (λ (a : Arrow). same_channel a.to m) (arrows g)) a
        (filter_in (λ (a : Arrow). same_channel a.to m) (arrows g) a same x.1) in
        let e = x.5 in
        omega (arith, l, v, e)

    reached_within : Reached (Arrives f) (number (whole f)) → number (whole f) ≤ rank_by (arrows g) t m
    reached_within (inl e) = omega (arith, e)
    reached_within (inr x) = arrives_within x

    rank_by_is : There (whole f) → number (whole f) ≡ rank_by (arrows g) t m
    rank_by_is there =
        let a = all_below in
        let b = reached_within (whole_from f there) in
        omega (arith, a, b)

  node_map : (f : ℕ → ℕ) (h : Channel → ℕ) (n : ℕ) (rs : List Raised) →
      ((i : ℕ) (r : Raised) → slice_get rs i ≡ Some r → f (n + i) ≡ h (node g r.channel)) →
      node_table_from g f n rs ≡ map {B = Channel × ℕ} (λ (c : Channel). (c, h c)) (map (λ (r : Raised). node g r.channel) rs)
  node_map f h n [] all = refl
  node_map f h n (r ∷ rs) all =
      let z : n ≡ n + 0 = omega arith in
      let a : f n ≡ h (node g r.channel) = ap f z ∙ all 0 r refl in
      let b = node_map f h (suc n) rs (λ i x e. (let k : suc n + i ≡ n + suc i = omega arith in ap f k ∙ all (suc i) x e)) in
      ap (λ m. (node g r.channel, m) ∷ node_table_from g f (suc n) rs) a ∙ ap (λ (ts : Table). (node g r.channel, h (node g r.channel)) ∷ ts) b

  ranking : IsRanking g t
  ranking =
      node_map (value_of s at values) (rank_by (arrows g) t) 0 g.raised
      (λ n r e.
      let x = first_of_raised n r e in
      let z : 0 + n ≡ n = omega arith in
      ap (value_of s at values) z ∙ (x.1 ∙ rank_by_is x.0 (node g r.channel) x.2 x.3))

pub chains_are_ranks : ChainsAreRanks
chains_are_ranks g s at nodes values sketch numbered ranks = ranking g s at g.most_handlers nodes values sketch numbered ranks
