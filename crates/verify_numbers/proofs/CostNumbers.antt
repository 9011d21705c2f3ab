-- Numbers that solve the rules of costs are the costs, capped.
use Rattle.std.proofs.Common.{◌≡◌, inl, inr, ◌⊎◌, refl, sym, ap, subst, ◌∙◌, ℕ, zero, suc, ◌+◌, ◌*◌, ◌-◌, ◌<◌, min, Bool, true, false, cond, List, [], ◌∷◌, ◌++◌, length, map, Option, None, Some, slice_get, arith}
use Rattle.std.specs.Prelude.{nat_lt}
use Rattle.std.specs.List.{filter, flat_map}
use Rattle.std.proofs.lemmas.Bool.{ltb-true, ltb-false}
use Rattle.ui_machine.specs.Seq.{read, listed}
use Rattle.ui_machine.specs.Seq as seq
use Rattle.law_typing.specs.Graph.Channels.{Channel, constructed, property, signal}
use Rattle.law_typing.specs.Graph.{Graph, Raised, Start, Stretch}
use Rattle.law_typing.specs.Graph as starts
use Rattle.law_typing.specs.Graph.Tables.{Table, entry, Tables, of_program}
use Rattle.law_typing.specs.Graph.Tables as tables
use Rattle.law_typing.specs.Graph.Ranks.{is_raised}
use Rattle.law_typing.specs.Graph.Costs.{other_end, with_other, node_cost, start_cost, starts_cost, before_last, only_last, passes_cost, stretch_cost, path_costs, program_cost, programs_cost, targets_cost, emission_cost, cost_at, channel_cost}
use Rattle.law_typing.specs.Verdict.{most_bound}
use Rattle.verify_order.specs.Numbers.{Solves, greatest, number_by, of_node, total}
use Rattle.verify_sketches.specs.Pointwise.{Pointwise, inside}
use Rattle.verify_sketches.specs.Sketches.{AreNamed, IsQuiet, IsRaisedProperty, IsSketch, IsSketchedBlock, IsSketchedStart, IsStartOf, Names, NamesIf, SamePrograms, Sketch, SketchedBlock, SketchedChannel, SketchedStart, emits_at, nothing, raises, makes, thaws}
use Rattle.verify_sketches.specs.Numbered.{IsNumbered, IsPart, Node, Part, block, block_node, blocks, blocks_node, connected, connected_node, costs_in, edges_in, first_block, first_of, group, group_node, next, next_node, nodes_of, of_block, of_blocks, of_connected, of_group, of_next, of_own, of_passes, of_place, of_program as of_program_part, of_stages, of_start, one_if, own, own_node, passes, passes_node, place, place_node, program, program_node, programs_of, stages, stages_node, start, start_node, starts_of, whole}
use Rattle.verify_numbers.specs.Tables.{CostsAreSolved, cost_tables}
use Rattle.verify_numbers.proofs.SketchLists.{Like, at_second, found, greatest_like, inside_greatest, inside_total, itself, listed_map, pointwise_map, read_found, read_past, same_length, table_map, total_append, total_like, times_like}
use Rattle.verify_numbers.proofs.SketchParts.{IsChannelAt, first_node, greatest_flat, greatest_of_all, mapped, most_of_programs, named, node_alone, node_both, pointwise_before, pointwise_last, raised_at, sum_of_programs, table_entry, table_none, value_is}

both_times : (n a b : ℕ) → n * a + n * b ≡ n * (a + b)
both_times n a b = grind arith

module _ (g : Graph) (s : Sketch) (at : Part → ℕ) (nodes : List Node) (values : List ℕ) (cap : ℕ) (sketch : IsSketch g s)
    (numbered : IsNumbered s at g.most_handlers nodes)
    (solves : Solves (costs_in nodes) cap (edges_in nodes) values) where
  abbrev t : Tables
  t = cost_tables g at values

  abbrev number : Part → ℕ
  number x = of_node values (at x)

  is : (x : Part) (y : Node) → IsPart s at g.most_handlers x y → of_node values (at x) ≡ number_by y.cost cap (of_node values) y.edges
  is x y part = value_is (λ (y : Node). y.cost) cap s at g.most_handlers nodes values numbered solves x y part

  -- ** programs

  programs_like : (ps : List ℕ) → Like cap (total (of_node values) (programs_of s at ps)) (programs_cost t ps)
  programs_like ps = sum_of_programs g s at values cap sketch ps

  most_of_programs_like : (ps : List ℕ) → Like cap (greatest (of_node values) (programs_of s at ps)) (tables.greatest (of_program t) ps)
  most_of_programs_like ps = most_of_programs g s at values cap sketch ps

  -- ** nodes of channels

  entry_is : (n : ℕ) (c : Channel) → Names g n c → entry t.channels c ≡ number (own n)
  entry_is n c e =
      table_entry (λ n. of_node values (at (own n))) 0 n g.raised c sketch.once e ∙ (let z : 0 + n ≡ n = omega arith in ap (λ n. of_node values (at (own n))) z)

  first_is : (n : ℕ) (k : SketchedChannel) (i : ℕ) → slice_get s.channels n ≡ Some k → k.first ≡ i →
      number (whole (first_of (slice_get s.channels n) n)) ≡ number (whole i)
  first_is n k i e f = ap (λ o. number (whole (first_of o n))) e ∙ ap (λ i. number (whole i)) f

  both_ends : (n o : ℕ) (k : SketchedChannel) → slice_get s.channels n ≡ Some k → k.other ≡ Some o →
      number (whole (first_of (slice_get s.channels n) n)) ≡ min (number (own n) + number (own o) + 1) cap
  both_ends n o k e is_other = by (node_both g s at g.most_handlers sketch n o k e is_other)
    where
      by : ((k.first ≡ n) × IsPart s at g.most_handlers (whole n) (first_node at n true (Some o) k.emits))
          ⊎ ((emits : Bool) × (k.first ≡ o) × IsPart s at g.most_handlers (whole o) (first_node at o true (Some n) emits)) →
          number (whole (first_of (slice_get s.channels n) n)) ≡ min (number (own n) + number (own o) + 1) cap
      by (inl x) =
          let v = is (whole n) (first_node at n true (Some o) k.emits) x.1 in
          let f = first_is n k n e x.0 in
          omega (arith, v, f)
      by (inr x) =
          let v = is (whole o) (first_node at o true (Some n) x.0) x.2 in
          let f = first_is n k o e x.1 in
          omega (arith, v, f)

  one_end : (n : ℕ) (k : SketchedChannel) → slice_get s.channels n ≡ Some k → k.other ≡ None →
      number (whole (first_of (slice_get s.channels n) n)) ≡ min (number (own n)) cap
  one_end n k e alone =
      let x = node_alone g s at g.most_handlers sketch n k e alone in
      let v = is (whole n) (first_node at n true None k.emits) x.1 in
      let f = first_is n k n e x.0 in
      omega (arith, v, f)

  node_like : (n : ℕ) (c : Channel) → Names g n c → Like cap (number (whole (first_of (slice_get s.channels n) n))) (node_cost g t c)
  node_like n c names = at_channel (named g s sketch n c names)
    where
      at_channel : ((k : SketchedChannel) × (r : Raised) × (IsChannelAt g s n k r) × (r.channel ≡ c)) →
          Like cap (number (whole (first_of (slice_get s.channels n) n))) (node_cost g t c)
      at_channel x =
          let k = x.0 in
          by k x.2.sketched k.other (other_end g c) refl (subst (λ d. NamesIf g k.other (other_end g d)) x.3 x.2.is.other)
        where
          by : (k : SketchedChannel) → slice_get s.channels n ≡ Some k → (o : Option ℕ) (end : Option Channel) → k.other ≡ o →
              NamesIf g o end →
              Like cap (number (whole (first_of (slice_get s.channels n) n))) (with_other t (entry t.channels c) end)
          by k e None None is_other names_it =
              let v = one_end n k e is_other in
              let i = entry_is n c names in
              omega (arith, v, i)
          by k e None (Some end) is_other names_it = absurd names_it
          by k e (Some o) None is_other names_it = absurd names_it
          by k e (Some o) (Some end) is_other names_it =
              let v = both_ends n o k e is_other in
              let i = entry_is n c names in
              let j = entry_is o end names_it in
              omega (arith, v, i, j)

  abbrev node_number : ℕ → ℕ
  node_number n = at (whole (first_of (slice_get s.channels n) n))

  nodes_like : (ns : List ℕ) (cs : List Channel) → AreNamed g ns cs →
      Like cap (total (of_node values) (nodes_of s at ns)) (seq.total (node_cost g t) cs)
  nodes_like ns cs names = total_like (Names g) cap (of_node values) node_number (node_cost g t) ns cs names node_like

  most_of_nodes_like : (ns : List ℕ) (cs : List Channel) → AreNamed g ns cs →
      Like cap (greatest (of_node values) (nodes_of s at ns)) (tables.greatest (node_cost g t) cs)
  most_of_nodes_like ns cs names = greatest_like (Names g) cap (of_node values) node_number (node_cost g t) ns cs names node_like

  -- ** starts

  place_like : (n : ℕ) (cs : List Channel) → AreNamed g (read [] s.paired n) cs → nat_lt n (length s.paired) ≡ true →
      Like cap (number (place n)) (seq.total (node_cost g t) cs)
  place_like n cs names b =
      let x = found s.paired n (ltb-true n (length s.paired) b) in
      let v = is (place n) (place_node s at n x.0) (of_place n x.0 x.1) in
      let l = nodes_like x.0 cs (subst (λ ns. AreNamed g ns cs) (read_found [] s.paired n x.0 x.1) names) in
      omega (arith, v, l)

  place_none : (n : ℕ) (cs : List Channel) → AreNamed g (read [] s.paired n) cs → nat_lt n (length s.paired) ≡ false →
      seq.total (node_cost g t) cs ≡ 0
  place_none n cs names b = by cs (subst (λ ns. AreNamed g ns cs) (read_past [] s.paired n (ltb-false n (length s.paired) b)) names)
    where
      by : (cs : List Channel) → AreNamed g [] cs → seq.total (node_cost g t) cs ≡ 0
      by [] names = refl
      by (c ∷ cs) names = absurd names

  thaw_like : (places : List ℕ) (css : List (List Channel)) → Pointwise (AreNamed g) (map (read [] s.paired) places) css →
      Like cap (greatest (of_node values) (map (λ n. at (place n)) (inside (length s.paired) places))) (tables.greatest (λ cs. seq.total (node_cost g t) cs) css)
  thaw_like places css names =
      inside_greatest (λ (n : ℕ) (cs : List Channel). AreNamed g (read [] s.paired n) cs) cap (of_node values) (λ n. at (place n))
      (λ cs. seq.total (node_cost g t) cs)
      (length s.paired) place_like place_none places css (pointwise_map (AreNamed g) (read [] s.paired) places css names)

  kept_like : (n : ℕ) (k : SketchedStart) (i : Start) → slice_get s.starts n ≡ Some k → IsSketchedStart g s.paired k i →
      Like cap (number (start n)) (start_cost g t i)
  kept_like n nothing starts.nothing e h = let v = is (start n) (start_node s at n nothing) (of_start n nothing e) in omega (arith, v)
  kept_like n nothing (starts.raises cs) e h = absurd h
  kept_like n nothing (starts.makes cs) e h = absurd h
  kept_like n nothing (starts.thaws css) e h = absurd h
  kept_like n (raises ns) starts.nothing e h = absurd h
  kept_like n (raises ns) (starts.raises cs) e h =
      let v = is (start n) (start_node s at n (raises ns)) (of_start n (raises ns) e) in
      let l = most_of_nodes_like ns cs h in
      omega (arith, v, l)
  kept_like n (raises ns) (starts.makes cs) e h = absurd h
  kept_like n (raises ns) (starts.thaws css) e h = absurd h
  kept_like n (makes ns) starts.nothing e h = absurd h
  kept_like n (makes ns) (starts.raises cs) e h = absurd h
  kept_like n (makes ns) (starts.makes cs) e h =
      let v = is (start n) (start_node s at n (makes ns)) (of_start n (makes ns) e) in
      let l = nodes_like ns cs h in
      omega (arith, v, l)
  kept_like n (makes ns) (starts.thaws css) e h = absurd h
  kept_like n (thaws ps) starts.nothing e h = absurd h
  kept_like n (thaws ps) (starts.raises cs) e h = absurd h
  kept_like n (thaws ps) (starts.makes cs) e h = absurd h
  kept_like n (thaws ps) (starts.thaws css) e h =
      let v = is (start n) (start_node s at n (thaws ps)) (of_start n (thaws ps) e) in
      let l = thaw_like ps css h in
      omega (arith, v, l)

  start_like : (n : ℕ) (i : Start) → IsStartOf g s n i → nat_lt n (length s.starts) ≡ true → Like cap (number (start n)) (start_cost g t i)
  start_like n i h b =
      let x = found s.starts n (ltb-true n (length s.starts) b) in
      kept_like n x.0 i x.1 (subst (λ k. IsSketchedStart g s.paired k i) (read_found nothing s.starts n x.0 x.1) h)

  start_none : (n : ℕ) (i : Start) → IsStartOf g s n i → nat_lt n (length s.starts) ≡ false → start_cost g t i ≡ 0
  start_none n i h b = by i (subst (λ k. IsSketchedStart g s.paired k i) (read_past nothing s.starts n (ltb-false n (length s.starts) b)) h)
    where
      by : (i : Start) → IsSketchedStart g s.paired nothing i → start_cost g t i ≡ 0
      by starts.nothing h = refl
      by (starts.raises cs) h = absurd h
      by (starts.makes cs) h = absurd h
      by (starts.thaws css) h = absurd h

  starts_like : (ns : List ℕ) (is : List Start) → Pointwise (IsStartOf g s) ns is →
      Like cap (total (of_node values) (starts_of s at ns) + length ns) (starts_cost g t is)
  starts_like ns is all =
      inside_total (IsStartOf g s) cap (of_node values) (λ n. at (start n)) (start_cost g t) (length s.starts) start_like start_none ns is
      all

  -- ** blocks

  paths_length : (i : ℕ) (ys : List Stretch) → length (path_costs g t i ys) ≡ length ys
  paths_length i [] = refl
  paths_length i (y ∷ ys) = let e = paths_length (suc i) ys in omega (arith, e)

  module _ (p : ℕ) (bs : List SketchedBlock) (there : slice_get s.programs p ≡ Some bs) where
    passes_like : (i : ℕ) (b : SketchedBlock) (y : Stretch) → slice_get bs i ≡ Some b → IsSketchedBlock g s b y →
        Like cap (number (passes p i)) (passes_cost g t y.passes y)
    passes_like i b y e h =
        let v = is (passes p i) (passes_node s at p i b) (of_passes p i bs b there e) in
        let l = starts_like (before_last b.starts) (before_last y.starts) (pointwise_before (IsStartOf g s) b.starts y.starts h.starts) in
        let m =
        times_like cap b.passes (total (of_node values) (starts_of s at (before_last b.starts)) + length (before_last b.starts))
        (starts_cost g t (before_last y.starts)) l in
        let d = both_times b.passes (total (of_node values) (starts_of s at (before_last b.starts))) (length (before_last b.starts)) in
        let n = ap (λ n. n * starts_cost g t (before_last y.starts)) h.passes in
        passed v d m n
      where
        passed : {a b c d e : ℕ} → a ≡ min b cap → b ≡ c → Like cap c d → d ≡ e → Like cap a e
        passed p q r w = omega (arith, p, q, r, w)

    next_like : (i : ℕ) (b : SketchedBlock) (y : Stretch) (later : List ℕ) → slice_get bs i ≡ Some b → b.next ≡ y.next →
        length bs ≡ suc i + length later →
        ((j k : ℕ) → k ≡ suc i + j → j < length later → Like cap (number (block p k)) (read 0 later j)) →
        Like cap (number (next p i)) (tables.greatest (λ to. read 0 later (to - suc i)) y.next)
    next_like i b y later e same count ih =
        let v = is (next p i) (next_node at p (length bs) i b) (of_next p i bs b there e) in
        let l =
        inside_greatest (λ (x to : ℕ). x ≡ suc i + (to - suc i)) cap (of_node values) (λ k. at (block p k))
        (λ to. read 0 later (to - suc i)) (length bs)
        (λ x to f b. (let h = ltb-true x (length bs) b in ih (to - suc i) x f (omega (arith, h, f, count))))
        (λ x to f b. (let h = ltb-false x (length bs) b in read_past 0 later (to - suc i) (omega (arith, h, f, count))))
        (map (λ to. suc i + (to - suc i)) b.next) b.next (mapped (λ to. suc i + (to - suc i)) b.next) in
        let w = ap (tables.greatest (λ to. read 0 later (to - suc i))) same in
        omega (arith, v, l, w)

    block_like : (i : ℕ) (b : SketchedBlock) (y : Stretch) (later : List ℕ) → slice_get bs i ≡ Some b → IsSketchedBlock g s b y →
        length bs ≡ suc i + length later →
        ((j k : ℕ) → k ≡ suc i + j → j < length later → Like cap (number (block p k)) (read 0 later j)) →
        Like cap (number (block p i)) (stretch_cost g t y + tables.greatest (λ to. read 0 later (to - suc i)) y.next)
    block_like i b y later e h count ih =
        let v = is (block p i) (block_node s at p i b) (of_block p i bs b there e) in
        let a = passes_like i b y e h in
        let n = next_like i b y later e h.next count ih in
        let l = starts_like (only_last b.starts) (only_last y.starts) (pointwise_last (IsStartOf g s) b.starts y.starts h.starts) in
        omega (arith, v, a, n, l)

    paths_like : (i : ℕ) (xs : List SketchedBlock) (ys : List Stretch) → Pointwise (IsSketchedBlock g s) xs ys →
        ((j : ℕ) (b : SketchedBlock) → slice_get xs j ≡ Some b → slice_get bs (i + j) ≡ Some b) → length bs ≡ i + length xs →
        (j k : ℕ) → k ≡ i + j → j < length (path_costs g t i ys) → Like cap (number (block p k)) (read 0 (path_costs g t i ys) j)
    paths_like i [] [] all these count j k e h = absurd (omega (arith, h))
    paths_like i [] (y ∷ ys) all these count j k e h = absurd all
    paths_like i (x ∷ xs) [] all these count j k e h = absurd all
    paths_like i (x ∷ xs) (y ∷ ys) all these count j k e h =
        by j e h
        (paths_like (suc i) xs ys all.1
        (λ j b f. (let m : i + suc j ≡ suc i + j = omega arith in subst (λ n. slice_get bs n ≡ Some b) m (these (suc j) b f)))
        (omega (arith, count)))
      where
        by : (j : ℕ) → k ≡ i + j → j < length (path_costs g t i (y ∷ ys)) →
            ((j k : ℕ) → k ≡ suc i + j → j < length (path_costs g t (suc i) ys) → Like cap (number (block p k)) (read 0 (path_costs g t (suc i) ys) j)) →
            Like cap (number (block p k)) (read 0 (path_costs g t i (y ∷ ys)) j)
        by zero e h ih =
            let here : i + 0 ≡ i = omega arith in
            let m = same_length (IsSketchedBlock g s) xs ys all.1 in
            let n = paths_length (suc i) ys in
            let l =
            block_like i x y (path_costs g t (suc i) ys) (subst (λ n. slice_get bs n ≡ Some x) here (these 0 x refl)) all.0
            (omega (arith, count, m, n)) ih in
            let w = ap (λ n. min (number (block p n)) cap) (e ∙ here) in
            w ∙ l
        by (suc j) e h ih = ih j k (omega (arith, e)) (omega (arith, h))

    program_is : (ys : List Stretch) → Pointwise (IsSketchedBlock g s) bs ys → number (program p) ≡ min (program_cost g t ys) cap
    program_is ys all =
        by bs ys (is (program p) (program_node at p bs) (of_program_part p bs there))
        (is (blocks p) (blocks_node at p bs) (of_blocks p bs there)) all
        (λ h. paths_like 0 bs ys all (λ j b f. (let m : j ≡ 0 + j = omega arith in subst (λ n. slice_get bs n ≡ Some b) m f)) (omega arith) 0 0 (omega arith) h)
      where
        by : (xs : List SketchedBlock) (ys : List Stretch) →
            number (program p) ≡ min (1 * total (of_node values) (first_block at p (length xs) ++ at (blocks p) ∷ []) + 0) cap →
            number (blocks p) ≡ min (0 * greatest (of_node values) (listed (λ b. at (block p b)) (length bs)) + 0) cap →
            Pointwise (IsSketchedBlock g s) xs ys →
            (0 < length (path_costs g t 0 ys) → Like cap (number (block p 0)) (program_cost g t ys)) →
            number (program p) ≡ min (program_cost g t ys) cap
        by [] [] v w all like = omega (arith, v, w)
        by [] (y ∷ ys) v w all like = absurd all
        by (x ∷ xs) [] v w all like = absurd all
        by (x ∷ xs) (y ∷ ys) v w all like = let l = like (omega arith) in omega (arith, v, w, l)

  -- ** channels

  group_like : (x n : ℕ) → x ≡ n → nat_lt x (length s.groups) ≡ true →
      Like cap (number (group x)) (tables.greatest (of_program t) (read [] s.groups n))
  group_like x n same b =
      let y = found s.groups x (ltb-true x (length s.groups) b) in
      let v = is (group x) (group_node s at x y.0) (of_group x y.0 y.1) in
      let l = most_of_programs_like y.0 in
      let r = ap (tables.greatest (of_program t)) (sym (read_found [] s.groups x y.0 y.1) ∙ ap (read [] s.groups) same) in
      omega (arith, v, l, r)

  group_none : (x n : ℕ) → x ≡ n → nat_lt x (length s.groups) ≡ false → tables.greatest (of_program t) (read [] s.groups n) ≡ 0
  group_none x n same b =
      ap (tables.greatest (of_program t)) (ap (read [] s.groups) (sym same) ∙ read_past [] s.groups x (ltb-false x (length s.groups) b))

  groups_like : (gs ps : List ℕ) → SamePrograms (flat_map (read [] s.groups) gs) ps →
      Like cap (greatest (of_node values) (map (λ n. at (group n)) (inside (length s.groups) gs))) (tables.greatest (of_program t) ps)
  groups_like gs ps same =
      let l =
      inside_greatest (λ (x y : ℕ). x ≡ y) cap (of_node values) (λ n. at (group n))
      (λ n. tables.greatest (of_program t) (read [] s.groups n)) (length s.groups)
      group_like group_none gs gs (itself gs) in
      let f = greatest_flat (of_program t) (read [] s.groups) gs in
      let a = greatest_of_all (of_program t) (flat_map (read [] s.groups) gs) ps same.there in
      let b = greatest_of_all (of_program t) ps (flat_map (read [] s.groups) gs) same.back in
      omega (arith, l, f, a, b)

  connected_like : (n : ℕ) (k : SketchedChannel) (r : Raised) → IsChannelAt g s n k r →
      Like cap (number (connected n)) (g.most_handlers * tables.greatest (of_program t) r.connectable)
  connected_like n k r x =
      let v = is (connected n) (connected_node s at g.most_handlers n k) (of_connected n k x.sketched) in
      let l =
      times_like cap g.most_handlers (greatest (of_node values) (map (λ n. at (group n)) (inside (length s.groups) k.groups)))
      (tables.greatest (of_program t) r.connectable)
      (groups_like k.groups r.connectable x.is.connectable) in
      omega (arith, v, l)

  stages_like : (n : ℕ) (k : SketchedChannel) (r : Raised) → IsChannelAt g s n k r →
      Like cap (number (stages n)) (r.stages * programs_cost t r.class_handler)
  stages_like n k r x =
      let v = is (stages n) (stages_node s at n k) (of_stages n k x.sketched) in
      let l =
      times_like cap k.stages (total (of_node values) (programs_of s at k.class_handler)) (programs_cost t k.class_handler)
      (programs_like k.class_handler) in
      let a = ap (λ m. m * programs_cost t k.class_handler) x.is.stages in
      let b = ap (λ qs. r.stages * programs_cost t qs) x.is.class_handler in
      omega (arith, v, l, a, b)

  -- a target that is not raised costs its transfer alone
  no_end : (c : Channel) → is_raised g c ≡ false → (o : Option Channel) → other_end g c ≡ o → o ≡ None
  no_end c none None e = refl
  no_end c none (Some end) e = absurd (by c none (sketch.ends c end e))
    where
      by : (c : Channel) → is_raised g c ≡ false → IsRaisedProperty g c → ⊥
      by (constructed i) none there = there
      by (property i j) none there = cc
      by (signal i j) none there = there

  pub not_there : (c : Channel) → is_raised g c ≡ false → node_cost g t c ≡ 0
  not_there c none =
      ap (with_other t (entry t.channels c)) (no_end c none (other_end g c) refl) ∙ table_none (λ n. of_node values (at (own n))) 0 g.raised c none

  targets_split : (cs : List Channel) → targets_cost g t cs ≡ length cs + seq.total (node_cost g t) (filter (is_raised g) cs)
  targets_split [] = refl
  targets_split (c ∷ cs) = by (is_raised g c) refl (targets_split cs)
    where
      by : (b : Bool) → is_raised g c ≡ b → targets_cost g t cs ≡ length cs + seq.total (node_cost g t) (filter (is_raised g) cs) →
          (1 + node_cost g t c) + targets_cost g t cs ≡ suc (length cs) + seq.total (node_cost g t) (cond b (c ∷ filter (is_raised g) cs) (filter (is_raised g) cs))
      by true e ih = omega (arith, ih)
      by false e ih = let z = not_there c e in omega (arith, ih, z)

  targets_like : (n : ℕ) (k : SketchedChannel) (r : Raised) → IsChannelAt g s n k r →
      Like cap (total (of_node values) (nodes_of s at k.targets) + k.transfers) (targets_cost g t r.targets)
  targets_like n k r x =
      let l = nodes_like k.targets (filter (is_raised g) r.targets) x.is.targets in
      let e = targets_split r.targets in
      let m = x.is.transfers in
      omega (arith, l, e, m)

  handlers_like : (n : ℕ) (k : SketchedChannel) (r : Raised) → IsChannelAt g s n k r →
      Like cap (total (of_node values) (programs_of s at k.handlers)) (programs_cost t r.handlers)
  handlers_like n k r x = programs_like k.handlers ∙ ap (λ qs. min (programs_cost t qs) cap) x.is.handlers

  -- the number of a channel's own node
  own_is : (n : ℕ) (k : SketchedChannel) (r : Raised) → IsChannelAt g s n k r →
      number (own n)
      ≡ min
      (number (stages n) + number (connected n) + total (of_node values) (programs_of s at k.handlers) + total (of_node values) (nodes_of s at k.targets)
      + one_if k.emits + k.transfers)
      cap
  own_is n k r x =
      let v = is (own n) (own_node s at n k) (of_own n k x.sketched) in
      let a = total_append (of_node values) (programs_of s at k.handlers) (nodes_of s at k.targets) in
      omega (arith, v, a)

  emission_is : (n : ℕ) (k : SketchedChannel) (r : Raised) → IsChannelAt g s n k r → k.emits ≡ true →
      number (own n) ≡ min (emission_cost g t r) cap
  emission_is n k r x emits =
      let v = own_is n k r x in
      let a = stages_like n k r x in
      let b = connected_like n k r x in
      let c = handlers_like n k r x in
      let d = targets_like n k r x in
      let e = ap one_if emits in
      omega (arith, v, a, b, c, d, e)

  quiet_is : (n : ℕ) (k : SketchedChannel) (r : Raised) → IsChannelAt g s n k r → k.emits ≡ false → r.class_handler ≡ [] →
      r.connectable ≡ [] → r.targets ≡ [] →
      number (own n) ≡ min (programs_cost t r.handlers) cap
  quiet_is n k r x emits no_class none_connected no_targets =
      let v = own_is n k r x in
      let a = stages_like n k r x in
      let b = connected_like n k r x in
      let c = handlers_like n k r x in
      let d = targets_like n k r x in
      let e = ap one_if emits in
      let p = ap (λ qs. r.stages * programs_cost t qs) no_class in
      let q = ap (λ qs. g.most_handlers * tables.greatest (of_program t) qs) none_connected in
      let w = ap (targets_cost g t) no_targets in
      omega (arith, v, a, b, c, d, e, p, q, w)

  channel_is : (n : ℕ) (k : SketchedChannel) (r : Raised) → IsChannelAt g s n k r → number (own n) ≡ min (channel_cost g t r) cap
  channel_is n k r x = by r.channel x.is.emits x.is.quiet
    where
      by : (c : Channel) → k.emits ≡ emits_at c → IsQuiet c r → number (own n) ≡ min (cost_at g t r c) cap
      by (constructed i) emits quiet = quiet_is n k r x emits quiet.0 quiet.1 quiet.2
      by (property i j) emits quiet = emission_is n k r x emits
      by (signal i j) emits quiet = emission_is n k r x emits

  channels_are : t.channels ≡ map (λ (r : Raised). (r.channel, min (channel_cost g t r) cap)) g.raised
  channels_are =
      table_map (λ n. of_node values (at (own n))) (λ r. min (channel_cost g t r) cap) 0 g.raised
      (λ n r e.
      let k = raised_at g s sketch n r e in
      let z : 0 + n ≡ n = omega arith in
      ap (λ n. of_node values (at (own n))) z ∙ channel_is n k.0 r k.1)

  programs_are : t.programs ≡ map (λ (ys : List Stretch). min (program_cost g t ys) cap) g.programs
  programs_are =
      listed_map (λ p. of_node values (at (program p))) (λ (ys : List Stretch). min (program_cost g t ys) cap) g.programs
      (λ p ys e.
      let x = at_second (Pointwise (IsSketchedBlock g s)) s.programs g.programs p ys sketch.programs e in
      program_is p x.0 x.1 ys x.2)

  -- the node of a channel's number has its cost, capped
  pub node_cost_at : (n : ℕ) (c : Channel) → Names g n c → number (whole (first_of (slice_get s.channels n) n)) ≡ min (node_cost g t c) cap
  node_cost_at n c names =
      let l = node_like n c names in
      let w = solves.within (at (whole (first_of (slice_get s.channels n) n))) in
      omega (arith, l, w)

pub costs_are_solved : CostsAreSolved
costs_are_solved g s at nodes values sketch numbered solves = record {
  channels = channels_are g s at nodes values (1 + most_bound) sketch numbered solves;
  programs = programs_are g s at nodes values (1 + most_bound) sketch numbered solves;
}
