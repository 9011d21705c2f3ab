-- Numbers that solve the rules of depths are the depths.
use Rattle.std.proofs.Common.{◌≡◌, inl, inr, ◌⊎◌, refl, sym, ap, subst, ◌∙◌, ℕ, zero, suc, ◌+◌, ◌*◌, ◌-◌, ◌<◌, ◌≤◌, min, max, Bool, true, false, cond, List, [], ◌∷◌, ◌++◌, length, map, Option, None, Some, slice_get, arith}
use Rattle.std.specs.Prelude.{nat_lt}
use Rattle.std.specs.List.{filter, find, flat_map}
use Rattle.std.proofs.lemmas.Bool.{ltb-true, ltb-false}
use Rattle.ui_machine.specs.Seq.{read, listed}
use Rattle.law_typing.specs.Graph.Channels.{Channel, constructed, property, signal, same_channel}
use Rattle.law_typing.specs.Graph.{Graph, Raised, Start, Stretch}
use Rattle.law_typing.specs.Graph as starts
use Rattle.law_typing.specs.Graph.Tables.{Table, entry, Tables, of_program}
use Rattle.law_typing.specs.Graph.Tables as tables
use Rattle.law_typing.specs.Graph.Ranks.{is_raised, running_at}
use Rattle.law_typing.specs.Graph.Costs.{other_end, before_last, only_last}
use Rattle.law_typing.specs.Graph.Depths.{channel_depth, deepest, depth_at, depth_within, depth_within_if, program_depth, property_depth, raised_of, start_depth}
use Rattle.law_typing.proofs.Lists.{same_channel_true, same_channel_refl}
use Rattle.verify_order.specs.Graphs.{IsOrder}
use Rattle.verify_order.specs.declared.rules.Rule.{Rule}
use Rattle.verify_order.specs.Numbers.{Solves, greatest, number_by, of_node}
use Rattle.verify_sketches.specs.Pointwise.{Pointwise, inside}
use Rattle.verify_sketches.specs.Sketches.{AreNamed, IsSketch, IsSketchedBlock, IsSketchedStart, IsStartOf, Names, NamesIf, SamePrograms, Sketch, SketchedBlock, SketchedChannel, SketchedStart, emits_at, nothing, raises, makes, thaws}
use Rattle.verify_sketches.specs.Numbered.{IsNumbered, IsPart, Node, Part, block, block_node, blocks, blocks_node, connected, connected_node, depths_in, edges_in, first_block, first_of, frames_of, group, group_node, next, next_node, nodes_of, of_block, of_blocks, of_connected, of_group, of_next, of_own, of_passes, of_place, of_program as of_program_part, of_stages, of_start, of_whole, one_if, own, own_node, passes, passes_node, place, place_node, program, program_node, programs_of, stages, stages_node, start, start_depth as start_depth_rule, start_node, starts_of, whole}
use Rattle.verify_numbers.specs.Tables.{DepthsAreSolved, depth_tables, value_of}
use Rattle.verify_numbers.proofs.SketchLists.{Like, at_second, below, found, get_map, greatest_append, greatest_like, inside_greatest, itself, listed_map, map_get, max_like, pointwise_map, read_found, read_past, table_map}
use Rattle.verify_numbers.proofs.SketchParts.{IsChannelAt, Once, first_node, greatest_flat, greatest_of_all, most_append, most_of_programs, named, node_alone, node_both, pointwise_before, pointwise_last, raised_at, table_entry, table_none, value_is}
use Rattle.verify_numbers.proofs.OrderBounds.{IsSmall, all_small}

-- ** lists

find_here : (r : Raised) (rs : List Raised) (c : Channel) → r.channel ≡ c →
    find (λ (r : Raised). same_channel r.channel c) (r ∷ rs) ≡ Some r
find_here r rs c e =
    let same : same_channel r.channel c ≡ true = subst (λ x. same_channel r.channel x ≡ true) e (same_channel_refl r.channel) in
    ap (λ b. cond b (Some r) (find (λ (r : Raised). same_channel r.channel c) rs)) same

-- a channel that is once among some is found there
find_once : (rs : List Raised) (i : ℕ) (r : Raised) (c : Channel) → Once rs → slice_get rs i ≡ Some r → r.channel ≡ c →
    find (λ (r : Raised). same_channel r.channel c) rs ≡ Some r
find_once [] i r c once e is = absurd (cc)
find_once (x ∷ xs) zero r c once e is =
    let s : x ≡ r = cc in
    find_here x xs c (ap (λ (r : Raised). r.channel) s ∙ is) ∙ ap Some s
find_once (x ∷ xs) (suc i) r c once e is =
    by (same_channel x.channel c) refl (find_once xs i r c (λ j k d p q. (let e = once (suc j) (suc k) d p q in omega (arith, e))) e is)
  where
    by : (b : Bool) → same_channel x.channel c ≡ b → find (λ (r : Raised). same_channel r.channel c) xs ≡ Some r →
        cond b (Some x) (find (λ (r : Raised). same_channel r.channel c) xs) ≡ Some r
    by true same ih =
        let here : slice_get (map (λ (r : Raised). r.channel) (x ∷ xs)) 0 ≡ Some c = ap Some (same_channel_true x.channel c same) in
        let there : slice_get (map (λ (r : Raised). r.channel) (x ∷ xs)) (suc i) ≡ Some c = get_map (λ (r : Raised). r.channel) (x ∷ xs) (suc i) r e ∙ ap Some is in
        absurd (let n = once 0 (suc i) c here there in omega (arith, n))
    by false same ih = ih

inside_most : (f a h : ℕ → ℕ) (count m : ℕ) (zs : List ℕ) → ((z : ℕ) → nat_lt (h z) count ≡ true → f (a (h z)) ≤ m) →
    greatest f (map a (inside count (map h zs))) ≤ m
inside_most f a h count m [] all = omega arith
inside_most f a h count m (z ∷ zs) all = by (nat_lt (h z) count) refl (inside_most f a h count m zs all)
  where
    by : (b : Bool) → nat_lt (h z) count ≡ b → greatest f (map a (inside count (map h zs))) ≤ m →
        greatest f (map a (cond b (h z ∷ inside count (map h zs)) (inside count (map h zs)))) ≤ m
    by true e ih = let l = all z e in omega (arith, l, ih)
    by false e ih = ih

listed_most : (f h : ℕ → ℕ) (n m : ℕ) → ((i : ℕ) → i < n → f (h i) ≤ m) → greatest f (listed h n) ≤ m
listed_most f h zero m all = omega arith
listed_most f h (suc n) m all =
    let a = all 0 (omega arith) in
    let b = listed_most f (λ i. h (suc i)) n m (λ i l. all (suc i) (omega (arith, l))) in
    omega (arith, a, b)

listed_least : (f h : ℕ → ℕ) (n i : ℕ) → i < n → f (h i) ≤ greatest f (listed h n)
listed_least f h zero i l = absurd (omega (arith, l))
listed_least f h (suc n) zero l = omega arith
listed_least f h (suc n) (suc i) l = let e = listed_least f (λ i. h (suc i)) n i (omega (arith, l)) in omega (arith, e)

-- a greatest number, capped, is at most what each one is, capped
least_most : (D : Stretch → ℕ) (cap m : ℕ) (ys : List Stretch) → ((i : ℕ) (y : Stretch) → slice_get ys i ≡ Some y → min (D y) cap ≤ m) →
    min (tables.greatest D ys) cap ≤ m
least_most D cap m [] all = omega arith
least_most D cap m (y ∷ ys) all =
    let a = all 0 y refl in
    let b = least_most D cap m ys (λ i z e. all (suc i) z e) in
    omega (arith, a, b)

split_last : (f : Start → ℕ) (xs : List Start) →
    tables.greatest f xs ≡ max (tables.greatest f (before_last xs)) (tables.greatest f (only_last xs))
split_last f [] = omega arith
split_last f (x ∷ []) = omega arith
split_last f (x ∷ y ∷ xs) = let e = split_last f (y ∷ xs) in omega (arith, e)

-- the parts of what runs somewhere
three_parts : (cap a b c p q r w : ℕ) → Like cap a p → Like cap b q → Like cap c r → w ≡ max p (max r q) → Like cap (max a (max b c)) w
three_parts cap a b c p q r w i j k e = grind (arith, max_like cap a p (max b c) (max q r) i (max_like cap b q c r j k), e)

two_parts : (cap n a b c d m p q : ℕ) → n ≡ min (1 * max a (max b m) + 0) cap → m ≡ max c d → Like cap (max a (max b c)) p → Like cap d q →
    n ≡ min (max p q) cap
two_parts cap n a b c d m p q e f i j =
    let k = max_like cap (max a (max b c)) p d q i j in
    let l : max a (max b m) ≡ max (max a (max b c)) d = omega (arith, f) in
    omega (arith, e, k, l)

module _ (g : Graph) (s : Sketch) (at : Part → ℕ) (nodes : List Node) (values : List ℕ) (cap : ℕ) (sketch : IsSketch g s)
    (numbered : IsNumbered s at g.most_handlers nodes)
    (solves : Solves (depths_in nodes) cap (edges_in nodes) values) where
  abbrev t : Tables
  t = depth_tables g s at values

  abbrev number : Part → ℕ
  number x = of_node values (at x)

  abbrev node_number : ℕ → ℕ
  node_number n = at (whole (first_of (slice_get s.channels n) n))

  is : (x : Part) (y : Node) → IsPart s at g.most_handlers x y → of_node values (at x) ≡ number_by y.depth cap (of_node values) y.edges
  is x y part = value_is (λ (y : Node). y.depth) cap s at g.most_handlers nodes values numbered solves x y part

  programs_like : (ps : List ℕ) → Like cap (greatest (of_node values) (programs_of s at ps)) (tables.greatest (of_program t) ps)
  programs_like ps = most_of_programs g s at values cap sketch ps

  -- ** nodes of channels

  pub entry_is : (n : ℕ) (c : Channel) → Names g n c → entry t.channels c ≡ of_node values (node_number n)
  entry_is n c e =
      table_entry (value_of s at values) 0 n g.raised c sketch.once e ∙ (let z : 0 + n ≡ n = omega arith in ap (value_of s at values) z)

  nodes_like : (ns : List ℕ) (cs : List Channel) → AreNamed g ns cs → Like cap (greatest (of_node values) (nodes_of s at ns)) (deepest t cs)
  nodes_like ns cs names =
      greatest_like (Names g) cap (of_node values) node_number (entry t.channels) ns cs names
      (λ n c e. ap (λ m. min m cap) (sym (entry_is n c e)))

  -- ** starts

  place_like : (n : ℕ) (cs : List Channel) → AreNamed g (read [] s.paired n) cs → nat_lt n (length s.paired) ≡ true →
      Like cap (number (place n)) (deepest t cs)
  place_like n cs names b =
      let x = found s.paired n (ltb-true n (length s.paired) b) in
      let v = is (place n) (place_node s at n x.0) (of_place n x.0 x.1) in
      let l = nodes_like x.0 cs (subst (λ ns. AreNamed g ns cs) (read_found [] s.paired n x.0 x.1) names) in
      omega (arith, v, l)

  place_none : (n : ℕ) (cs : List Channel) → AreNamed g (read [] s.paired n) cs → nat_lt n (length s.paired) ≡ false → deepest t cs ≡ 0
  place_none n cs names b = by cs (subst (λ ns. AreNamed g ns cs) (read_past [] s.paired n (ltb-false n (length s.paired) b)) names)
    where
      by : (cs : List Channel) → AreNamed g [] cs → deepest t cs ≡ 0
      by [] names = refl
      by (c ∷ cs) names = absurd names

  thaw_like : (places : List ℕ) (css : List (List Channel)) → Pointwise (AreNamed g) (map (read [] s.paired) places) css →
      Like cap (greatest (of_node values) (map (λ n. at (place n)) (inside (length s.paired) places))) (tables.greatest (deepest t) css)
  thaw_like places css names =
      inside_greatest (λ (n : ℕ) (cs : List Channel). AreNamed g (read [] s.paired n) cs) cap (of_node values) (λ n. at (place n))
      (deepest t)
      (length s.paired) place_like place_none places css (pointwise_map (AreNamed g) (read [] s.paired) places css names)

  kept_like : (n : ℕ) (k : SketchedStart) (i : Start) → slice_get s.starts n ≡ Some k → IsSketchedStart g s.paired k i →
      Like cap (number (start n)) (start_depth t i)
  kept_like n nothing starts.nothing e h = let v = is (start n) (start_node s at n nothing) (of_start n nothing e) in omega (arith, v)
  kept_like n nothing (starts.raises cs) e h = absurd h
  kept_like n nothing (starts.makes cs) e h = absurd h
  kept_like n nothing (starts.thaws css) e h = absurd h
  kept_like n (raises ns) starts.nothing e h = absurd h
  kept_like n (raises ns) (starts.raises cs) e h =
      let v = is (start n) (start_node s at n (raises ns)) (of_start n (raises ns) e) in
      let l = nodes_like ns cs h in
      omega (arith, v, l)
  kept_like n (raises ns) (starts.makes cs) e h = absurd h
  kept_like n (raises ns) (starts.thaws css) e h = absurd h
  kept_like n (makes ns) starts.nothing e h = absurd h
  kept_like n (makes ns) (starts.raises cs) e h = absurd h
  kept_like n (makes ns) (starts.makes cs) e h =
      let v = is (start n) (start_node s at n (makes ns)) (of_start n (makes ns) e) in
      let l = nodes_like ns cs h in
      omega (arith, v, l)
  kept_like n (makes ns) (starts.thaws css) e h = absurd h
  kept_like n (thaws ps) starts.nothing e h = absurd h
  kept_like n (thaws ps) (starts.raises cs) e h = absurd h
  kept_like n (thaws ps) (starts.makes cs) e h = absurd h
  kept_like n (thaws ps) (starts.thaws css) e h =
      let v = is (start n) (start_node s at n (thaws ps)) (of_start n (thaws ps) e) in
      let l = thaw_like ps css h in
      omega (arith, v, l)

  start_like : (n : ℕ) (i : Start) → IsStartOf g s n i → nat_lt n (length s.starts) ≡ true → Like cap (number (start n)) (start_depth t i)
  start_like n i h b =
      let x = found s.starts n (ltb-true n (length s.starts) b) in
      kept_like n x.0 i x.1 (subst (λ k. IsSketchedStart g s.paired k i) (read_found nothing s.starts n x.0 x.1) h)

  start_none : (n : ℕ) (i : Start) → IsStartOf g s n i → nat_lt n (length s.starts) ≡ false → start_depth t i ≡ 0
  start_none n i h b = by i (subst (λ k. IsSketchedStart g s.paired k i) (read_past nothing s.starts n (ltb-false n (length s.starts) b)) h)
    where
      by : (i : Start) → IsSketchedStart g s.paired nothing i → start_depth t i ≡ 0
      by starts.nothing h = refl
      by (starts.raises cs) h = absurd h
      by (starts.makes cs) h = absurd h
      by (starts.thaws css) h = absurd h

  starts_like : (ns : List ℕ) (is : List Start) → Pointwise (IsStartOf g s) ns is →
      Like cap (greatest (of_node values) (starts_of s at ns)) (tables.greatest (start_depth t) is)
  starts_like ns is all =
      inside_greatest (IsStartOf g s) cap (of_node values) (λ n. at (start n)) (start_depth t) (length s.starts) start_like start_none ns
      is all

  -- ** blocks

  -- the depth of a block by itself, and of some blocks
  abbrev in_block : Stretch → ℕ
  in_block y = tables.greatest (start_depth t) y.starts

  abbrev in_blocks : List Stretch → ℕ
  in_blocks ys = tables.greatest (λ (y : Stretch). tables.greatest (start_depth t) y.starts) ys

  module _ (p : ℕ) (bs : List SketchedBlock) (there : slice_get s.programs p ≡ Some bs) where
    block_is : (i : ℕ) (b : SketchedBlock) (y : Stretch) → slice_get bs i ≡ Some b → IsSketchedBlock g s b y →
        number (block p i) ≡ min (max (in_block y) (number (next p i))) cap
    block_is i b y e h =
        let v = is (block p i) (block_node s at p i b) (of_block p i bs b there e) in
        let w = is (passes p i) (passes_node s at p i b) (of_passes p i bs b there e) in
        let k = starts_like (before_last b.starts) (before_last y.starts) (pointwise_before (IsStartOf g s) b.starts y.starts h.starts) in
        let l = starts_like (only_last b.starts) (only_last y.starts) (pointwise_last (IsStartOf g s) b.starts y.starts h.starts) in
        let d = split_last (start_depth t) y.starts in
        omega (arith, v, w, k, l, d)

    next_within : (i : ℕ) (b : SketchedBlock) (m : ℕ) → slice_get bs i ≡ Some b →
        ((j k : ℕ) → k ≡ suc i + j → k < length bs → number (block p k) ≤ m) →
        number (next p i) ≤ m
    next_within i b m e all =
        let v = is (next p i) (next_node at p (length bs) i b) (of_next p i bs b there e) in
        let l =
        inside_most (of_node values) (λ k. at (block p k)) (λ to. suc i + (to - suc i)) (length bs) m b.next
        (λ to h. all (to - suc i) (suc i + (to - suc i)) refl (ltb-true (suc i + (to - suc i)) (length bs) h)) in
        omega (arith, v, l)

    blocks_within : (i : ℕ) (xs : List SketchedBlock) (ys : List Stretch) → Pointwise (IsSketchedBlock g s) xs ys →
        ((j : ℕ) (b : SketchedBlock) → slice_get xs j ≡ Some b → slice_get bs (i + j) ≡ Some b) → length bs ≡ i + length xs →
        (j k : ℕ) → k ≡ i + j → k < length bs → number (block p k) ≤ min (in_blocks ys) cap
    blocks_within i [] [] all these count j k e h = absurd (omega (arith, h, count, e))
    blocks_within i [] (y ∷ ys) all these count j k e h = absurd all
    blocks_within i (x ∷ xs) [] all these count j k e h = absurd all
    blocks_within i (x ∷ xs) (y ∷ ys) all these count j k e h =
        by j e
        (blocks_within (suc i) xs ys all.1
        (λ j b f. (let m : i + suc j ≡ suc i + j = omega arith in subst (λ n. slice_get bs n ≡ Some b) m (these (suc j) b f)))
        (omega (arith, count)))
      where
        by : (j : ℕ) → k ≡ i + j → ((j k : ℕ) → k ≡ suc i + j → k < length bs → number (block p k) ≤ min (in_blocks ys) cap) →
            number (block p k) ≤ min (in_blocks (y ∷ ys)) cap
        by zero e ih =
            let here : i + 0 ≡ i = omega arith in
            let f = subst (λ n. slice_get bs n ≡ Some x) here (these 0 x refl) in
            let v = block_is i x y f all.0 in
            let l = next_within i x (min (in_blocks ys) cap) f ih in
            let w = ap (λ n. number (block p n)) (e ∙ here) in
            omega (arith, v, l, w)
        by (suc j) e ih = let l = ih j k (omega (arith, e)) h in omega (arith, l)

    module _ (ys : List Stretch) (all : Pointwise (IsSketchedBlock g s) bs ys) where
      each_within : (k : ℕ) → k < length bs → number (block p k) ≤ min (in_blocks ys) cap
      each_within k h =
          blocks_within 0 bs ys all (λ j b f. (let m : j ≡ 0 + j = omega arith in subst (λ n. slice_get bs n ≡ Some b) m f)) (omega arith) k k (omega arith) h

      each_least : (i : ℕ) (y : Stretch) → slice_get ys i ≡ Some y →
          min (in_block y) cap ≤ greatest (of_node values) (listed (λ b. at (block p b)) (length bs))
      each_least i y e =
          let x = at_second (IsSketchedBlock g s) bs ys i y all e in
          let v = block_is i x.0 y x.1 x.2 in
          let l = listed_least (of_node values) (λ b. at (block p b)) (length bs) i (below bs i x.0 x.1) in
          omega (arith, v, l)

      blocks_are : number (blocks p) ≡ min (in_blocks ys) cap
      blocks_are =
          let v = is (blocks p) (blocks_node at p bs) (of_blocks p bs there) in
          let a = listed_most (of_node values) (λ b. at (block p b)) (length bs) (min (in_blocks ys) cap) each_within in
          let b =
          least_most (λ (y : Stretch). tables.greatest (start_depth t) y.starts) cap
          (greatest (of_node values) (listed (λ b. at (block p b)) (length bs))) ys each_least in
          omega (arith, v, a, b)

    first_within : (xs : List SketchedBlock) (m : ℕ) → (0 < length xs → number (block p 0) ≤ m) →
        greatest (of_node values) (first_block at p (length xs)) ≤ m
    first_within [] m h = omega arith
    first_within (x ∷ xs) m h = let l = h (omega arith) in omega (arith, l)

    program_is : (ys : List Stretch) → Pointwise (IsSketchedBlock g s) bs ys → number (program p) ≡ min (program_depth t ys) cap
    program_is ys all =
        let v = is (program p) (program_node at p bs) (of_program_part p bs there) in
        let a = greatest_append (of_node values) (first_block at p (length bs)) (at (blocks p) ∷ []) in
        let b = blocks_are ys all in
        let l = first_within bs (min (in_blocks ys) cap) (each_within ys all 0) in
        omega (arith, v, a, b, l)

  -- ** channels

  group_like : (x n : ℕ) → x ≡ n → nat_lt x (length s.groups) ≡ true →
      Like cap (number (group x)) (tables.greatest (of_program t) (read [] s.groups n))
  group_like x n same b =
      let y = found s.groups x (ltb-true x (length s.groups) b) in
      let v = is (group x) (group_node s at x y.0) (of_group x y.0 y.1) in
      let l = programs_like y.0 in
      let r = ap (tables.greatest (of_program t)) (sym (read_found [] s.groups x y.0 y.1) ∙ ap (read [] s.groups) same) in
      omega (arith, v, l, r)

  group_none : (x n : ℕ) → x ≡ n → nat_lt x (length s.groups) ≡ false → tables.greatest (of_program t) (read [] s.groups n) ≡ 0
  group_none x n same b =
      ap (tables.greatest (of_program t)) (ap (read [] s.groups) (sym same) ∙ read_past [] s.groups x (ltb-false x (length s.groups) b))

  groups_like : (gs ps : List ℕ) → SamePrograms (flat_map (read [] s.groups) gs) ps →
      Like cap (greatest (of_node values) (map (λ n. at (group n)) (inside (length s.groups) gs))) (tables.greatest (of_program t) ps)
  groups_like gs ps same =
      let l =
      inside_greatest (λ (x y : ℕ). x ≡ y) cap (of_node values) (λ n. at (group n))
      (λ n. tables.greatest (of_program t) (read [] s.groups n)) (length s.groups)
      group_like group_none gs gs (itself gs) in
      let f = greatest_flat (of_program t) (read [] s.groups) gs in
      let a = greatest_of_all (of_program t) (flat_map (read [] s.groups) gs) ps same.there in
      let b = greatest_of_all (of_program t) ps (flat_map (read [] s.groups) gs) same.back in
      omega (arith, l, f, a, b)

  connected_like : (n : ℕ) (k : SketchedChannel) (r : Raised) → IsChannelAt g s n k r →
      Like cap (number (connected n)) (tables.greatest (of_program t) r.connectable)
  connected_like n k r x =
      let v = is (connected n) (connected_node s at g.most_handlers n k) (of_connected n k x.sketched) in
      let l = groups_like k.groups r.connectable x.is.connectable in
      omega (arith, v, l)

  stages_like : (n : ℕ) (k : SketchedChannel) (r : Raised) → IsChannelAt g s n k r →
      Like cap (number (stages n)) (tables.greatest (of_program t) r.class_handler)
  stages_like n k r x =
      let v = is (stages n) (stages_node s at n k) (of_stages n k x.sketched) in
      let l = programs_like k.class_handler in
      let a = ap (tables.greatest (of_program t)) x.is.class_handler in
      omega (arith, v, l, a)

  handlers_like : (n : ℕ) (k : SketchedChannel) (r : Raised) → IsChannelAt g s n k r →
      Like cap (greatest (of_node values) (programs_of s at k.handlers)) (tables.greatest (of_program t) r.handlers)
  handlers_like n k r x = programs_like k.handlers ∙ ap (λ qs. min (tables.greatest (of_program t) qs) cap) x.is.handlers

  -- a target that is not raised has no depth
  raised_alone : (cs : List Channel) → deepest t cs ≡ deepest t (filter (is_raised g) cs)
  raised_alone [] = refl
  raised_alone (c ∷ cs) = by (is_raised g c) refl (raised_alone cs)
    where
      by : (b : Bool) → is_raised g c ≡ b → deepest t cs ≡ deepest t (filter (is_raised g) cs) →
          max (entry t.channels c) (deepest t cs) ≡ deepest t (cond b (c ∷ filter (is_raised g) cs) (filter (is_raised g) cs))
      by true e ih = omega (arith, ih)
      by false e ih = let z = table_none (value_of s at values) 0 g.raised c e in omega (arith, ih, z)

  targets_like : (n : ℕ) (k : SketchedChannel) (r : Raised) → IsChannelAt g s n k r →
      Like cap (greatest (of_node values) (nodes_of s at k.targets)) (deepest t r.targets)
  targets_like n k r x =
      let l = nodes_like k.targets (filter (is_raised g) r.targets) x.is.targets in
      let e = raised_alone r.targets in
      omega (arith, l, e)

  -- all that runs there
  running_like : (n : ℕ) (k : SketchedChannel) (r : Raised) → IsChannelAt g s n k r →
      Like cap (max (number (stages n)) (max (number (connected n)) (greatest (of_node values) (programs_of s at k.handlers)))) (tables.greatest (of_program t) (running_at r))
  running_like n k r x =
      let f = most_append (of_program t) r.class_handler (r.handlers ++ r.connectable) in
      let h = most_append (of_program t) r.handlers r.connectable in
      three_parts cap (number (stages n)) (number (connected n)) (greatest (of_node values) (programs_of s at k.handlers))
      (tables.greatest (of_program t) r.class_handler)
      (tables.greatest (of_program t) r.connectable) (tables.greatest (of_program t) r.handlers) (tables.greatest (of_program t) (running_at r)) (stages_like n k r x)
      (connected_like n k r x) (handlers_like n k r x) (f ∙ ap (max (tables.greatest (of_program t) r.class_handler)) h)

  own_is : (n : ℕ) (k : SketchedChannel) (r : Raised) → IsChannelAt g s n k r → number (own n) ≡ min (depth_within t r) cap
  own_is n k r x =
      let v = is (own n) (own_node s at n k) (of_own n k x.sketched) in
      let a = greatest_append (of_node values) (programs_of s at k.handlers) (nodes_of s at k.targets) in
      two_parts cap (number (own n)) (number (stages n)) (number (connected n)) (greatest (of_node values) (programs_of s at k.handlers))
      (greatest (of_node values) (nodes_of s at k.targets)) (greatest (of_node values) (programs_of s at k.handlers ++ nodes_of s at k.targets))
      (tables.greatest (of_program t) (running_at r)) (deepest t r.targets) v a (running_like n k r x) (targets_like n k r x)

  first_is : (n : ℕ) (k : SketchedChannel) (i : ℕ) → slice_get s.channels n ≡ Some k → k.first ≡ i →
      of_node values (node_number n) ≡ number (whole i)
  first_is n k i e f = ap (λ o. number (whole (first_of o n))) e ∙ ap (λ i. number (whole i)) f

  both_ends : (n o : ℕ) (k : SketchedChannel) → slice_get s.channels n ≡ Some k → k.other ≡ Some o →
      of_node values (node_number n) ≡ min (max (number (own n)) (number (own o)) + 2) cap
  both_ends n o k e is_other = by (node_both g s at g.most_handlers sketch n o k e is_other)
    where
      by : ((k.first ≡ n) × IsPart s at g.most_handlers (whole n) (first_node at n true (Some o) k.emits))
          ⊎ ((emits : Bool) × (k.first ≡ o) × IsPart s at g.most_handlers (whole o) (first_node at o true (Some n) emits)) →
          of_node values (node_number n) ≡ min (max (number (own n)) (number (own o)) + 2) cap
      by (inl x) =
          let v = is (whole n) (first_node at n true (Some o) k.emits) x.1 in
          let f = first_is n k n e x.0 in
          omega (arith, v, f)
      by (inr x) =
          let v = is (whole o) (first_node at o true (Some n) x.0) x.2 in
          let f = first_is n k o e x.1 in
          omega (arith, v, f)

  one_end : (n : ℕ) (k : SketchedChannel) → slice_get s.channels n ≡ Some k → k.other ≡ None →
      of_node values (node_number n) ≡ min (number (own n) + one_if k.emits) cap
  one_end n k e alone =
      let x = node_alone g s at g.most_handlers sketch n k e alone in
      let v = is (whole n) (first_node at n true None k.emits) x.1 in
      let f = first_is n k n e x.0 in
      omega (arith, v, f)

  -- a channel that is in no pair
  alone_is : (n : ℕ) (k : SketchedChannel) (r : Raised) → IsChannelAt g s n k r → k.other ≡ None →
      of_node values (node_number n) ≡ min (one_if k.emits + depth_within t r) cap
  alone_is n k r x alone =
      let v = one_end n k x.sketched alone in
      let o = own_is n k r x in
      omega (arith, v, o)

  end_is : (o : ℕ) (c : Channel) → Names g o c → number (own o) ≡ min (depth_within_if t (raised_of g c)) cap
  end_is o c names =
      let x = named g s sketch o c names in
      own_is o x.0 x.1 x.2 ∙ ap (λ y. min (depth_within_if t y) cap) (sym (find_once g.raised o x.1 c sketch.once x.2.raised x.3))

  pair_is : (n o : ℕ) (k : SketchedChannel) (r : Raised) (end : Channel) → IsChannelAt g s n k r → k.other ≡ Some o → Names g o end →
      of_node values (node_number n) ≡ min (property_depth g t r (Some end)) cap
  pair_is n o k r end x other names =
      let v = both_ends n o k x.sketched other in
      let a = own_is n k r x in
      let b = end_is o end names in
      omega (arith, v, a, b)

  channel_is : (n : ℕ) (k : SketchedChannel) (r : Raised) → IsChannelAt g s n k r →
      of_node values (node_number n) ≡ min (channel_depth g t r) cap
  channel_is n k r x = by r.channel (other_end g r.channel) k.other x.is.emits refl refl x.is.other
    where
      by : (c : Channel) (end : Option Channel) (o : Option ℕ) → k.emits ≡ emits_at c → other_end g c ≡ end → k.other ≡ o →
          NamesIf g o end →
          of_node values (node_number n) ≡ min (depth_at g t r c) cap
      by c None (Some o) emits e f names = absurd names
      by c (Some end) None emits e f names = absurd names
      by (constructed i) None None emits e f names = let v = alone_is n k r x f in let b = ap one_if emits in omega (arith, v, b)
      by (constructed i) (Some end) (Some o) emits e f names = absurd (sketch.ends (constructed i) end e)
      by (property i j) None None emits e f names =
          let v = alone_is n k r x f in
          let b = ap one_if emits in
          let d = ap (property_depth g t r) e in
          omega (arith, v, b, d)
      by (property i j) (Some end) (Some o) emits e f names =
          let v = pair_is n o k r end x f names in
          let d = ap (property_depth g t r) e in
          v ∙ ap (λ m. min m cap) (sym d)
      by (signal i j) None None emits e f names = let v = alone_is n k r x f in let b = ap one_if emits in omega (arith, v, b)
      by (signal i j) (Some end) (Some o) emits e f names = absurd (sketch.ends (signal i j) end e)

  -- ** the whole, where no number is at the most

  module _ (low : (k : ℕ) → of_node values k < cap) where
    channels_are : t.channels ≡ map (λ (r : Raised). (r.channel, channel_depth g t r)) g.raised
    channels_are =
        table_map (value_of s at values) (channel_depth g t) 0 g.raised
        (λ n r e.
        let k = raised_at g s sketch n r e in
        let z : 0 + n ≡ n = omega arith in
        let v = channel_is n k.0 r k.1 in
        let l = low (node_number n) in
        ap (value_of s at values) z ∙ omega (arith, v, l))

    programs_are : t.programs ≡ map (program_depth t) g.programs
    programs_are =
        listed_map (λ p. of_node values (at (program p))) (program_depth t) g.programs
        (λ p ys e.
        let x = at_second (Pointwise (IsSketchedBlock g s)) s.programs g.programs p ys sketch.programs e in
        let v = program_is p x.0 x.1 ys x.2 in
        let l = low (at (program p)) in
        omega (arith, v, l))

-- ** each rule makes two more at most

module _ (s : Sketch) (at : Part → ℕ) (handlers : ℕ) where
  frames_small : (emits : Bool) (other : Option ℕ) → frames_of emits other ≤ 2
  frames_small true None = omega arith
  frames_small false None = omega arith
  frames_small emits (Some other) = omega arith

  start_small : (k : SketchedStart) → IsSmall (start_depth_rule k)
  start_small nothing = record { adds = refl; times = omega arith; more = omega arith }
  start_small (raises ns) = record { adds = refl; times = omega arith; more = omega arith }
  start_small (makes ns) = record { adds = refl; times = omega arith; more = omega arith }
  start_small (thaws ps) = record { adds = refl; times = omega arith; more = omega arith }

  part_small : (x : Part) (y : Node) → IsPart s at handlers x y → IsSmall y.depth
  part_small x y (of_whole i k e) = record { adds = refl; times = omega arith; more = frames_small k.emits k.other }
  part_small x y (of_own i k e) = record { adds = refl; times = omega arith; more = omega arith }
  part_small x y (of_stages i k e) = record { adds = refl; times = omega arith; more = omega arith }
  part_small x y (of_connected i k e) = record { adds = refl; times = omega arith; more = omega arith }
  part_small x y (of_group i k e) = record { adds = refl; times = omega arith; more = omega arith }
  part_small x y (of_program_part i k e) = record { adds = refl; times = omega arith; more = omega arith }
  part_small x y (of_blocks i k e) = record { adds = refl; times = omega arith; more = omega arith }
  part_small x y (of_place i k e) = record { adds = refl; times = omega arith; more = omega arith }
  part_small x y (of_start i k e) = start_small k
  part_small x y (of_block p i bs b e f) = record { adds = refl; times = omega arith; more = omega arith }
  part_small x y (of_passes p i bs b e f) = record { adds = refl; times = omega arith; more = omega arith }
  part_small x y (of_next p i bs b e f) = record { adds = refl; times = omega arith; more = omega arith }

length_map : {A B : Type 0} (f : A → B) (xs : List A) → length (map f xs) ≡ length xs
length_map f [] = refl
length_map f (x ∷ xs) = ap suc (length_map f xs)

module _ (s : Sketch) (at : Part → ℕ) (handlers : ℕ) (nodes : List Node) (order values : List ℕ) (most : ℕ)
    (numbered : IsNumbered s at handlers nodes)
    (is_order : IsOrder (edges_in nodes) order) (enough : 2 * length nodes < most) (solves : Solves (depths_in nodes) most (edges_in nodes) values) where
  rules_small : (k : ℕ) (rule : Rule) → slice_get (depths_in nodes) k ≡ Some rule → IsSmall rule
  rules_small k rule e =
      let y = map_get (λ (y : Node). y.depth) nodes k rule e in
      subst IsSmall y.2 (part_small s at handlers y.0.part y.0 (numbered.each k y.0 y.1).1)

  numbers_low : (k : ℕ) → of_node values k < most
  numbers_low k =
      let a = length_map (λ (y : Node). y.depth) nodes in
      let b = length_map (λ (y : Node). y.edges) nodes in
      let l = all_small (depths_in nodes) most (edges_in nodes) order values is_order solves (a ∙ sym b) rules_small k in
      omega (arith, l, b, enough)

pub depths_are_solved : DepthsAreSolved
depths_are_solved g s at nodes order values most sketch numbered is_order enough solves = record {
  channels =
      channels_are g s at nodes values most sketch numbered solves
      (numbers_low s at g.most_handlers nodes order values most numbered is_order enough solves);
  programs =
      programs_are g s at nodes values most sketch numbered solves
      (numbers_low s at g.most_handlers nodes order values most numbered is_order enough solves);
}
