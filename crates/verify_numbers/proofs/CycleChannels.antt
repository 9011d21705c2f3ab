-- Each cycle of nodes has the node of a channel: without one, each edge leads to a smaller part.
use Rattle.std.proofs.Common.{◌≡◌, inl, inr, ◌⊎◌, refl, sym, ap, subst, ℕ, suc, ◌+◌, ◌*◌, ◌-◌, ◌<◌, List, [], ◌∷◌, length, Some, slice_get, arith}
use Rattle.law_typing.specs.Graph.{Graph}
use Rattle.law_typing.specs.Graph.Tables.{greatest}
use Rattle.law_typing.proofs.Lists.{greatest_in}
use Rattle.verify_order.specs.Graphs.{Edge, LeadRound, LeadsRound}
use Rattle.verify_sketches.specs.Sketches.{IsSketch, Sketch, SketchedBlock}
use Rattle.verify_sketches.specs.Numbered.{IsNumbered, IsPart, Node, Part, block, blocks, connected, edges_in, group, next, of_block, of_whole, own, passes, place, program, stages, start, whole}
use Rattle.verify_numbers.specs.Cycles.{CyclesHaveChannels}
use Rattle.verify_numbers.proofs.SketchLists.{below}
use Rattle.verify_numbers.proofs.Members.{get_in}
use Rattle.verify_numbers.proofs.PartEdges.{Leads, leads_on, part_at, runs_class, runs_group, runs_handler, same_part, starts_before, starts_last, to_blocks, to_connected, to_each, to_first, to_group, to_later, to_next, to_own, to_paired, to_passes, to_place, to_raised, to_stages, to_target}

-- how far a part is from a channel at most, where no program has more blocks than so many
abbrev far : ℕ → Part → ℕ
far n (whole i) = 0
far n (own i) = 10 + 2 * n
far n (connected i) = 9 + 2 * n
far n (stages i) = 8 + 2 * n
far n (group i) = 8 + 2 * n
far n (program i) = 7 + 2 * n
far n (blocks i) = 6 + 2 * n
far n (block p i) = 5 + 2 * (n - i)
far n (next p i) = 4 + 2 * (n - i)
far n (passes p i) = 3
far n (start i) = 2
far n (place i) = 1

-- a part is the node of a channel, or it is not
abbrev NoChannel : Part → Type 0
NoChannel (whole i) = ⊥
NoChannel (own i) = Unit {0}
NoChannel (stages i) = Unit {0}
NoChannel (connected i) = Unit {0}
NoChannel (group i) = Unit {0}
NoChannel (program i) = Unit {0}
NoChannel (blocks i) = Unit {0}
NoChannel (place i) = Unit {0}
NoChannel (start i) = Unit {0}
NoChannel (block p i) = Unit {0}
NoChannel (passes p i) = Unit {0}
NoChannel (next p i) = Unit {0}

channel_or_none : (x : Part) → ((i : ℕ) × (x ≡ whole i)) ⊎ NoChannel x
channel_or_none (whole i) = inl (i, refl)
channel_or_none (own i) = inr tt
channel_or_none (stages i) = inr tt
channel_or_none (connected i) = inr tt
channel_or_none (group i) = inr tt
channel_or_none (program i) = inr tt
channel_or_none (blocks i) = inr tt
channel_or_none (place i) = inr tt
channel_or_none (start i) = inr tt
channel_or_none (block p i) = inr tt
channel_or_none (passes p i) = inr tt
channel_or_none (next p i) = inr tt

module _ (g : Graph) (s : Sketch) (at : Part → ℕ) (handlers : ℕ) (nodes : List Node) (sketch : IsSketch g s)
    (numbered : IsNumbered s at handlers nodes) where
  abbrev There : Part → Type 0
  There x = (y : Node) × IsPart s at handlers x y

  abbrev most_blocks : ℕ
  most_blocks = greatest (λ (bs : List SketchedBlock). length bs) s.programs

  channel_there : (i : ℕ) (y : Node) → IsPart s at handlers (whole i) y → i < length s.channels
  channel_there i y (of_whole j k e) = below s.channels i k e

  block_below : (p i : ℕ) (y : Node) → IsPart s at handlers (block p i) y → i < most_blocks
  block_below p i y (of_block q j bs b e f) =
      let a = greatest_in (λ (bs : List SketchedBlock). length bs) s.programs bs (get_in s.programs p bs e) in
      let l = below bs i b f in
      omega (arith, a, l)

  -- an edge between parts that are no nodes of channels leads nearer
  nearer : (x z : Part) → Leads g s x z → There z → NoChannel x → NoChannel z → far most_blocks z < far most_blocks x
  nearer x z (to_own i n c a b) there apart none = absurd apart
  nearer x z (to_stages n) there apart none = omega arith
  nearer x z (to_connected n) there apart none = omega arith
  nearer x z (runs_handler n p r e h) there apart none = omega arith
  nearer x z (to_target n i r c e h a) there apart none = absurd none
  nearer x z (runs_class n p r e h) there apart none = omega arith
  nearer x z (to_group n m r e h) there apart none = omega arith
  nearer x z (runs_group m p h) there apart none = omega arith
  nearer x z (to_blocks p) there apart none = omega arith
  nearer x z (to_first p) there apart none = omega arith
  nearer x z (to_each p i) there apart none = omega arith
  nearer x z (to_passes p i) there apart none = omega arith
  nearer x z (to_next p i) there apart none = omega arith
  nearer x z (starts_last p i n y e h) there apart none = omega arith
  nearer x z (starts_before p i n y e h) there apart none = omega arith
  nearer x z (to_later p i j h) there apart none = let l = block_below p j there.0 there.1 in omega (arith, l, h)
  nearer x z (to_place n m h) there apart none = omega arith
  nearer x z (to_raised n i h) there apart none = absurd none
  nearer x z (to_paired m j i c h a b) there apart none = absurd none

  -- the node of a channel is in a list
  abbrev HasChannel : List ℕ → Type 0
  HasChannel ks = (i channel : ℕ) × (slice_get ks i ≡ Some (at (whole channel))) × (channel < length s.channels)

  here : (x : Part) (i : ℕ) (ks : List ℕ) → There x → x ≡ whole i → HasChannel (at x ∷ ks)
  here x i ks there e = let there_too = subst There e there in (0, i, ap (λ x. Some (at x)) e, channel_there i there_too.0 there_too.1)

  later : (k : ℕ) (ks : List ℕ) → HasChannel ks → HasChannel (k ∷ ks)
  later k ks h = (suc h.0, h.1, h.2, h.3)

  module _ (first : Part) (first_there : There first) (none : NoChannel first) where
    -- round a list from a part on to the first one
    round : (x : Part) (ks : List ℕ) → There x → NoChannel x → LeadRound (edges_in nodes) (at first) (at x ∷ ks) →
        HasChannel (at x ∷ ks) ⊎ (far most_blocks first < far most_blocks x)
    round x [] there apart edge =
        let z = leads_on g s at handlers sketch nodes numbered x there (at first) edge in
        let same = same_part g s at handlers sketch nodes numbered z.0 first z.1 first_there (sym z.2) in
        inr (nearer x first (subst (Leads g s x) same z.3) first_there apart none)
    round x (k ∷ ks) there apart edges =
        let z = leads_on g s at handlers sketch nodes numbered x there k edges.0 in
        on x k ks z.0 apart z.1 z.2 z.3
        (λ further. round z.0 ks z.1 further (subst (λ k. LeadRound (edges_in nodes) (at first) (k ∷ ks)) z.2 edges.1))
      where
        on : (x : Part) (k : ℕ) (ks : List ℕ) (z : Part) → NoChannel x → There z → k ≡ at z → Leads g s x z →
            (NoChannel z → HasChannel (at z ∷ ks) ⊎ (far most_blocks first < far most_blocks z)) →
            HasChannel (at x ∷ k ∷ ks) ⊎ (far most_blocks first < far most_blocks x)
        on x k ks z apart there e leads rest = by (channel_or_none z)
          where
            back : HasChannel (at z ∷ ks) → HasChannel (at x ∷ k ∷ ks)
            back h = later (at x) (k ∷ ks) (subst (λ k. HasChannel (k ∷ ks)) (sym e) h)

            or_far : NoChannel z → HasChannel (at z ∷ ks) ⊎ (far most_blocks first < far most_blocks z) →
                HasChannel (at x ∷ k ∷ ks) ⊎ (far most_blocks first < far most_blocks x)
            or_far further (inl h) = inl (back h)
            or_far further (inr l) = let n = nearer x z leads there apart further in inr (omega (arith, l, n))

            by : ((i : ℕ) × (z ≡ whole i)) ⊎ NoChannel z → HasChannel (at x ∷ k ∷ ks) ⊎ (far most_blocks first < far most_blocks x)
            by (inl i) = inl (back (here z i.0 ks there i.1))
            by (inr further) = or_far further (rest further)

  with_first : (x : Part) (ks : List ℕ) → There x → LeadRound (edges_in nodes) (at x) (at x ∷ ks) → HasChannel (at x ∷ ks)
  with_first x ks there edges = by (channel_or_none x)
    where
      found_or_not : HasChannel (at x ∷ ks) ⊎ (far most_blocks x < far most_blocks x) → HasChannel (at x ∷ ks)
      found_or_not (inl h) = h
      found_or_not (inr h) = absurd (omega (arith, h))

      by : ((i : ℕ) × (x ≡ whole i)) ⊎ NoChannel x → HasChannel (at x ∷ ks)
      by (inl i) = here x i.0 ks there i.1
      by (inr apart) = found_or_not (round x there apart x ks there apart edges)

  first_edge : (first k : ℕ) (ks : List ℕ) → LeadRound (edges_in nodes) first (k ∷ ks) → (to : ℕ) × Edge (edges_in nodes) k to
  first_edge first k [] edge = (first, edge)
  first_edge first k (j ∷ ks) edges = (j, edges.0)

  cycle_has : (cycle : List ℕ) → LeadsRound (edges_in nodes) cycle → HasChannel cycle
  cycle_has [] round = absurd round
  cycle_has (k ∷ ks) round =
      let e = first_edge k k ks round in
      let x = part_at g s at handlers sketch nodes numbered k e.0 e.1 in
      subst (λ k. HasChannel (k ∷ ks)) (sym x.2) (with_first x.0 ks x.1 (subst (λ k. LeadRound (edges_in nodes) k (k ∷ ks)) x.2 round))

pub cycles_have_channels : CyclesHaveChannels
cycles_have_channels g s at handlers nodes cycle sketch numbered is = cycle_has g s at handlers nodes sketch numbered cycle is.round
