-- Where the edges of the nodes of parts lead.
use Rattle.std.proofs.Common.{◌≡◌, inl, inr, ◌⊎◌, refl, sym, ap, subst, ◌∙◌, ℕ, suc, ◌+◌, ◌-◌, ◌<◌, Bool, true, false, cond, List, [], ◌∷◌, ◌++◌, length, map, Option, None, Some, slice_get, arith}
use Rattle.std.specs.Prelude.{nat_eq}
use Rattle.std.specs.List.{filter, flat_map}
use Rattle.std.proofs.lemmas.Bool.{eqb-true}
use Rattle.ui_machine.specs.Seq.{read, listed}
use Rattle.law_typing.specs.Graph.Channels.{Channel}
use Rattle.law_typing.specs.Graph.{Graph, Raised, Start, Stretch}
use Rattle.law_typing.specs.Graph as starts
use Rattle.law_typing.specs.Graph.Ranks.{is_raised, node, running_at, started, started_by}
use Rattle.law_typing.specs.Graph.Costs.{before_last, only_last}
use Rattle.law_typing.specs.Laws.{IsIn}
use Rattle.law_typing.proofs.EdgeProofs.{append_left, append_right, flat_in}
use Rattle.verify_order.specs.Graphs.{Edge, LeadTo}
use Rattle.verify_sketches.specs.Pointwise.{Pointwise, inside}
use Rattle.verify_sketches.specs.Sketches.{AreNamed, IsSketch, IsSketchedBlock, IsSketchedChannel, IsSketchedStart, IsStartOf, Names, Sketch, SketchedBlock, SketchedChannel, SketchedStart, channels_in, nothing, raises, makes, thaws}
use Rattle.verify_sketches.specs.Numbered.{IsNumbered, IsPart, Node, Part, block, block_node, blocks, blocks_node, connected, connected_node, edges_in, end_of, first_block, first_of, group, group_node, next, next_blocks, next_node, nodes_of, of_block, of_blocks, of_connected, of_group, of_next, of_own, of_passes, of_place, of_program, of_stages, of_start, of_whole, own, own_node, passes, passes_node, place, place_node, program, program_node, programs_of, stages, stages_node, start, start_edges, start_node, starts_of, whole, whole_node}
use Rattle.verify_numbers.proofs.SketchLists.{at_first, found, get_map, map_get, one_found, pointwise_map, read_found}
use Rattle.verify_numbers.proofs.SketchParts.{IsChannelAt, named, sketched_at}
use Rattle.verify_numbers.proofs.Members.{append_cases, before_in, get_in, in_first, in_get, inside_cases, last_in, listed_cases, map_cases}

-- where the node of a part has an edge to that of another, and what that means in the graph
pub data Leads (g : Graph) (s : Sketch) : Part → Part → Type 0 where
  to_own : (i n : ℕ) (c : Channel) → Names g n c → Names g i (node g c) → Leads g s (whole i) (own n)
  to_stages : (n : ℕ) → Leads g s (own n) (stages n)
  to_connected : (n : ℕ) → Leads g s (own n) (connected n)
  runs_handler : (n p : ℕ) (r : Raised) → slice_get g.raised n ≡ Some r → IsIn p (running_at r) → Leads g s (own n) (program p)
  to_target : (n i : ℕ) (r : Raised) (c : Channel) → slice_get g.raised n ≡ Some r → IsIn c (filter (is_raised g) r.targets) →
      Names g i (node g c) →
      Leads g s (own n) (whole i)
  runs_class : (n p : ℕ) (r : Raised) → slice_get g.raised n ≡ Some r → IsIn p (running_at r) → Leads g s (stages n) (program p)
  to_group : (n m : ℕ) (r : Raised) → slice_get g.raised n ≡ Some r → ((p : ℕ) → IsIn p (read [] s.groups m) → IsIn p (running_at r)) →
      Leads g s (connected n) (group m)
  runs_group : (m p : ℕ) → IsIn p (read [] s.groups m) → Leads g s (group m) (program p)
  to_blocks : (p : ℕ) → Leads g s (program p) (blocks p)
  to_first : (p : ℕ) → Leads g s (program p) (block p 0)
  to_each : (p i : ℕ) → Leads g s (blocks p) (block p i)
  to_passes : (p i : ℕ) → Leads g s (block p i) (passes p i)
  to_next : (p i : ℕ) → Leads g s (block p i) (next p i)
  starts_last : (p i n : ℕ) (y : Start) → IsStartOf g s n y → ((c : Channel) → IsIn c (started y) → IsIn c (started_by g p)) →
      Leads g s (block p i) (start n)
  starts_before : (p i n : ℕ) (y : Start) → IsStartOf g s n y → ((c : Channel) → IsIn c (started y) → IsIn c (started_by g p)) →
      Leads g s (passes p i) (start n)
  to_later : (p i j : ℕ) → i < j → Leads g s (next p i) (block p j)
  to_place : (n m : ℕ) →
      ((y : Start) (j : ℕ) (c : Channel) → IsStartOf g s n y → IsIn j (read [] s.paired m) → Names g j c → IsIn c (started y)) →
      Leads g s (start n) (place m)
  to_raised : (n i : ℕ) → ((y : Start) → IsStartOf g s n y → (c : Channel) × IsIn c (started y) × Names g i (node g c)) →
      Leads g s (start n) (whole i)
  to_paired : (m j i : ℕ) (c : Channel) → IsIn j (read [] s.paired m) → Names g j c → Names g i (node g c) → Leads g s (place m) (whole i)

module _ (g : Graph) (s : Sketch) (at : Part → ℕ) (handlers : ℕ) (sketch : IsSketch g s) where
  -- there is a node for the part
  abbrev pub IsThere : Part → Type 0
  IsThere x = (y : Node) × IsPart s at handlers x y

  -- an edge leads from a part to this number
  abbrev LeadsTo : Part → ℕ → Type 0
  LeadsTo x to = (z : Part) × IsThere z × (to ≡ at z) × Leads g s x z

  -- ** channels

  -- the node of a channel
  pub first_named : (n : ℕ) (c : Channel) → Names g n c →
      (i : ℕ) × (first_of (slice_get s.channels n) n ≡ i) × (Names g i (node g c)) × IsThere (whole i)
  first_named n c e =
      let x = named g s sketch n c e in
      let f : Names g x.0.first (node g c) = subst (λ c. Names g x.0.first (node g c)) x.3 x.2.is.first in
      let y = named g s sketch x.0.first (node g c) f in
      (x.0.first, ap (λ o. first_of o n) x.2.sketched, f, (whole_node at x.0.first y.0, of_whole x.0.first y.0 y.2.sketched))

  pub one_of_named : (ns : List ℕ) (cs : List Channel) (to : ℕ) → AreNamed g ns cs → IsIn to (nodes_of s at ns) →
      (j : ℕ) × IsIn j ns × (c : Channel) × IsIn c cs × (Names g j c) × (i : ℕ) × (to ≡ at (whole i)) × (Names g i (node g c)) × IsThere (whole i)
  one_of_named ns cs to names h =
      let x = map_cases (λ n. at (whole (first_of (slice_get s.channels n) n))) ns to h in
      let c = in_first (Names g) ns cs x.0 names x.1 in
      let f = first_named x.0 c.0 c.2 in
      (x.0, x.1, c.0, c.1, c.2, f.0, x.2 ∙ ap (λ i. at (whole i)) f.1, f.2, f.3)

  -- ** programs and starts

  pub one_of_programs : (ps : List ℕ) (to : ℕ) → IsIn to (programs_of s at ps) →
      (p : ℕ) × IsIn p ps × (to ≡ at (program p)) × IsThere (program p)
  one_of_programs ps to h =
      let x = map_cases (λ p. at (program p)) (inside (length s.programs) ps) to h in
      let y = inside_cases (length s.programs) x.0 ps x.1 in
      let bs = found s.programs x.0 y.0 in
      (x.0, y.1, x.2, (program_node at x.0 bs.0, of_program x.0 bs.0 bs.1))

  pub one_of_starts : (ns : List ℕ) (to : ℕ) → IsIn to (starts_of s at ns) → (n : ℕ) × IsIn n ns × (to ≡ at (start n)) × IsThere (start n)
  one_of_starts ns to h =
      let x = map_cases (λ n. at (start n)) (inside (length s.starts) ns) to h in
      let y = inside_cases (length s.starts) x.0 ns x.1 in
      let k = found s.starts x.0 y.0 in
      (x.0, y.1, x.2, (start_node s at x.0 k.0, of_start x.0 k.0 k.1))

  -- ** from a channel

  own_there : (n : ℕ) (k : SketchedChannel) → slice_get s.channels n ≡ Some k → IsThere (own n)
  own_there n k e = (own_node s at n k, of_own n k e)

  own_leads : (i n : ℕ) (k : SketchedChannel) → slice_get s.channels n ≡ Some k → k.first ≡ i → Leads g s (whole i) (own n)
  own_leads i n k e f =
      let r = sketched_at g s sketch n k e in
      to_own i n r.0.channel (get_map (λ (r : Raised). r.channel) g.raised n r.0 r.1.raised)
      (subst (λ i. Names g i (node g r.0.channel)) f r.1.is.first)

  other_end_leads : (n o to : ℕ) (k : SketchedChannel) → slice_get s.channels n ≡ Some k → k.first ≡ n → k.other ≡ Some o →
      to ≡ at (own o) → LeadsTo (whole n) to
  other_end_leads n o to k e f is same =
      let x = (sketch.paired n k e).both o is in
      (own o, own_there o x.0 x.1, same, own_leads n o x.0 x.1 (x.3 ∙ f))

  from_whole : (n to : ℕ) (k : SketchedChannel) (b : Bool) (o : Option ℕ) → slice_get s.channels n ≡ Some k → nat_eq k.first n ≡ b →
      k.other ≡ o →
      IsIn to (cond b (at (own n) ∷ end_of at o) []) → LeadsTo (whole n) to
  from_whole n to k false o e is other h = absurd h
  from_whole n to k true None e is other (inl same) = (own n, own_there n k e, same, own_leads n n k e (eqb-true k.first n is))
  from_whole n to k true None e is other (inr h) = absurd h
  from_whole n to k true (Some o) e is other (inl same) = (own n, own_there n k e, same, own_leads n n k e (eqb-true k.first n is))
  from_whole n to k true (Some o) e is other (inr (inl same)) = other_end_leads n o to k e (eqb-true k.first n is) other same
  from_whole n to k true (Some o) e is other (inr (inr h)) = absurd h

  handler_runs : (p : ℕ) (k : SketchedChannel) (r : Raised) → k.handlers ≡ r.handlers → IsIn p k.handlers → IsIn p (running_at r)
  handler_runs p k r same h =
      append_right r.class_handler (r.handlers ++ r.connectable) p (append_left r.handlers r.connectable p (subst (IsIn p) same h))

  class_runs : (p : ℕ) (k : SketchedChannel) (r : Raised) → k.class_handler ≡ r.class_handler → IsIn p k.class_handler →
      IsIn p (running_at r)
  class_runs p k r same h = append_left r.class_handler (r.handlers ++ r.connectable) p (subst (IsIn p) same h)

  group_runs : (m p : ℕ) (k : SketchedChannel) (r : Raised) → IsSketchedChannel g s.groups k r → IsIn m k.groups →
      IsIn p (read [] s.groups m) → IsIn p (running_at r)
  group_runs m p k r is h there =
      append_right r.class_handler (r.handlers ++ r.connectable) p
      (append_right r.handlers r.connectable p (is.connectable.there p (flat_in (read [] s.groups) k.groups m p h there)))

  from_handlers : (n to : ℕ) (k : SketchedChannel) (r : Raised) → IsChannelAt g s n k r → IsIn to (programs_of s at k.handlers) →
      LeadsTo (own n) to
  from_handlers n to k r x h =
      let p = one_of_programs k.handlers to h in
      (program p.0, p.3, p.2, runs_handler n p.0 r x.raised (handler_runs p.0 k r x.is.handlers p.1))

  from_targets : (n to : ℕ) (k : SketchedChannel) (r : Raised) → IsChannelAt g s n k r → IsIn to (nodes_of s at k.targets) →
      LeadsTo (own n) to
  from_targets n to k r x h =
      let c = one_of_named k.targets (filter (is_raised g) r.targets) to x.is.targets h in
      (whole c.5, c.8, c.6, to_target n c.5 r c.2 x.raised c.3 c.7)

  from_own : (n to : ℕ) (k : SketchedChannel) → slice_get s.channels n ≡ Some k → IsIn to (own_node s at n k).edges → LeadsTo (own n) to
  from_own n to k e (inl same) = (stages n, (stages_node s at n k, of_stages n k e), same, to_stages n)
  from_own n to k e (inr (inl same)) = (connected n, (connected_node s at handlers n k, of_connected n k e), same, to_connected n)
  from_own n to k e (inr (inr h)) = by (append_cases (programs_of s at k.handlers) (nodes_of s at k.targets) to h)
    where
      by : IsIn to (programs_of s at k.handlers) ⊎ IsIn to (nodes_of s at k.targets) → LeadsTo (own n) to
      by (inl h) = let r = sketched_at g s sketch n k e in from_handlers n to k r.0 r.1 h
      by (inr h) = let r = sketched_at g s sketch n k e in from_targets n to k r.0 r.1 h

  from_stages : (n to : ℕ) (k : SketchedChannel) → slice_get s.channels n ≡ Some k → IsIn to (programs_of s at k.class_handler) →
      LeadsTo (stages n) to
  from_stages n to k e h =
      let r = sketched_at g s sketch n k e in
      let p = one_of_programs k.class_handler to h in
      (program p.0, p.3, p.2, runs_class n p.0 r.0 r.1.raised (class_runs p.0 k r.0 r.1.is.class_handler p.1))

  from_connected : (n to : ℕ) (k : SketchedChannel) → slice_get s.channels n ≡ Some k →
      IsIn to (map (λ m. at (group m)) (inside (length s.groups) k.groups)) →
      LeadsTo (connected n) to
  from_connected n to k e h =
      let r = sketched_at g s sketch n k e in
      let x = map_cases (λ m. at (group m)) (inside (length s.groups) k.groups) to h in
      let y = inside_cases (length s.groups) x.0 k.groups x.1 in
      let ps = found s.groups x.0 y.0 in
      (group x.0, (group_node s at x.0 ps.0, of_group x.0 ps.0 ps.1), x.2, to_group n x.0 r.0 r.1.raised (λ p. group_runs x.0 p k r.0 r.1.is y.1))

  from_group : (m to : ℕ) (ps : List ℕ) → slice_get s.groups m ≡ Some ps → IsIn to (programs_of s at ps) → LeadsTo (group m) to
  from_group m to ps e h =
      let p = one_of_programs ps to h in
      (program p.0, p.3, p.2, runs_group m p.0 (subst (IsIn p.0) (sym (read_found [] s.groups m ps e)) p.1))

  -- ** from a program

  block_there : (p i : ℕ) (bs : List SketchedBlock) → slice_get s.programs p ≡ Some bs → i < length bs → IsThere (block p i)
  block_there p i bs e h = let b = found bs i h in (block_node s at p i b.0, of_block p i bs b.0 e b.1)

  from_first : (p to : ℕ) (bs xs : List SketchedBlock) → slice_get s.programs p ≡ Some bs → xs ≡ bs →
      IsIn to (first_block at p (length xs) ++ at (blocks p) ∷ []) → LeadsTo (program p) to
  from_first p to bs [] e same (inl is) = (blocks p, (blocks_node at p bs, of_blocks p bs e), is, to_blocks p)
  from_first p to bs [] e same (inr h) = absurd h
  from_first p to bs (x ∷ xs) e same (inl is) = (
    block p 0,
    block_there p 0 bs e (let l = ap length same in omega (arith, l)),
    is,
    to_first p,
  )
  from_first p to bs (x ∷ xs) e same (inr (inl is)) = (blocks p, (blocks_node at p bs, of_blocks p bs e), is, to_blocks p)
  from_first p to bs (x ∷ xs) e same (inr (inr h)) = absurd h

  from_blocks : (p to : ℕ) (bs : List SketchedBlock) → slice_get s.programs p ≡ Some bs →
      IsIn to (listed (λ i. at (block p i)) (length bs)) → LeadsTo (blocks p) to
  from_blocks p to bs e h =
      let x = listed_cases (λ i. at (block p i)) (length bs) to h in
      (block p x.0, block_there p x.0 bs e x.1, x.2, to_each p x.0)

  -- what a block of a program starts, the program starts
  block_starts : (p i : ℕ) (bs : List SketchedBlock) (b : SketchedBlock) (n : ℕ) → slice_get s.programs p ≡ Some bs →
      slice_get bs i ≡ Some b → IsIn n b.starts →
      (y : Start) × IsStartOf g s n y × ((c : Channel) → IsIn c (started y) → IsIn c (started_by g p))
  block_starts p i bs b n e f h =
      let ys = at_first (Pointwise (IsSketchedBlock g s)) s.programs g.programs p bs sketch.programs e in
      let y = at_first (IsSketchedBlock g s) bs ys.0 i b ys.2 f in
      let st = in_first (IsStartOf g s) b.starts y.0.starts n y.2.starts h in
      let here : (c : Channel) → IsIn c (started st.0) → IsIn c (flat_map (λ (y : Stretch). flat_map started y.starts) ys.0) =
      λ c k. flat_in (λ (y : Stretch). flat_map started y.starts) ys.0 y.0 c (get_in ys.0 i y.0 y.1) (flat_in started y.0.starts st.0 c st.1 k) in (
        st.0,
        st.2,
        λ c k. subst (λ zs. IsIn c (flat_map (λ (y : Stretch). flat_map started y.starts) zs)) (sym (read_found [] g.programs p ys.0 ys.1)) (here c k),
      )

  from_last : (p i to : ℕ) (bs : List SketchedBlock) (b : SketchedBlock) → slice_get s.programs p ≡ Some bs → slice_get bs i ≡ Some b →
      IsIn to (starts_of s at (only_last b.starts)) → LeadsTo (block p i) to
  from_last p i to bs b e f h =
      let n = one_of_starts (only_last b.starts) to h in
      let y = block_starts p i bs b n.0 e f (last_in b.starts n.0 n.1) in
      (start n.0, n.3, n.2, starts_last p i n.0 y.0 y.1 y.2)

  from_block : (p i to : ℕ) (bs : List SketchedBlock) (b : SketchedBlock) → slice_get s.programs p ≡ Some bs → slice_get bs i ≡ Some b →
      IsIn to (block_node s at p i b).edges → LeadsTo (block p i) to
  from_block p i to bs b e f (inl same) = (passes p i, (passes_node s at p i b, of_passes p i bs b e f), same, to_passes p i)
  from_block p i to bs b e f (inr (inl same)) = (next p i, (next_node at p (length bs) i b, of_next p i bs b e f), same, to_next p i)
  from_block p i to bs b e f (inr (inr h)) = from_last p i to bs b e f h

  from_passes : (p i to : ℕ) (bs : List SketchedBlock) (b : SketchedBlock) → slice_get s.programs p ≡ Some bs → slice_get bs i ≡ Some b →
      IsIn to (starts_of s at (before_last b.starts)) → LeadsTo (passes p i) to
  from_passes p i to bs b e f h =
      let n = one_of_starts (before_last b.starts) to h in
      let y = block_starts p i bs b n.0 e f (before_in b.starts n.0 n.1) in
      (start n.0, n.3, n.2, starts_before p i n.0 y.0 y.1 y.2)

  from_next : (p i to : ℕ) (bs : List SketchedBlock) (b : SketchedBlock) → slice_get s.programs p ≡ Some bs → slice_get bs i ≡ Some b →
      IsIn to (next_blocks at p (length bs) i b.next) → LeadsTo (next p i) to
  from_next p i to bs b e f h =
      let x = map_cases (λ j. at (block p j)) (inside (length bs) (map (λ j. suc i + (j - suc i)) b.next)) to h in
      let y = inside_cases (length bs) x.0 (map (λ j. suc i + (j - suc i)) b.next) x.1 in
      let z = map_cases (λ j. suc i + (j - suc i)) b.next x.0 y.1 in
      let later = z.2 in
      (block p x.0, block_there p x.0 bs e y.0, x.2, to_later p i x.0 (omega (arith, later)))

  -- ** from a start

  -- numbers of channels that may be started, where the start is sketched so
  abbrev Named : List ℕ → Start → Type 0
  Named ns y = (cs : List Channel) × AreNamed g ns cs × ((c : Channel) → IsIn c cs → IsIn c (started y))

  raises_named : (ns : List ℕ) (y : Start) → IsSketchedStart g s.paired (raises ns) y → Named ns y
  raises_named ns starts.nothing h = absurd h
  raises_named ns (starts.raises cs) h = (cs, h, λ c k. k)
  raises_named ns (starts.makes cs) h = absurd h
  raises_named ns (starts.thaws css) h = absurd h

  makes_named : (ns : List ℕ) (y : Start) → IsSketchedStart g s.paired (makes ns) y → Named ns y
  makes_named ns starts.nothing h = absurd h
  makes_named ns (starts.raises cs) h = absurd h
  makes_named ns (starts.makes cs) h = (cs, h, λ c k. k)
  makes_named ns (starts.thaws css) h = absurd h

  thaw_named : (ps : List ℕ) (m j : ℕ) (c : Channel) (y : Start) → IsSketchedStart g s.paired (thaws ps) y → IsIn m ps →
      IsIn j (read [] s.paired m) → Names g j c → IsIn c (started y)
  thaw_named ps m j c starts.nothing h there has names = absurd h
  thaw_named ps m j c (starts.raises cs) h there has names = absurd h
  thaw_named ps m j c (starts.makes cs) h there has names = absurd h
  thaw_named ps m j c (starts.thaws css) h there has names =
      let x =
      in_first (λ (m : ℕ) (cs : List Channel). AreNamed g (read [] s.paired m) cs) ps css m
      (pointwise_map (AreNamed g) (read [] s.paired) ps css h) there in
      let d = in_first (Names g) (read [] s.paired m) x.0 j x.2 has in
      let same : d.0 ≡ c = one_found d.0 c (slice_get (channels_in g) j) d.2 names in
      flat_in (λ (cs : List Channel). cs) css x.0 c x.1 (subst (λ d. IsIn d x.0) same d.1)

  -- a start that is kept is that of its number
  kept : (n : ℕ) (k : SketchedStart) (y : Start) → slice_get s.starts n ≡ Some k → IsStartOf g s n y → IsSketchedStart g s.paired k y
  kept n k y e h = subst (λ k. IsSketchedStart g s.paired k y) (read_found nothing s.starts n k e) h

  from_named : (n to : ℕ) (ns : List ℕ) (y : Start) → Named ns y → ((z : Start) → IsStartOf g s n z → Named ns z) →
      IsIn to (nodes_of s at ns) → LeadsTo (start n) to
  from_named n to ns y names all h =
      let c = one_of_named ns names.0 to names.1 h in (
        whole c.5,
        c.8,
        c.6,
        to_raised n c.5 (λ z is.
            let x = all z is in
            let d = in_first (Names g) ns x.0 c.0 x.1 c.1 in
            let same : c.2 ≡ d.0 = one_found c.2 d.0 (slice_get (channels_in g) c.0) c.4 d.2 in
            (d.0, x.2 d.0 d.1, subst (λ d. Names g c.5 (node g d)) same c.7)),
      )

  from_thaws : (n to : ℕ) (ps : List ℕ) → slice_get s.starts n ≡ Some (thaws ps) →
      IsIn to (map (λ m. at (place m)) (inside (length s.paired) ps)) → LeadsTo (start n) to
  from_thaws n to ps e h =
      let x = map_cases (λ m. at (place m)) (inside (length s.paired) ps) to h in
      let y = inside_cases (length s.paired) x.0 ps x.1 in
      let ns = found s.paired x.0 y.0 in (
        place x.0,
        (place_node s at x.0 ns.0, of_place x.0 ns.0 ns.1),
        x.2,
        to_place n x.0 (λ z j c is has names. thaw_named ps x.0 j c z (kept n (thaws ps) z e is) y.1 has names),
      )

  from_start : (n to : ℕ) (k : SketchedStart) → slice_get s.starts n ≡ Some k → IsIn to (start_edges s at k) → LeadsTo (start n) to
  from_start n to nothing e h = absurd h
  from_start n to (raises ns) e h =
      let y = sketch.starts n (raises ns) e in
      from_named n to ns y.0 (raises_named ns y.0 y.1) (λ z is. raises_named ns z (kept n (raises ns) z e is)) h
  from_start n to (makes ns) e h =
      let y = sketch.starts n (makes ns) e in
      from_named n to ns y.0 (makes_named ns y.0 y.1) (λ z is. makes_named ns z (kept n (makes ns) z e is)) h
  from_start n to (thaws ps) e h = from_thaws n to ps e h

  from_place : (m to : ℕ) (ns : List ℕ) → slice_get s.paired m ≡ Some ns → IsIn to (nodes_of s at ns) → LeadsTo (place m) to
  from_place m to ns e h =
      let y = sketch.places m ns e in
      let c = one_of_named ns y.0 to y.1 h in
      (whole c.5, c.8, c.6, to_paired m c.0 c.5 c.2 (subst (IsIn c.0) (sym (read_found [] s.paired m ns e)) c.1) c.4 c.7)

  -- ** from any part

  pub edge_there : (x : Part) (y : Node) (to : ℕ) → IsPart s at handlers x y → IsIn to y.edges → LeadsTo x to
  edge_there x y to (of_whole i k e) h = from_whole i to k (nat_eq k.first i) k.other e refl refl h
  edge_there x y to (of_own i k e) h = from_own i to k e h
  edge_there x y to (of_stages i k e) h = from_stages i to k e h
  edge_there x y to (of_connected i k e) h = from_connected i to k e h
  edge_there x y to (of_group i ps e) h = from_group i to ps e h
  edge_there x y to (of_program i bs e) h = from_first i to bs bs e refl h
  edge_there x y to (of_blocks i bs e) h = from_blocks i to bs e h
  edge_there x y to (of_place i cs e) h = from_place i to cs e h
  edge_there x y to (of_start i k e) h = from_start i to k e h
  edge_there x y to (of_block p i bs b e f) h = from_block p i to bs b e f h
  edge_there x y to (of_passes p i bs b e f) h = from_passes p i to bs b e f h
  edge_there x y to (of_next p i bs b e f) h = from_next p i to bs b e f h

  part_is : (x : Part) (y : Node) → IsPart s at handlers x y → y.part ≡ x
  part_is x y (of_whole i k e) = refl
  part_is x y (of_own i k e) = refl
  part_is x y (of_stages i k e) = refl
  part_is x y (of_connected i k e) = refl
  part_is x y (of_group i ps e) = refl
  part_is x y (of_program i bs e) = refl
  part_is x y (of_blocks i bs e) = refl
  part_is x y (of_place i cs e) = refl
  part_is x y (of_start i k e) = refl
  part_is x y (of_block p i bs b e f) = refl
  part_is x y (of_passes p i bs b e f) = refl
  part_is x y (of_next p i bs b e f) = refl

  module _ (nodes : List Node) (numbered : IsNumbered s at handlers nodes) where
    -- no two parts have one number
    pub same_part : (x z : Part) → IsThere x → IsThere z → at x ≡ at z → x ≡ z
    same_part x z p q e =
        let a = numbered.there x p.0 p.1 in
        let b = ap (slice_get nodes) e ∙ numbered.there z q.0 q.1 in
        let same : p.0 ≡ q.0 = one_found p.0 q.0 (slice_get nodes (at x)) a b in
        sym (part_is x p.0 p.1) ∙ (ap (λ (y : Node). y.part) same ∙ part_is z q.0 q.1)

    -- each edge is one between parts
    pub leads_back : (from : ℕ) (z : Part) → IsThere z → Edge (edges_in nodes) from (at z) →
        (x : Part) × IsThere x × (from ≡ at x) × Leads g s x z
    leads_back from z there edge = by (slice_get (edges_in nodes) from) refl edge
      where
        at_part : (y : Node) (es : List ℕ) → slice_get nodes from ≡ Some y → y.edges ≡ es → IsIn (at z) es →
            (x : Part) × IsThere x × (from ≡ at x) × Leads g s x z
        at_part y es e same h =
            let x = numbered.each from y e in
            let w = edge_there y.part y (at z) x.1 (subst (IsIn (at z)) (sym same) h) in
            let is = same_part w.0 z w.1 there (sym w.2) in
            (y.part, (y, x.1), sym x.0, subst (Leads g s y.part) is w.3)

        by : (o : Option (List ℕ)) → slice_get (edges_in nodes) from ≡ o → LeadTo o (at z) →
            (x : Part) × IsThere x × (from ≡ at x) × Leads g s x z
        by None e h = absurd h
        by (Some es) e h =
            let y = map_get (λ (y : Node). y.edges) nodes from es e in
            at_part y.0 es y.1 y.2 (get_in es h.0 (at z) h.1)

    -- and the other way round
    pub edge_from : (x : Part) (y : Node) (to : ℕ) → IsPart s at handlers x y → IsIn to y.edges → Edge (edges_in nodes) (at x) to
    edge_from x y to is h =
        subst (λ o. LeadTo o to) (sym (get_map (λ (y : Node). y.edges) nodes (at x) y (numbered.there x y is))) (in_get y.edges to h)

    -- where an edge begins there is a part
    pub part_at : (from to : ℕ) → Edge (edges_in nodes) from to → (x : Part) × IsThere x × (from ≡ at x)
    part_at from to edge = by (slice_get (edges_in nodes) from) refl edge
      where
        at_node : (y : Node) → slice_get nodes from ≡ Some y → (x : Part) × IsThere x × (from ≡ at x)
        at_node y e = let x = numbered.each from y e in (y.part, (y, x.1), sym x.0)

        by : (o : Option (List ℕ)) → slice_get (edges_in nodes) from ≡ o → LeadTo o to → (x : Part) × IsThere x × (from ≡ at x)
        by None e h = absurd h
        by (Some es) e h = let y = map_get (λ (y : Node). y.edges) nodes from es e in at_node y.0 y.1

    -- and where it leads there is one
    pub leads_on : (x : Part) → IsThere x → (to : ℕ) → Edge (edges_in nodes) (at x) to →
        (z : Part) × IsThere z × (to ≡ at z) × Leads g s x z
    leads_on x there to edge =
        let y = there.0 in
        let h = subst (λ o. LeadTo o to) (get_map (λ (y : Node). y.edges) nodes (at x) y (numbered.there x y there.1)) edge in
        edge_there x y to there.1 (get_in y.edges h.0 to h.1)
