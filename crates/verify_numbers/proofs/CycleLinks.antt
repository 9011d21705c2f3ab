-- A cycle of nodes is a cycle of the graph: what a path of parts has come by is what leads from one channel to the next.
use Rattle.std.proofs.Common.{◌≡◌, inl, inr, refl, sym, ap, subst, ◌∙◌, ℕ, suc, true, List, [], ◌∷◌, map, Some, slice_get, arith}
use Rattle.std.specs.Prelude.{◌&&◌, not}
use Rattle.std.specs.List.{filter, flat_map, list_any}
use Rattle.std.proofs.lemmas.Bool.{and_from, eq-eqb, false_from_ne_true}
use Rattle.ui_machine.specs.Seq.{read}
use Rattle.law_typing.specs.Graph.Channels.{Cause, Channel, Link, same_channel}
use Rattle.law_typing.specs.Graph.Channels as causes
use Rattle.law_typing.specs.Graph.{Graph, Raised, Start}
use Rattle.law_typing.specs.Graph.Ranks.{Arrow, arrow, arrows, arrows_by, arrows_from, is_cycle, is_edge, is_raised, leads_to, node, running_at, same_cause, started, started_by}
use Rattle.law_typing.specs.Laws.{IsIn}
use Rattle.law_typing.specs.Laws.WellRead.{no_two}
use Rattle.law_typing.proofs.Lists.{any_in, any_true, map_in, same_channel_refl, same_channel_true}
use Rattle.law_typing.proofs.EdgeProofs.{append_left, append_right, flat_in}
use Rattle.verify_order.specs.Graphs.{Edge, IsOnce, LeadRound}
use Rattle.verify_sketches.specs.Sketches.{IsSketch, IsStartOf, Names, Sketch, channels_in}
use Rattle.verify_sketches.specs.Numbered.{IsNumbered, IsPart, Node, Part, block, blocks, connected, edges_in, group, next, of_whole, own, passes, place, program, stages, start, whole}
use Rattle.verify_numbers.specs.Cycles.{CyclesAreTold, HaveNodes, by, channel_numbered, channel_or, links_after, links_of}
use Rattle.verify_numbers.proofs.SketchLists.{get_map, one_found}
use Rattle.verify_numbers.proofs.SketchParts.{sketched_at}
use Rattle.verify_numbers.proofs.OrderBounds.{once_after}
use Rattle.verify_numbers.proofs.Members.{get_in, in_get, map_cases}
use Rattle.verify_numbers.proofs.PartEdges.{Leads, leads_on, runs_class, runs_group, runs_handler, same_part, starts_before, starts_last, to_blocks, to_connected, to_each, to_first, to_group, to_later, to_next, to_own, to_paired, to_passes, to_place, to_raised, to_stages, to_target}

same_cause_refl : (c : Cause) → same_cause c c ≡ true
same_cause_refl (causes.program p) = eq-eqb p p refl
same_cause_refl causes.binding = refl

-- an edge that is there is found
edge_found : (edges : List Arrow) (a : Arrow) (from : Channel) (cause : Cause) (to : Channel) → IsIn a edges → a.from ≡ from →
    a.by ≡ cause → a.to ≡ to →
    is_edge edges from cause to ≡ true
edge_found edges a from cause to h e f i =
    any_true (λ (a : Arrow). same_channel a.from from && (same_cause a.by cause && same_channel a.to to)) edges a h
    (and_from (same_channel a.from from) (same_cause a.by cause && same_channel a.to to) (subst (λ c. same_channel a.from c ≡ true) e (same_channel_refl a.from))
    (and_from (same_cause a.by cause) (same_channel a.to to) (subst (λ c. same_cause a.by c ≡ true) f (same_cause_refl a.by))
    (subst (λ c. same_channel a.to c ≡ true) i (same_channel_refl a.to))))

module _ (g : Graph) (s : Sketch) where
  -- ** what is known of a path by the part that it has come to

  -- it is at a channel, and no program has run
  abbrev AtChannel : ℕ → Link → Type 0
  AtChannel n l = (c : Channel) × (Names g n c) × (l.from ≡ node g c) × (l.by ≡ causes.binding)

  abbrev InGroup : ℕ → Link → Type 0
  InGroup m l = (r : Raised) × IsIn r g.raised × (l.from ≡ node g r.channel) × ((p : ℕ) → IsIn p (read [] s.groups m) → IsIn p (running_at r))

  -- a program runs there
  abbrev Running : ℕ → Link → Type 0
  Running p l = (r : Raised) × IsIn r g.raised × (l.from ≡ node g r.channel) × IsIn p (running_at r) × (l.by ≡ causes.program p)

  abbrev Starting : ℕ → Link → Type 0
  Starting n l = (p : ℕ) × (y : Start) × IsStartOf g s n y × ((c : Channel) → IsIn c (started y) → IsIn c (started_by g p)) × Running p l

  abbrev Thawing : ℕ → Link → Type 0
  Thawing m l = (p : ℕ) × ((j : ℕ) (c : Channel) → IsIn j (read [] s.paired m) → Names g j c → IsIn c (started_by g p)) × Running p l

  abbrev Known : Part → Link → Type 0
  Known (whole i) l = Names g i l.from × (l.by ≡ causes.binding)
  Known (own n) l = AtChannel n l
  Known (stages n) l = AtChannel n l
  Known (connected n) l = AtChannel n l
  Known (group m) l = InGroup m l
  Known (program p) l = Running p l
  Known (blocks p) l = Running p l
  Known (place m) l = Thawing m l
  Known (start n) l = Starting n l
  Known (block p i) l = Running p l
  Known (passes p i) l = Running p l
  Known (next p i) l = Running p l

  -- and what is then known at the next part: an edge has led to a channel, and a program is what the link is by
  abbrev Next : Part → Link → Type 0
  Next (whole i) l = (m : Channel) → Names g i m → is_edge (arrows g) l.from l.by m ≡ true
  Next (own n) l = AtChannel n l
  Next (stages n) l = AtChannel n l
  Next (connected n) l = AtChannel n l
  Next (group m) l = InGroup m l
  Next (program p) l = Running p (by (causes.program p) l)
  Next (blocks p) l = Running p l
  Next (place m) l = Thawing m l
  Next (start n) l = Starting n l
  Next (block p i) l = Running p l
  Next (passes p i) l = Running p l
  Next (next p i) l = Running p l

  -- ** the edges of the graph

  by_program : (p f : ℕ) (l : Link) (c : Channel) → IsIn c (started_by g p) → Names g f (node g c) → Running p l → (m : Channel) →
      Names g f m →
      is_edge (arrows g) l.from l.by m ≡ true
  by_program p f l c starts named_to runs m names =
      let r = runs.0 in
      edge_found (arrows g) (arrow g r.channel (causes.program p) c) l.from l.by m
      (flat_in (arrows_from g) g.raised r (arrow g r.channel (causes.program p) c) runs.1
      (append_left (flat_map (arrows_by g r.channel) (running_at r)) (map (arrow g r.channel causes.binding) (filter (is_raised g) r.targets))
      (arrow g r.channel (causes.program p) c)
      (flat_in (arrows_by g r.channel) (running_at r) p (arrow g r.channel (causes.program p) c) runs.3
      (map_in (arrow g r.channel (causes.program p)) (started_by g p) c starts))))
      (sym runs.2) (sym runs.4) (one_found (node g c) m (slice_get (channels_in g) f) named_to names)

  same_raised : (n : ℕ) (r : Raised) (l : Link) → slice_get g.raised n ≡ Some r → AtChannel n l → l.from ≡ node g r.channel
  same_raised n r l is known =
      known.2
      ∙ ap (node g) (one_found known.0 r.channel (slice_get (channels_in g) n) known.1 (get_map (λ (r : Raised). r.channel) g.raised n r is))

  by_binding : (n f : ℕ) (l : Link) (r : Raised) (c : Channel) → slice_get g.raised n ≡ Some r → IsIn c (filter (is_raised g) r.targets) →
      Names g f (node g c) → AtChannel n l →
      (m : Channel) → Names g f m → is_edge (arrows g) l.from l.by m ≡ true
  by_binding n f l r c is leads named_to known m names =
      edge_found (arrows g) (arrow g r.channel causes.binding c) l.from l.by m
      (flat_in (arrows_from g) g.raised r (arrow g r.channel causes.binding c) (get_in g.raised n r is)
      (append_right (flat_map (arrows_by g r.channel) (running_at r)) (map (arrow g r.channel causes.binding) (filter (is_raised g) r.targets))
      (arrow g r.channel causes.binding c)
      (map_in (arrow g r.channel causes.binding) (filter (is_raised g) r.targets) c leads)))
      (sym (same_raised n r l is known)) (sym known.3) (one_found (node g c) m (slice_get (channels_in g) f) named_to names)

  runs_there : (n p : ℕ) (l : Link) (r : Raised) → slice_get g.raised n ≡ Some r → IsIn p (running_at r) → AtChannel n l →
      Running p (by (causes.program p) l)
  runs_there n p l r is runs known = (r, get_in g.raised n r is, same_raised n r l is known, runs, refl)

  -- ** from part to part

  step : (x z : Part) (l : Link) → Leads g s x z → Known x l → Next z l
  step x z l (to_own i n c a b) k = (c, a, one_found l.from (node g c) (slice_get (channels_in g) i) k.0 b, k.1)
  step x z l (to_stages n) k = k
  step x z l (to_connected n) k = k
  step x z l (runs_handler n p r e h) k = runs_there n p l r e h k
  step x z l (to_target n i r c e h a) k = by_binding n i l r c e h a k
  step x z l (runs_class n p r e h) k = runs_there n p l r e h k
  step x z l (to_group n m r e h) k = (r, get_in g.raised n r e, same_raised n r l e k, h)
  step x z l (runs_group m p h) k = (k.0, k.1, k.2, k.3 p h, refl)
  step x z l (to_blocks p) k = k
  step x z l (to_first p) k = k
  step x z l (to_each p i) k = k
  step x z l (to_passes p i) k = k
  step x z l (to_next p i) k = k
  step x z l (starts_last p i n y e h) k = (p, y, e, h, k)
  step x z l (starts_before p i n y e h) k = (p, y, e, h, k)
  step x z l (to_later p i j h) k = k
  step x z l (to_place n m h) k = (k.0, λ j c has names. k.3 c (h k.1 j c k.2 has names), k.4)
  step x z l (to_raised n i h) k = let c = h k.1 k.2 in by_program k.0 i l c.0 (k.3 c.0 c.1) c.2 k.4
  step x z l (to_paired m j i c h a b) k = by_program k.0 i l c (k.1 j c h a) b k.2

-- the channels of some parts
abbrev channels_of : List Part → List ℕ
channels_of [] = []
channels_of (whole i ∷ more) = i ∷ channels_of more
channels_of (own n ∷ more) = channels_of more
channels_of (stages n ∷ more) = channels_of more
channels_of (connected n ∷ more) = channels_of more
channels_of (group m ∷ more) = channels_of more
channels_of (program p ∷ more) = channels_of more
channels_of (blocks p ∷ more) = channels_of more
channels_of (place m ∷ more) = channels_of more
channels_of (start n ∷ more) = channels_of more
channels_of (block p i ∷ more) = channels_of more
channels_of (passes p i ∷ more) = channels_of more
channels_of (next p i ∷ more) = channels_of more

channel_of_part : (i : ℕ) (parts : List Part) → IsIn i (channels_of parts) → IsIn (whole i) parts
channel_of_part i [] h = h
channel_of_part i (whole j ∷ more) (inl e) = inl (ap whole e)
channel_of_part i (whole j ∷ more) (inr h) = inr (channel_of_part i more h)
channel_of_part i (own n ∷ more) h = inr (channel_of_part i more h)
channel_of_part i (stages n ∷ more) h = inr (channel_of_part i more h)
channel_of_part i (connected n ∷ more) h = inr (channel_of_part i more h)
channel_of_part i (group m ∷ more) h = inr (channel_of_part i more h)
channel_of_part i (program p ∷ more) h = inr (channel_of_part i more h)
channel_of_part i (blocks p ∷ more) h = inr (channel_of_part i more h)
channel_of_part i (place m ∷ more) h = inr (channel_of_part i more h)
channel_of_part i (start n ∷ more) h = inr (channel_of_part i more h)
channel_of_part i (block p j ∷ more) h = inr (channel_of_part i more h)
channel_of_part i (passes p j ∷ more) h = inr (channel_of_part i more h)
channel_of_part i (next p j ∷ more) h = inr (channel_of_part i more h)

module _ (g : Graph) where
  -- links go on from the first one's channel
  links_head : (parts : List Part) (l : Link) → (m : Link) × (ms : List Link) × (links_after g l parts ≡ m ∷ ms) × (m.from ≡ l.from)
  links_head [] l = (l, [], refl, refl)
  links_head (whole i ∷ more) l = (l, links_after g (record { from = channel_numbered g i; by = causes.binding }) more, refl, refl)
  links_head (own n ∷ more) l = links_head more l
  links_head (stages n ∷ more) l = links_head more l
  links_head (connected n ∷ more) l = links_head more l
  links_head (group m ∷ more) l = links_head more l
  links_head (program p ∷ more) l = links_head more (by (causes.program p) l)
  links_head (blocks p ∷ more) l = links_head more l
  links_head (place m ∷ more) l = links_head more l
  links_head (start n ∷ more) l = links_head more l
  links_head (block p i ∷ more) l = links_head more l
  links_head (passes p i ∷ more) l = links_head more l
  links_head (next p i ∷ more) l = links_head more l

  abbrev froms : List Link → List Channel
  froms links = map (λ (l : Link). l.from) links

  -- and their channels are those of the parts
  links_from : (parts : List Part) (l : Link) → froms (links_after g l parts) ≡ l.from ∷ map (channel_numbered g) (channels_of parts)
  links_from [] l = refl
  links_from (whole i ∷ more) l =
      ap (λ (cs : List Channel). l.from ∷ cs) (links_from more (record { from = channel_numbered g i; by = causes.binding }))
  links_from (own n ∷ more) l = links_from more l
  links_from (stages n ∷ more) l = links_from more l
  links_from (connected n ∷ more) l = links_from more l
  links_from (group m ∷ more) l = links_from more l
  links_from (program p ∷ more) l = links_from more (by (causes.program p) l)
  links_from (blocks p ∷ more) l = links_from more l
  links_from (place m ∷ more) l = links_from more l
  links_from (start n ∷ more) l = links_from more l
  links_from (block p i ∷ more) l = links_from more l
  links_from (passes p i ∷ more) l = links_from more l
  links_from (next p i ∷ more) l = links_from more l

-- a link in front
one_more : (edges : List Arrow) (first : Channel) (l m : Link) (ms links : List Link) (c : Channel) → links ≡ m ∷ ms → m.from ≡ c →
    is_edge edges l.from l.by c ≡ true →
    leads_to edges first links ≡ true → leads_to edges first (l ∷ links) ≡ true
one_more edges first l m ms links c e is edge rest =
    ap (λ (ls : List Link). leads_to edges first (l ∷ ls)) e
    ∙ and_from (is_edge edges l.from l.by m.from) (leads_to edges first (m ∷ ms)) (ap (is_edge edges l.from l.by) is ∙ edge)
    (sym (ap (leads_to edges first) e) ∙ rest)

module _ (g : Graph) (s : Sketch) (at : Part → ℕ) (handlers : ℕ) (nodes : List Node) (sketch : IsSketch g s)
    (numbered : IsNumbered s at handlers nodes) where
  abbrev There : Part → Type 0
  There x = (y : Node) × IsPart s at handlers x y

  abbrev AllThere : List Part → Type 0
  AllThere parts = (i : ℕ) (x : Part) → slice_get parts i ≡ Some x → There x

  all_there : (parts : List Part) → HaveNodes at nodes parts → AllThere parts
  all_there parts have i x e =
      let y = have i x e in
      let p = numbered.each (at x) y.0 y.1 in
      (y.0, subst (λ x. IsPart s at handlers x y.0) y.2 p.1)

  -- the channel of the node of a channel
  channel_is : (i : ℕ) (y : Node) → IsPart s at handlers (whole i) y → Names g i (channel_numbered g i)
  channel_is i y (of_whole j k e) =
      let r = sketched_at g s sketch i k e in
      let names = get_map (λ (r : Raised). r.channel) g.raised i r.0 r.1.raised in
      names ∙ ap Some (sym (ap channel_or names))

  between : (x z : Part) → There x → There z → Edge (edges_in nodes) (at x) (at z) → Leads g s x z
  between x z p q edge =
      let w = leads_on g s at handlers sketch nodes numbered x p (at z) edge in
      subst (Leads g s x) (same_part g s at handlers sketch nodes numbered w.0 z w.1 q (sym w.2)) w.3

  -- ** round the parts

  module _ (channel : ℕ) (first_there : There (whole channel)) where
    abbrev first : Channel
    first = channel_numbered g channel

    -- what the links after a part are, where the links after the next one lead on
    on : (z : Part) (more : List Part) (l : Link) → There z → Next g s z l →
        ((k : Link) → Known g s z k → leads_to (arrows g) first (links_after g k more) ≡ true) →
        leads_to (arrows g) first (links_after g l (z ∷ more)) ≡ true
    on (whole i) more l there is rest =
        let names = channel_is i there.0 there.1 in
        let k : Link = record { from = channel_numbered g i; by = causes.binding } in
        let h = links_head g more k in
        one_more (arrows g) first l h.0 h.1 (links_after g k more) (channel_numbered g i) h.2 h.3 (is (channel_numbered g i) names)
        (rest k (names, refl))
    on (own n) more l there is rest = rest l is
    on (stages n) more l there is rest = rest l is
    on (connected n) more l there is rest = rest l is
    on (group m) more l there is rest = rest l is
    on (program p) more l there is rest = rest (by (causes.program p) l) is
    on (blocks p) more l there is rest = rest l is
    on (place m) more l there is rest = rest l is
    on (start n) more l there is rest = rest l is
    on (block p i) more l there is rest = rest l is
    on (passes p i) more l there is rest = rest l is
    on (next p i) more l there is rest = rest l is

    round : (parts : List Part) (x : Part) (l : Link) → There x → AllThere parts → Known g s x l →
        LeadRound (edges_in nodes) (at (whole channel)) (at x ∷ map at parts) → leads_to (arrows g) first (links_after g l parts) ≡ true
    round [] x l there all known edge =
        step g s x (whole channel) l (between x (whole channel) there first_there edge) known first
        (channel_is channel first_there.0 first_there.1)
    round (z ∷ more) x l there all known edges =
        let z_there = all 0 z refl in
        on z more l z_there (step g s x z l (between x z there z_there edges.0) known)
        (λ k known_next. round more z k z_there (λ i w e. all (suc i) w e) known_next edges.1)

    cycle_told : (parts : List Part) → AllThere parts →
        LeadRound (edges_in nodes) (at (whole channel)) (at (whole channel) ∷ map at parts) → is_cycle g (links_of g channel parts) ≡ true
    cycle_told parts all edges =
        let l : Link = record { from = first; by = causes.binding } in
        let h = links_head g parts l in
        let rest = round parts (whole channel) l first_there all (channel_is channel first_there.0 first_there.1, refl) edges in
        ap (is_cycle g) h.2
        ∙ (ap (λ c. leads_to (arrows g) c (h.0 ∷ h.1)) h.3 ∙ (sym (ap (leads_to (arrows g) first) h.2) ∙ rest))

  -- ** no channel is twice

  no_other : (i : ℕ) (more : List Part) → There (whole i) → AllThere more → IsOnce (at (whole i) ∷ map at more) →
      list_any (same_channel (channel_numbered g i)) (map (channel_numbered g) (channels_of more)) ≡ true → ⊥
  no_other i more there all once e =
      let x = any_in (same_channel (channel_numbered g i)) (map (channel_numbered g) (channels_of more)) e in
      let j = map_cases (channel_numbered g) (channels_of more) x.0 x.1 in
      let k = in_get more (whole j.0) (channel_of_part j.0 more j.1) in
      let other = all k.0 (whole j.0) k.1 in
      let same : channel_numbered g j.0 ≡ channel_numbered g i = sym (same_channel_true (channel_numbered g i) x.0 x.2 ∙ j.2) in
      let names = channel_is j.0 other.0 other.1 ∙ ap Some same in
      let is = sketch.once i j.0 (channel_numbered g i) (channel_is i there.0 there.1) names in
      let twice = once 0 (suc k.0) (at (whole i)) refl (get_map at more k.0 (whole j.0) k.1 ∙ ap (λ i. Some (at (whole i))) (sym is)) in
      absurd (omega (arith, twice))

  once_told : (parts : List Part) → AllThere parts → IsOnce (map at parts) →
      no_two same_channel (map (channel_numbered g) (channels_of parts)) ≡ true
  once_told [] all once = refl
  once_told (z ∷ more) all once =
      by_part z (all 0 z refl) once (once_told more (λ i w e. all (suc i) w e) (once_after (at z) (map at more) once))
    where
      by_part : (z : Part) → There z → IsOnce (at z ∷ map at more) →
          no_two same_channel (map (channel_numbered g) (channels_of more)) ≡ true →
          no_two same_channel (map (channel_numbered g) (channels_of (z ∷ more))) ≡ true
      by_part (whole i) there once rest =
          and_from (not (list_any (same_channel (channel_numbered g i)) (map (channel_numbered g) (channels_of more))))
          (no_two same_channel (map (channel_numbered g) (channels_of more)))
          (ap not
          (false_from_ne_true (list_any (same_channel (channel_numbered g i)) (map (channel_numbered g) (channels_of more)))
          (no_other i more there (λ j w e. all (suc j) w e) once)))
          rest
      by_part (own n) there once rest = rest
      by_part (stages n) there once rest = rest
      by_part (connected n) there once rest = rest
      by_part (group m) there once rest = rest
      by_part (program p) there once rest = rest
      by_part (blocks p) there once rest = rest
      by_part (place m) there once rest = rest
      by_part (start n) there once rest = rest
      by_part (block p i) there once rest = rest
      by_part (passes p i) there once rest = rest
      by_part (next p i) there once rest = rest

pub cycles_are_told : CyclesAreTold
cycles_are_told g s at nodes channel parts sketch numbered have is =
    let all = all_there g s at g.most_handlers nodes sketch numbered (whole channel ∷ parts) have in (
      cycle_told g s at g.most_handlers nodes sketch numbered channel (all 0 (whole channel) refl) parts (λ i x e. all (suc i) x e)
          is.round,
      ap (no_two same_channel) (links_from g parts (record { from = channel_numbered g channel; by = causes.binding }))
          ∙ once_told g s at g.most_handlers nodes sketch numbered (whole channel ∷ parts) all is.once,
    )
