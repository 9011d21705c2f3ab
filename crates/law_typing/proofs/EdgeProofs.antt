-- The edges of a definition's graph lead to nodes of it.
use Rattle.std.proofs.Common.{◌≡◌, inl, inr, refl, sym, ap, subst, ◌∙◌, ℕ, zero, suc, ◌+◌, ◌<◌, Bool, true, false, cond, List, [], ◌∷◌, ◌++◌, length, map, Option, None, Some, slice_get, arith}
use Rattle.std.specs.Prelude.{◌&&◌, nat_lt}
use Rattle.std.specs.List.{filter, filter_map, flat_map}
use Rattle.std.proofs.lemmas.Bool.{ltb-true}
use Rattle.ui_machine.specs.Seq.{read}
use Rattle.ui_machine.specs.Definition.Properties.{Spec, is_readable}
use Rattle.ui_machine.specs.Definition.{Definition}
use Rattle.ui_machine.specs.Definition.Signals.{Signal}
use Rattle.ui_machine.specs.Definition.Programs.{Instruction, Block, Program}
use Rattle.ui_machine.specs.Definition.Places.{Place}
use Rattle.ui_machine.specs.Definition.Programs as words
use Rattle.ui_machine.specs.Rules.Construction.{constructed_runs}
use Rattle.ui_machine.specs.Definition.Lookups.{class_of, specs_of, place_at, place_of, slot_of}
use Rattle.ui_machine.specs.Rules.Connections.{signal_number}
use Rattle.law_typing.specs.Rules.RegisterKinds.{Kinds, kind_in, class_at, place_numbers, places}
use Rattle.law_typing.specs.Rules.Typing.{after}
use Rattle.law_typing.specs.Graph.Channels.{Channel, constructed, property, signal, same_channel, of_class, constructed_at, spec_if, spec_at, is_readable_one, signals_at, readable_from, signals_from, emitted_at, is_filled, channels_at, channels, is_channel, present, readable_at, is_paired}
use Rattle.law_typing.specs.Graph.Channels as causes
use Rattle.law_typing.specs.Graph.{Raised, Stretch, graph, raised_at, set_from, makings_from, making_of, paired_at, channel_over, over, start_of, starts_of, stretch_of, stretches_of, connections}
use Rattle.law_typing.specs.Rules.Sites.{sites}
use Rattle.law_typing.specs.Graph.Ranks.{Arrow, arrow, arrows, arrows_by, arrows_from, is_raised, node, nodes, running_at, started, started_by}
use Rattle.law_typing.specs.Verdict.Accepted.{Each}
use Rattle.law_typing.specs.Laws.{IsIn, EdgesLeadToNodes}
use Rattle.law_typing.proofs.Lists.{both_parts, same_channel_true, same_channel_refl, map_in, any_in, any_true, each_in, each_append, each_flat}
use Rattle.law_typing.proofs.CostProofs.{listed_in, place_below}

-- ** members

pub append_left : {A : Type 0} (xs ys : List A) (x : A) → IsIn x xs → IsIn x (xs ++ ys)
append_left [] ys x h = absurd h
append_left (y ∷ xs) ys x (inl e) = inl e
append_left (y ∷ xs) ys x (inr h) = inr (append_left xs ys x h)

pub append_right : {A : Type 0} (xs ys : List A) (x : A) → IsIn x ys → IsIn x (xs ++ ys)
append_right [] ys x h = h
append_right (y ∷ xs) ys x h = inr (append_right xs ys x h)

pub flat_in : {A B : Type 0} (f : A → List B) (xs : List A) (x : A) (b : B) → IsIn x xs → IsIn b (f x) → IsIn b (flat_map f xs)
flat_in f [] x b h k = h
flat_in f (y ∷ ys) x b (inl e) k = append_left (f y) (flat_map f ys) b (subst (λ z. IsIn b (f z)) e k)
flat_in f (y ∷ ys) x b (inr h) k = append_right (f y) (flat_map f ys) b (flat_in f ys x b h k)

each_filter : {A : Type 0} (test : A → Bool) (xs : List A) → Each (λ x. test x ≡ true) (filter test xs)
each_filter test [] = tt
each_filter test (x ∷ xs) = by (test x) refl (each_filter test xs)
  where
    by : (b : Bool) → test x ≡ b → Each (λ x. test x ≡ true) (filter test xs) → Each (λ x. test x ≡ true) (cond b (x ∷ filter test xs) (filter test xs))
    by true e all = (e, all)
    by false e all = all

-- ** a channel that is there is in the list

-- a readable property is among the readable ones, where the first has the slot n
readable_in : (place n i slot : ℕ) (specs : List Spec) → slot ≡ n + i → is_readable_one (slice_get specs i) ≡ true → IsIn (property place slot) (readable_from place n specs)
readable_in place n i slot [] e r = absurd (cc)
readable_in place n zero slot (s ∷ specs) e r =
    let same : slot ≡ n = omega (arith, e) in
    subst (λ b. IsIn (property place slot) (cond b (property place n ∷ []) [] ++ readable_from place (suc n) specs)) (sym r) (inl (ap (property place) same))
readable_in place n (suc i) slot (s ∷ specs) e r =
    append_right (cond (is_readable s) (property place n ∷ []) []) (readable_from place (suc n) specs) (property place slot)
    (readable_in place (suc n) i slot specs (omega (arith, e)) r)

-- a signal that is not the first is among the others
signal_in : (place n i number : ℕ) (signals : List Signal) → number ≡ n + i → i < length signals → IsIn (signal place number) (signals_from place n signals)
signal_in place n i number [] e h = absurd (omega (arith, h))
signal_in place n zero number (s ∷ signals) e h = inl (ap (signal place) (omega (arith, e)))
signal_in place n (suc i) number (s ∷ signals) e h = inr (signal_in place (suc n) i number signals (omega (arith, e)) (omega (arith, h)))

emitted_in : (place number : ℕ) (signals : List Signal) → 0 < number → number < length signals → IsIn (signal place number) (emitted_at place signals)
emitted_in place number [] p h = absurd (omega (arith, h))
emitted_in place zero (s ∷ signals) p h = absurd (omega (arith, p))
emitted_in place (suc i) (s ∷ signals) p h = signal_in place 1 i (suc i) signals (omega arith) (omega (arith, h))

-- a class's number, or nothing
module _ (d : Definition) (place : ℕ) where
  numbered : (class : ℕ) → class_at d place ≡ Some class → IsIn place (place_numbers d)
  numbered class e = listed_in (λ place. place) (length d.places) place (place_below d place class (place_at d place) refl e)

  constructed_in : (o : Option ℕ) → class_at d place ≡ o → is_filled (constructed_at d place) ≡ true → IsIn (constructed place) (channels d)
  constructed_in None e r = absurd (let n = ap (λ o. is_filled (of_class (λ class. causes.programs_of (constructed_runs d class)) o)) e in cc)
  constructed_in (Some class) e r =
      flat_in (channels_at d) (place_numbers d) place (constructed place) (numbered class e)
      (append_left (cond (is_filled (constructed_at d place)) (constructed place ∷ []) [])
      (readable_from place 0 (of_class (specs_of d) (class_at d place)) ++ emitted_at place (signals_at d place)) (constructed place)
      (subst (λ b. IsIn (constructed place) (cond b (constructed place ∷ []) [])) (sym r) (inl refl)))

  -- a readable property of it is one of its readable ones
  pub in_readable : (slot : ℕ) → is_readable_one (spec_at d place slot) ≡ true → IsIn (property place slot) (readable_at d place)
  in_readable slot r = go (class_at d place) r
    where
      go : (o : Option ℕ) → is_readable_one (spec_if d slot o) ≡ true → IsIn (property place slot) (readable_from place 0 (of_class (specs_of d) o))
      go None r = absurd (cc)
      go (Some class) r = readable_in place 0 slot slot (specs_of d class) (omega arith) r

  property_in : (slot : ℕ) (o : Option ℕ) → class_at d place ≡ o → is_readable_one (spec_at d place slot) ≡ true → IsIn (property place slot) (channels d)
  property_in slot None e r = absurd (let n = ap (λ o. is_readable_one (spec_if d slot o)) e in cc)
  property_in slot (Some class) e r =
      flat_in (channels_at d) (place_numbers d) place (property place slot) (numbered class e)
      (append_right (cond (is_filled (constructed_at d place)) (constructed place ∷ []) [])
      (readable_from place 0 (of_class (specs_of d) (class_at d place)) ++ emitted_at place (signals_at d place)) (property place slot)
      (append_left (readable_from place 0 (of_class (specs_of d) (class_at d place))) (emitted_at place (signals_at d place)) (property place slot)
      (in_readable slot r)))

  signal_there : (number : ℕ) (o : Option ℕ) → class_at d place ≡ o → (nat_lt 0 number && nat_lt number (length (signals_at d place))) ≡ true →
      IsIn (signal place number) (channels d)
  signal_there number None e r =
      let b = both_parts (nat_lt 0 number) (nat_lt number (length (signals_at d place))) r in
      let h = ltb-true number (length (signals_at d place)) b.1 in
      let n = ap (λ o. length (of_class (λ class. (class_of d class).signals) o)) e in
      absurd (omega (arith, h, n))
  signal_there number (Some class) e r =
      let b = both_parts (nat_lt 0 number) (nat_lt number (length (signals_at d place))) r in
      flat_in (channels_at d) (place_numbers d) place (signal place number) (numbered class e)
      (append_right (cond (is_filled (constructed_at d place)) (constructed place ∷ []) [])
      (readable_from place 0 (of_class (specs_of d) (class_at d place)) ++ emitted_at place (signals_at d place)) (signal place number)
      (append_right (readable_from place 0 (of_class (specs_of d) (class_at d place))) (emitted_at place (signals_at d place)) (signal place number)
      (emitted_in place number (signals_at d place) (ltb-true 0 number b.0) (ltb-true number (length (signals_at d place)) b.1))))

in_channels : (d : Definition) (c : Channel) → is_channel d c ≡ true → IsIn c (channels d)
in_channels d (constructed place) e = constructed_in d place (class_at d place) refl e
in_channels d (property place slot) e = property_in d place slot (class_at d place) refl e
in_channels d (signal place number) e = signal_there d place number (class_at d place) refl e

-- ** what is started is there

-- what holds of each holds of each of those that pass a test
each_kept : {A : Type 0} (P : A → Type 0) (test : A → Bool) (xs : List A) → Each P xs → Each P (filter test xs)
each_kept P test [] all = tt
each_kept {A} P test (x ∷ xs) all = by (test x) (each_kept P test xs all.1)
  where
    by : (b : Bool) → Each P (filter test xs) → Each P (cond b (x ∷ filter test xs) (filter test xs))
    by true rest = (all.0, rest)
    by false rest = rest

module _ (d : Definition) where
  abbrev There : Channel → Type 0
  There c = is_channel d c ≡ true

  readable_each : (place n : ℕ) (specs : List Spec) → ((i : ℕ) → spec_at d place (n + i) ≡ slice_get specs i) → Each There (readable_from place n specs)
  readable_each place n [] at = tt
  readable_each place n (s ∷ specs) at =
      each_append There (cond (is_readable s) (property place n ∷ []) []) (readable_from place (suc n) specs) (go (is_readable s) refl)
      (readable_each place (suc n) specs (λ i. (let e : suc n + i ≡ n + suc i = omega arith in ap (spec_at d place) e ∙ at (suc i))))
    where
      here : spec_at d place n ≡ Some s
      here = let e : n ≡ n + 0 = omega arith in ap (spec_at d place) e ∙ at 0

      go : (b : Bool) → is_readable s ≡ b → Each There (cond b (property place n ∷ []) [])
      go true e = (ap is_readable_one here ∙ e, tt)
      go false e = tt

  specs_there : (place : ℕ) (o : Option ℕ) → class_at d place ≡ o → Each There (readable_from place 0 (of_class (specs_of d) o))
  specs_there place None e = tt
  specs_there place (Some class) e =
      readable_each place 0 (specs_of d class) (λ i. (let z : 0 + i ≡ i = omega arith in ap (spec_at d place) z ∙ ap (spec_if d i) e))

  pub readable_there : (place : ℕ) → Each There (readable_at d place)
  readable_there place = specs_there place (class_at d place) refl

  paired_there : (places : List ℕ) → Each There (flat_map (λ (cs : List Channel). cs) (map (paired_at d) places))
  paired_there [] = tt
  paired_there (place ∷ places) =
      each_append There (paired_at d place) (flat_map (λ (cs : List Channel). cs) (map (paired_at d) places))
      (each_kept There (is_paired d) (readable_at d place) (readable_there place)) (paired_there places)

  made_there : (place : ℕ) (ps : List Place) (n : ℕ) → Each There (read [] (makings_from d place ps) n)
  made_there place [] n = tt
  made_there place (p ∷ ps) zero = each_filter (is_channel d) (constructed place ∷ set_from place p.given 0 (specs_of d p.class))
  made_there place (p ∷ ps) (suc n) = made_there (suc place) ps n

  making_there : (o : Option ℕ) → Each There (making_of d o)
  making_there None = tt
  making_there (Some place) = made_there 0 d.places place

  over_there : (number_in : ℕ → Option ℕ) (channel : ℕ → ℕ → Channel) (ps : List ℕ) → Each There (over d number_in channel ps)
  over_there number_in channel ps = each_filter (is_channel d) (filter_map (channel_over d number_in channel) ps)

  start_there : (ks : Kinds) (i : Instruction) → Each There (started (start_of d ks i))
  start_there ks (words.set object name from) = over_there (λ class. slot_of d class name) property (places d (kind_in ks object))
  start_there ks (words.notify object name) = over_there (λ class. slot_of d class name) property (places d (kind_in ks object))
  start_there ks (words.emit into object name detail args) = over_there (λ class. signal_number d class name) signal (places d (kind_in ks object))
  start_there ks (words.new to id) = making_there (place_of d id)
  start_there ks (words.thaw object) = paired_there (places d (kind_in ks object))
  start_there ks _ = tt

  starts_there : (p : Program) (ks : Kinds) (code : List Instruction) → Each There (flat_map started (starts_of d p ks code))
  starts_there p ks [] = tt
  starts_there p ks (i ∷ rest) =
      each_append There (started (start_of d ks i)) (flat_map started (starts_of d p (after d p ks i) rest)) (start_there ks i)
      (starts_there p (after d p ks i) rest)

  blocks_there : (p : Program) (blocks : List Block) → Each There (flat_map (λ (s : Stretch). flat_map started s.starts) (map (stretch_of d p) blocks))
  blocks_there p [] = tt
  blocks_there p (b ∷ blocks) =
      each_append There (flat_map started (starts_of d p b.entry b.code))
      (flat_map (λ (s : Stretch). flat_map started s.starts) (map (stretch_of d p) blocks))
      (starts_there p b.entry b.code) (blocks_there p blocks)

  program_there : (programs : List Program) (q : ℕ) → Each There (flat_map (λ (s : Stretch). flat_map started s.starts) (read [] (map (stretches_of d) programs) q))
  program_there [] q = tt
  program_there (p ∷ programs) zero = blocks_there p p.blocks
  program_there (p ∷ programs) (suc q) = program_there programs q

-- ** edges

each_map_in : {A B : Type 0} (P : B → Type 0) (f : A → B) (xs : List A) → ((x : A) → IsIn x xs → P (f x)) → Each P (map f xs)
each_map_in P f [] all = tt
each_map_in P f (x ∷ xs) all = (all x (inl refl), each_map_in P f xs (λ y h. all y (inr h)))

module _ (d : Definition) where
  -- a channel that is there has its node
  node_there : (c : Channel) → is_channel d c ≡ true → IsIn (node (graph d) c) (nodes (graph d))
  node_there c e =
      map_in (λ (r : Raised). node (graph d) r.channel) (graph d).raised (raised_at d (connections d (sites d)) c)
      (map_in (raised_at d (connections d (sites d))) (channels d) c (in_channels d c e))

  -- and it is one of the graph
  pub channel_is_raised : (c : Channel) → is_channel d c ≡ true → is_raised (graph d) c ≡ true
  channel_is_raised c e =
      any_true (λ (r : Raised). same_channel r.channel c) (graph d).raised (raised_at d (connections d (sites d)) c)
      (map_in (raised_at d (connections d (sites d))) (channels d) c (in_channels d c e)) (same_channel_refl c)

  -- so has one that is raised
  raised_there : (c : Channel) → is_raised (graph d) c ≡ true → IsIn (node (graph d) c) (nodes (graph d))
  raised_there c e =
      let found = any_in (λ (r : Raised). same_channel r.channel c) (graph d).raised e in
      subst (λ k. IsIn (node (graph d) k) (nodes (graph d))) (same_channel_true found.0.channel c found.2)
      (map_in (λ (r : Raised). node (graph d) r.channel) (graph d).raised found.0 found.1)

  abbrev Leads : Arrow → Type 0
  Leads a = IsIn a.to (nodes (graph d))

  by_program : (c : Channel) (q : ℕ) → Each Leads (arrows_by (graph d) c q)
  by_program c q =
      each_map_in Leads (arrow (graph d) c (causes.program q)) (started_by (graph d) q)
      (λ k h. node_there k (each_in (λ c. is_channel d c ≡ true) (started_by (graph d) q) (program_there d d.programs q) k h))

  from_channel : (r : Raised) → Each Leads (arrows_from (graph d) r)
  from_channel r =
      each_append Leads (flat_map (arrows_by (graph d) r.channel) (running_at r))
      (map (arrow (graph d) r.channel causes.binding) (filter (is_raised (graph d)) r.targets))
      (each_flat Leads (arrows_by (graph d) r.channel) (running_at r) (λ q h. by_program r.channel q))
      (each_map_in Leads (arrow (graph d) r.channel causes.binding) (filter (is_raised (graph d)) r.targets)
      (λ k h. raised_there k (each_in (λ c. is_raised (graph d) c ≡ true) (filter (is_raised (graph d)) r.targets) (each_filter (is_raised (graph d)) r.targets) k h)))

pub edges_lead_to_nodes : EdgesLeadToNodes
edges_lead_to_nodes d a h =
    each_in (λ (a : Arrow). IsIn a.to (nodes (graph d))) (arrows (graph d))
    (each_flat (λ (a : Arrow). IsIn a.to (nodes (graph d))) (arrows_from (graph d)) (graph d).raised (λ r k. from_channel d r)) a h
