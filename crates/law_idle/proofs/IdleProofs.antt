-- Nothing runs at the idle channels of a definition, and nothing leads there.
use Rattle.std.proofs.Common.{◌≡◌, inl, inr, ◌⊎◌, refl, sym, ap, subst, ◌∙◌, ℕ, zero, suc, Bool, true, false, cond, nat_eq, nat_lt, List, [], ◌∷◌, ◌++◌, length, map, Option, None, Some}
use Rattle.std.specs.Prelude.{◌&&◌, ◌||◌, not, is_some, option_and_then}
use Rattle.std.specs.List.{cons_option, filter, filter_map, flat_map, list_any}
use Rattle.std.proofs.lemmas.Bool.{eq-eqb}
use Rattle.std.proofs.lemmas.Option.{none-some, same_Some}
use Rattle.ui_machine.specs.Seq.{listed, read}
use Rattle.ui_machine.specs.Definition.{Definition}
use Rattle.ui_machine.specs.Definition.Lookups.{place_of, slot_of, specs_of}
use Rattle.ui_machine.specs.Definition.Places.{Attached, Bind, GivenProperty, Place}
use Rattle.ui_machine.specs.Definition.Programs.{Block, Instruction, Program}
use Rattle.ui_machine.specs.Definition.Programs as words
use Rattle.ui_machine.specs.Definition.Properties.{Spec, has_flags, is_readable}
use Rattle.ui_machine.specs.Definition.Signals.{Signal}
use Rattle.ui_machine.specs.Rules.Connections.{signal_number}
use Rattle.ui_machine.specs.Rules.Construction.{is_at_construction, is_forward}
use Rattle.ui_machine.specs.Rules.EmissionPlan.{class_handler_of, signal_of}
use Rattle.ui_machine.specs.Rules.Programs.{is_number}
use Rattle.law_typing.specs.Graph.{Connection, Raised, Start, Stretch, attached_for, attached_to, built_objects, can_mean, channel_for, channel_over, class_handler_for, connectable_at, connection_of, connections, created_by, forwards_from, forwards_of, graph, handler_of_signal, in_order, is_before, is_given, listed_if, makings_from, may_be_at, number_for, paired_at, pairs_of, raised_at, raised_by_making, making_of, set_from, start_of, starts_of, stretch_of, stretches_of, targets_from}
use Rattle.law_typing.specs.Graph.Channels.{Channel, channels, channels_at, constructed, is_channel, is_pair, is_paired, of_class, property, readable_at, readable_from, same_channel, signal, source_of, target_of}
use Rattle.law_typing.specs.Graph.Costs.{other_end_in}
use Rattle.law_typing.specs.Graph.Ranks.{node_in, started}
use Rattle.law_typing.specs.Laws.{IsIn}
use Rattle.law_typing.specs.Rules.RegisterKinds.{Kinds, class_at, kind_in, places}
use Rattle.law_typing.specs.Rules.Sites.{Site, block_sites, code_sites, program_sites, sites}
use Rattle.law_typing.specs.Rules.Typing.{after}
use Rattle.law_typing.specs.Verdict.Accepted.{Each}
use Rattle.law_typing.proofs.EdgeProofs.{append_left, append_right}
use Rattle.law_typing.proofs.Lists.{any_true, each_append, each_in, map_in, same_channel_true}
use Rattle.law_idle.specs.Idle.{OthersAreIdleIn, is_busy, is_busy_at, is_handled, is_named, named_in, named_in_blocks, named_signals, signal_named, signals_attached, is_used}
use Rattle.law_idle.specs.Resting.{IsIdle}
use Rattle.law_idle.proofs.Resting.{append_in, in_map}

-- ** lists

filter_none : {A : Type 0} (test : A → Bool) (xs : List A) → ((x : A) → IsIn x xs → test x ≡ false) → filter test xs ≡ []
filter_none test [] none = refl
filter_none test (x ∷ xs) none = ap (λ b. cond b (x ∷ filter test xs) (filter test xs)) (none x (inl refl)) ∙ filter_none test xs (λ y h. none y (inr h))

none_any : {A : Type 0} (test : A → Bool) (xs : List A) → list_any test xs ≡ false → (x : A) → IsIn x xs → test x ≡ false
none_any test [] none x h = absurd h
none_any {A} test (y ∷ ys) none x h = by (test y) refl none h (λ k i. none_any test ys k x i)
  where
    by : (b : Bool) → test y ≡ b → (b || list_any test ys) ≡ false → IsIn x (y ∷ ys) → (list_any test ys ≡ false → IsIn x ys → test x ≡ false) → test x ≡ false
    by true e k i later = absurd (cc)
    by false e k (inl s) later = ap test s ∙ e
    by false e k (inr i) later = later k i

either_false : (a b : Bool) → (a || b) ≡ false → (a ≡ false) × (b ≡ false)
either_false true b e = absurd (cc)
either_false false b e = (refl, e)

in_option : {A B : Type 0} (h : A → Option B) (xs : List A) (b : B) → IsIn b (filter_map h xs) → (x : A) × IsIn x xs × (h x ≡ Some b)
in_option h [] b k = absurd k
in_option {A} {B} h (x ∷ xs) b k = by (in_option h xs b) (h x) refl k
  where
    by : (IsIn b (filter_map h xs) → (y : A) × IsIn y xs × (h y ≡ Some b)) → (o : Option B) → h x ≡ o → IsIn b (cons_option o (filter_map h xs)) →
        (y : A) × IsIn y (x ∷ xs) × (h y ≡ Some b)
    by later None e i = let m = later i in (m.0, inr m.1, m.2)
    by later (Some c) e (inl s) = (x, inl refl, e ∙ ap Some (sym s))
    by later (Some c) e (inr i) = let m = later i in (m.0, inr m.1, m.2)

-- ** connections name their signals

module _ (d : Definition) where
  named_code : (p : Program) (program block at : ℕ) (ks : Kinds) (code : List Instruction) (s : Site) (name : List ℕ) →
      IsIn s (code_sites d p program block at ks code) → signal_named s.instruction ≡ Some name → IsIn name (named_in code)
  named_code p program block at ks [] s name h is = absurd h
  named_code p program block at ks (i ∷ rest) s name (inl e) is =
      subst (λ o. IsIn name (cons_option o (named_in rest))) (sym is ∙ ap (λ (x : Site). signal_named x.instruction) e) (inl refl)
  named_code p program block at ks (i ∷ rest) s name (inr h) is =
      by (signal_named i) (named_code p program block (suc at) (after d p ks i) rest s name h is)
    where
      by : (o : Option (List ℕ)) → IsIn name (named_in rest) → IsIn name (cons_option o (named_in rest))
      by None k = k
      by (Some x) k = inr k

  named_block : (p : Program) (program block : ℕ) (blocks : List Block) (s : Site) (name : List ℕ) → IsIn s (block_sites d p program block blocks) →
      signal_named s.instruction ≡ Some name → IsIn name (named_in_blocks blocks)
  named_block p program block [] s name h is = absurd h
  named_block p program block (b ∷ blocks) s name h is =
      by (λ k. named_block p program (suc block) blocks s name k is)
      (append_in (code_sites d p program block 0 b.entry b.code) (block_sites d p program (suc block) blocks) s h)
    where
      by : (IsIn s (block_sites d p program (suc block) blocks) → IsIn name (named_in_blocks blocks)) →
          IsIn s (code_sites d p program block 0 b.entry b.code) ⊎ IsIn s (block_sites d p program (suc block) blocks) → IsIn name (named_in b.code ++ named_in_blocks blocks)
      by later (inl k) = append_left (named_in b.code) (named_in_blocks blocks) name (named_code p program block 0 b.entry b.code s name k is)
      by later (inr k) = append_right (named_in b.code) (named_in_blocks blocks) name (later k)

  named_program : (program : ℕ) (programs : List Program) (s : Site) (name : List ℕ) → IsIn s (program_sites d program programs) →
      signal_named s.instruction ≡ Some name → IsIn name (flat_map (λ (p : Program). named_in_blocks p.blocks) programs)
  named_program program [] s name h is = absurd h
  named_program program (p ∷ programs) s name h is =
      by (λ k. named_program (suc program) programs s name k is) (append_in (block_sites d p program 0 p.blocks) (program_sites d (suc program) programs) s h)
    where
      by : (IsIn s (program_sites d (suc program) programs) → IsIn name (flat_map (λ (p : Program). named_in_blocks p.blocks) programs)) →
          IsIn s (block_sites d p program 0 p.blocks) ⊎ IsIn s (program_sites d (suc program) programs) →
          IsIn name (named_in_blocks p.blocks ++ flat_map (λ (p : Program). named_in_blocks p.blocks) programs)
      by later (inl k) = append_left (named_in_blocks p.blocks) (flat_map (λ (p : Program). named_in_blocks p.blocks) programs) name (named_block p program 0 p.blocks s name k is)
      by later (inr k) = append_right (named_in_blocks p.blocks) (flat_map (λ (p : Program). named_in_blocks p.blocks) programs) name (later k)

  connection_named : (ks : Kinds) (i : Instruction) (n : Connection) → connection_of d ks i ≡ Some n → signal_named i ≡ Some n.signal
  connection_named ks (words.connect to object c) n e = ap (λ (x : Connection). Some x.signal) (same_Some _ _ e)
  connection_named ks _ n e = absurd (none-some n e)

  connected_named : (n : Connection) → IsIn n (connections d (sites d)) → IsIn n.signal (named_signals d)
  connected_named n h =
      let s = in_option (λ (s : Site). connection_of d s.kinds s.instruction) (sites d) n h in
      named_program 0 d.programs s.0 n.signal s.1 (connection_named s.0.kinds s.0.instruction n s.2)

  -- ** nothing runs at an idle channel

  module _ (place number : ℕ) where
    abbrev here : Channel
    here = signal place number

    no_class_handler : (class : ℕ) (o : Option Signal) → is_some (option_and_then (λ (s : Signal). class_handler_of d class s.name) o) ≡ false → handler_of_signal d class o ≡ []
    no_class_handler class None e = refl
    no_class_handler class (Some s) e = by (class_handler_of d class s.name) e
      where
        by : (o : Option ℕ) → is_some o ≡ false → listed_if o ≡ []
        by None e = refl
        by (Some p) e = absurd (cc)

    no_attached : (class : ℕ) → is_named d (signals_attached (attached_to d place)) class number ≡ false → attached_for d here class ≡ []
    no_attached class e =
        ap (map (λ (a : Attached). a.program))
        (filter_none (λ (a : Attached). can_mean d class here a.signal a.detail) (attached_to d place)
        (λ a h. none_any (λ (name : List ℕ). is_number number (signal_number d class name)) (signals_attached (attached_to d place)) e a.signal
        (map_in (λ (a : Attached). a.signal) (attached_to d place) a h)))

    and_false : (b : Bool) → (b && false) ≡ false
    and_false true = refl
    and_false false = refl

    no_connection : (class : ℕ) → is_named d (named_signals d) class number ≡ false →
        filter_map (λ (n : Connection). n.program) (filter (may_be_at d here class) (connections d (sites d))) ≡ []
    no_connection class e =
        ap (filter_map (λ (n : Connection). n.program))
        (filter_none (may_be_at d here class) (connections d (sites d))
        (λ n h. ap (λ b. list_any (nat_eq place) n.places && b)
        (none_any (λ (name : List ℕ). is_number number (signal_number d class name)) (named_signals d) e n.signal (connected_named n h))
        ∙ and_false (list_any (nat_eq place) n.places)))

    cond_none : (b : Bool) (xs : List ℕ) → xs ≡ [] → cond b xs [] ≡ []
    cond_none true xs e = e
    cond_none false xs e = refl

    no_targets : targets_from d here ≡ []
    no_targets =
        ap (map target_of) (filter_none (λ b. not (is_pair b) && same_channel (source_of b) here) d.bindings (λ b h. and_false (not (is_pair b))))

    idle_here : (o : Option ℕ) → class_at d place ≡ o → is_busy_at d place number o ≡ false → IsIdle (raised_at d (connections d (sites d)) here)
    idle_here None is e = absurd (cc)
    idle_here (Some class) is e =
        let used = either_false (is_used d class number) (is_named d (signals_attached (attached_to d place)) class number) e in
        let run = either_false (is_handled d class number) (is_named d (named_signals d) class number) used.0 in
        record {
          place = place;
          number = number;
          channel = refl;
          class_handler = ap (of_class (class_handler_for d here)) is ∙ no_class_handler class (signal_of d class number) run.0;
          handlers = ap (of_class (attached_for d here)) is ∙ no_attached class used.1;
          connectable =
              cond_none (nat_lt 0 d.most_handlers) (connectable_at d (connections d (sites d)) here)
              (ap (of_class (λ class. filter_map (λ (n : Connection). n.program) (filter (may_be_at d here class) (connections d (sites d))))) is ∙ no_connection class run.1);
          targets = no_targets;
        }

  idle_one : (c : Channel) → is_busy d c ≡ false → IsIdle (raised_at d (connections d (sites d)) c)
  idle_one (constructed place) e = absurd (cc)
  idle_one (property place slot) e = absurd (cc)
  idle_one (signal place number) e = idle_here place number (class_at d place) refl e

  idle : (r : Raised) → IsIn r (graph d).raised → is_busy d r.channel ≡ false → IsIdle r
  idle r h e =
      let m = in_map (raised_at d (connections d (sites d))) (channels d) r h in
      subst IsIdle (sym m.2) (idle_one m.0 (sym (ap (λ (x : Raised). is_busy d x.channel) m.2) ∙ e))

  -- ** what programs start is busy

  abbrev Busy : Channel → Type 0
  Busy c = is_busy d c ≡ true

  each_kept : (test : Channel → Bool) (cs : List Channel) → Each Busy cs → Each Busy (filter test cs)
  each_kept test [] all = tt
  each_kept test (c ∷ cs) all = by (test c) (each_kept test cs all.1)
    where
      by : (b : Bool) → Each Busy (filter test cs) → Each Busy (cond b (c ∷ filter test cs) (filter test cs))
      by true later = (all.0, later)
      by false later = later

  over_busy : (number_in : ℕ → Option ℕ) (channel : ℕ → ℕ → Channel) (ps : List ℕ) →
      ((place class number : ℕ) → class_at d place ≡ Some class → number_in class ≡ Some number → Busy (channel place number)) →
      Each Busy (filter_map (channel_over d number_in channel) ps)
  over_busy number_in channel [] all = tt
  over_busy number_in channel (place ∷ ps) all = by (class_at d place) refl (over_busy number_in channel ps all)
    where
      found : (class : ℕ) → class_at d place ≡ Some class → (o : Option ℕ) → number_in class ≡ o → Each Busy (filter_map (channel_over d number_in channel) ps) →
          Each Busy (cons_option (channel_for (channel place) o) (filter_map (channel_over d number_in channel) ps))
      found class is None e later = later
      found class is (Some number) e later = (all place class number is e, later)

      by : (o : Option ℕ) → class_at d place ≡ o → Each Busy (filter_map (channel_over d number_in channel) ps) →
          Each Busy (cons_option (channel_for (channel place) (number_for number_in o)) (filter_map (channel_over d number_in channel) ps))
      by None is later = later
      by (Some class) is later = found class is (number_in class) refl later

  or_second : (a b c : Bool) → b ≡ true → ((a || b) || c) ≡ true
  or_second true b c e = refl
  or_second false b c e = ap (λ x. x || c) e

  named_busy : (name : List ℕ) → IsIn name (named_signals d) → (place class number : ℕ) → class_at d place ≡ Some class → signal_number d class name ≡ Some number →
      Busy (signal place number)
  named_busy name h place class number is e =
      ap (is_busy_at d place number) is
      ∙ or_second (is_handled d class number) (is_named d (named_signals d) class number) (is_named d (signals_attached (attached_to d place)) class number)
      (any_true (λ (name : List ℕ). is_number number (signal_number d class name)) (named_signals d) name h (ap (is_number number) e ∙ eq-eqb number number refl))

  readable_busy : (place slot : ℕ) (specs : List Spec) → Each Busy (readable_from place slot specs)
  readable_busy place slot [] = tt
  readable_busy place slot (s ∷ specs) = by (is_readable s) (readable_busy place (suc slot) specs)
    where
      by : (b : Bool) → Each Busy (readable_from place (suc slot) specs) → Each Busy (cond b (property place slot ∷ []) [] ++ readable_from place (suc slot) specs)
      by true later = (refl, later)
      by false later = later

  paired_busy : (ps : List ℕ) → Each Busy (flat_map (λ (cs : List Channel). cs) (map (paired_at d) ps))
  paired_busy [] = tt
  paired_busy (place ∷ ps) =
      each_append Busy (paired_at d place) (flat_map (λ (cs : List Channel). cs) (map (paired_at d) ps))
      (each_kept (is_paired d) (readable_at d place) (readable_busy place 0 (of_class (specs_of d) (class_at d place)))) (paired_busy ps)

  set_busy : (place : ℕ) (given : List GivenProperty) (slot : ℕ) (specs : List Spec) → Each Busy (set_from place given slot specs)
  set_busy place given slot [] = tt
  set_busy place given slot (s ∷ specs) = by (is_at_construction s || list_any (is_given place slot) given) (set_busy place given (suc slot) specs)
    where
      by : (b : Bool) → Each Busy (set_from place given (suc slot) specs) → Each Busy (cond b (property place slot ∷ []) [] ++ set_from place given (suc slot) specs)
      by true later = (refl, later)
      by false later = later

  made_busy : (place : ℕ) (p : Place) → Each Busy (raised_by_making d place p)
  made_busy place p = each_kept (is_channel d) (constructed place ∷ set_from place p.given 0 (specs_of d p.class)) (refl, set_busy place p.given 0 (specs_of d p.class))

  makings_busy : (place : ℕ) (ps : List Place) (n : ℕ) → Each Busy (read [] (makings_from d place ps) n)
  makings_busy place [] n = tt
  makings_busy place (p ∷ ps) zero = made_busy place p
  makings_busy place (p ∷ ps) (suc n) = makings_busy (suc place) ps n

  making_busy : (o : Option ℕ) → Each Busy (making_of d o)
  making_busy None = tt
  making_busy (Some place) = makings_busy 0 d.places place

  start_busy : (ks : Kinds) (i : Instruction) → ((name : List ℕ) → signal_named i ≡ Some name → IsIn name (named_signals d)) → Each Busy (started (start_of d ks i))
  start_busy ks (words.set object name from) all =
      each_kept (is_channel d) (filter_map (channel_over d (λ class. slot_of d class name) property) (places d (kind_in ks object)))
      (over_busy (λ class. slot_of d class name) property (places d (kind_in ks object)) (λ place class number is e. refl))
  start_busy ks (words.notify object name) all =
      each_kept (is_channel d) (filter_map (channel_over d (λ class. slot_of d class name) property) (places d (kind_in ks object)))
      (over_busy (λ class. slot_of d class name) property (places d (kind_in ks object)) (λ place class number is e. refl))
  start_busy ks (words.emit into object name detail args) all =
      each_kept (is_channel d) (filter_map (channel_over d (λ class. signal_number d class name) signal) (places d (kind_in ks object)))
      (over_busy (λ class. signal_number d class name) signal (places d (kind_in ks object)) (named_busy name (all name refl)))
  start_busy ks (words.new to id) all = making_busy (place_of d id)
  start_busy ks (words.thaw object) all = paired_busy (places d (kind_in ks object))
  start_busy ks _ all = tt

  abbrev AllNamed : List (List ℕ) → Type 0
  AllNamed names = (name : List ℕ) → IsIn name names → IsIn name (named_signals d)

  starts_busy : (p : Program) (ks : Kinds) (code : List Instruction) → AllNamed (named_in code) → (i : Start) → IsIn i (starts_of d p ks code) → Each Busy (started i)
  starts_busy p ks [] all i h = absurd h
  starts_busy p ks (x ∷ rest) all i (inl e) =
      subst (λ (s : Start). Each Busy (started s)) (sym e)
      (start_busy ks x (λ name is. all name (subst (λ o. IsIn name (cons_option o (named_in rest))) (sym is) (inl refl))))
  starts_busy p ks (x ∷ rest) all i (inr h) = starts_busy p (after d p ks x) rest (λ name k. all name (by (signal_named x) name k)) i h
    where
      by : (o : Option (List ℕ)) (n : List ℕ) → IsIn n (named_in rest) → IsIn n (cons_option o (named_in rest))
      by None n k = k
      by (Some y) n k = inr k

  stretch_busy : (p : Program) (blocks : List Block) → AllNamed (named_in_blocks blocks) → (s : Stretch) → IsIn s (map (stretch_of d p) blocks) → (i : Start) → IsIn i s.starts → Each Busy (started i)
  stretch_busy p [] all s h i k = absurd h
  stretch_busy p (b ∷ blocks) all s (inl e) i k =
      starts_busy p b.entry b.code (λ name n. all name (append_left (named_in b.code) (named_in_blocks blocks) name n)) i (subst (λ (x : Stretch). IsIn i x.starts) e k)
  stretch_busy p (b ∷ blocks) all s (inr h) i k =
      stretch_busy p blocks (λ name n. all name (append_right (named_in b.code) (named_in_blocks blocks) name n)) s h i k

  program_busy : (programs : List Program) → AllNamed (flat_map (λ (p : Program). named_in_blocks p.blocks) programs) →
      (q : List Stretch) → IsIn q (map (stretches_of d) programs) → (s : Stretch) → IsIn s q → (i : Start) → IsIn i s.starts → Each Busy (started i)
  program_busy [] all q h s k i m = absurd h
  program_busy (p ∷ programs) all q (inl e) s k i m =
      stretch_busy p p.blocks (λ name n. all name (append_left (named_in_blocks p.blocks) (flat_map (λ (p : Program). named_in_blocks p.blocks) programs) name n)) s
      (subst (IsIn s) e k) i m
  program_busy (p ∷ programs) all q (inr h) s k i m =
      program_busy programs (λ name n. all name (append_right (named_in_blocks p.blocks) (flat_map (λ (p : Program). named_in_blocks p.blocks) programs) name n)) q h s k i m

  -- ** pairs are of properties

  abbrev IsProperty : Channel → Type 0
  IsProperty c = (place : ℕ) × (slot : ℕ) × (c ≡ property place slot)

  property_busy : (c : Channel) → IsProperty c → Busy c
  property_busy c (place, slot, e) = ap (is_busy d) e

  order_properties : (b : Bind) → IsProperty (in_order (source_of b) (target_of b)).0 × IsProperty (in_order (source_of b) (target_of b)).1
  order_properties b = by (is_before (target_of b) (source_of b))
    where
      by : (x : Bool) → IsProperty (cond {A = Channel × Channel} x (target_of b, source_of b) (source_of b, target_of b)).0
          × IsProperty (cond {A = Channel × Channel} x (target_of b, source_of b) (source_of b, target_of b)).1
      by true = ((b.target, b.target_slot, refl), (b.source, b.source_slot, refl))
      by false = ((b.source, b.source_slot, refl), (b.target, b.target_slot, refl))

  pair_properties : (bs : List Bind) → Each (λ (p : Channel × Channel). IsProperty p.0 × IsProperty p.1) (pairs_of bs)
  pair_properties [] = tt
  pair_properties (b ∷ bs) = by (is_pair b) (pair_properties bs)
    where
      by : (x : Bool) → Each (λ (p : Channel × Channel). IsProperty p.0 × IsProperty p.1) (pairs_of bs) →
          Each (λ (p : Channel × Channel). IsProperty p.0 × IsProperty p.1) (map (λ b. in_order (source_of b) (target_of b)) (cond x (b ∷ filter is_pair bs) (filter is_pair bs)))
      by true later = (order_properties b, later)
      by false later = later

  ends_are : (ps : List (Channel × Channel)) → Each (λ (p : Channel × Channel). IsProperty p.0 × IsProperty p.1) ps → (c e : Channel) → other_end_in ps c ≡ Some e → Busy c × Busy e
  ends_are [] all c e is = absurd (none-some e is)
  ends_are (p ∷ ps) all c e is = by (same_channel p.0 c) (same_channel p.1 c) refl refl is (ends_are ps all.1 c e)
    where
      by : (a b : Bool) → same_channel p.0 c ≡ a → same_channel p.1 c ≡ b → cond a (Some p.1) (cond b (Some p.0) (other_end_in ps c)) ≡ Some e →
          (other_end_in ps c ≡ Some e → Busy c × Busy e) → Busy c × Busy e
      by true b f g k more = (subst Busy (same_channel_true p.0 c f) (property_busy p.0 all.0.0), subst Busy (same_Some _ _ k) (property_busy p.1 all.0.1))
      by false true f g k more = (subst Busy (same_channel_true p.1 c g) (property_busy p.1 all.0.1), subst Busy (same_Some _ _ k) (property_busy p.0 all.0.0))
      by false false f g k more = more k

  node_busy : (ps : List (Channel × Channel)) → Each (λ (p : Channel × Channel). IsProperty p.0 × IsProperty p.1) ps → (c : Channel) → Busy c → Busy (node_in ps c)
  node_busy [] all c is = is
  node_busy (p ∷ ps) all c is = by (same_channel p.1 c) (node_busy ps all.1 c is)
    where
      by : (b : Bool) → Busy (node_in ps c) → Busy (cond b p.0 (node_in ps c))
      by true more = property_busy p.0 all.0.0
      by false more = more

  node_alone : (ps : List (Channel × Channel)) → Each (λ (p : Channel × Channel). IsProperty p.0 × IsProperty p.1) ps → (c : Channel) → is_busy d c ≡ false → node_in ps c ≡ c
  node_alone [] all c is = refl
  node_alone (p ∷ ps) all c is = by (same_channel p.1 c) refl (node_alone ps all.1 c is)
    where
      by : (b : Bool) → same_channel p.1 c ≡ b → node_in ps c ≡ c → cond b p.0 (node_in ps c) ≡ c
      by true e more = absurd (let k = property_busy p.1 all.0.1 in let s = ap (is_busy d) (same_channel_true p.1 c e) in cc)
      by false e more = more

  -- ** the build

  all_makings : (place : ℕ) (ps : List Place) (cs : List Channel) → IsIn cs (makings_from d place ps) → Each Busy cs
  all_makings place [] cs h = absurd h
  all_makings place (p ∷ ps) cs (inl e) = subst (Each Busy) (sym e) (made_busy place p)
  all_makings place (p ∷ ps) cs (inr h) = all_makings (suc place) ps cs h

  all_built : (place : ℕ) (ps : List Place) (cs : List Channel) → IsIn cs (built_objects d place ps) → Each Busy cs
  all_built place [] cs h = absurd h
  all_built place (p ∷ ps) cs h = by (all_built (suc place) ps cs) p.is_prototype h
    where
      by : (IsIn cs (built_objects d (suc place) ps) → Each Busy cs) → (b : Bool) →
          IsIn cs (cond b [] (raised_by_making d place p ∷ []) ++ built_objects d (suc place) ps) → Each Busy cs
      by later true k = later k
      by later false (inl e) = subst (Each Busy) (sym e) (made_busy place p)
      by later false (inr k) = later k

  mapped_properties : (place : ℕ) (gs : List GivenProperty) → Each Busy (map (λ (g : GivenProperty). property place g.slot) gs)
  mapped_properties place [] = tt
  mapped_properties place (g ∷ gs) = (refl, mapped_properties place gs)

  forwards_busy : (place : ℕ) (p : Place) → Each Busy (forwards_of d place p)
  forwards_busy place p =
      each_kept (is_channel d) (map (λ (g : GivenProperty). property place g.slot) (filter (λ (g : GivenProperty). is_forward place g.given) p.given))
      (mapped_properties place (filter (λ (g : GivenProperty). is_forward place g.given) p.given))

  all_forwards : (place : ℕ) (ps : List Place) → Each Busy (forwards_from d place ps)
  all_forwards place [] = tt
  all_forwards place (p ∷ ps) = by p.is_prototype (all_forwards (suc place) ps)
    where
      by : (b : Bool) → Each Busy (forwards_from d (suc place) ps) → Each Busy (cond b [] (forwards_of d place p) ++ forwards_from d (suc place) ps)
      by true later = later
      by false later = each_append Busy (forwards_of d place p) (forwards_from d (suc place) ps) (forwards_busy place p) later

  mapped_targets : (bs : List Bind) → Each Busy (map target_of bs)
  mapped_targets [] = tt
  mapped_targets (b ∷ bs) = (refl, mapped_targets bs)

  -- a place has channels, so that there is one
  first_making : (ps : List Place) (f : ℕ → ℕ) (c : Channel) → IsIn c (flat_map (channels_at d) (listed f (length ps))) → (cs : List Channel) × IsIn cs (makings_from d 0 ps)
  first_making [] f c h = absurd h
  first_making (p ∷ ps) f c h = (raised_by_making d 0 p, inl refl)

pub others_are_idle : OthersAreIdleIn
others_are_idle d = record {
  idle = idle d;
  starts = λ p h s k i m c n. each_in (Busy d) (started i) (program_busy d d.programs (λ name x. x) p h s k i m) c n;
  targets = λ r h c k.
      let m = in_map (raised_at d (connections d (sites d))) (channels d) r h in
      each_in (Busy d) (targets_from d m.0) (mapped_targets d (filter (λ b. not (is_pair b) && same_channel (source_of b) m.0) d.bindings)) c
      (subst (λ (x : Raised). IsIn c x.targets) m.2 k);
  ends = ends_are d (pairs_of d.bindings) (pair_properties d d.bindings);
  first = node_busy d (pairs_of d.bindings) (pair_properties d d.bindings);
  alone = node_alone d (pairs_of d.bindings) (pair_properties d d.bindings);
  makings = λ cs h c k. each_in (Busy d) cs (all_makings d 0 d.places cs h) c k;
  built = λ cs h c k. each_in (Busy d) cs (all_built d 0 d.places cs h) c k;
  forwards = λ c k. each_in (Busy d) (forwards_from d 0 d.places) (all_forwards d 0 d.places) c k;
  created = λ c k. each_in (Busy d) (created_by d.bindings) (mapped_targets d (filter (λ (b : Bind). has_flags 2 b.flags) d.bindings)) c k;
  made = λ r h.
      let m = in_map (raised_at d (connections d (sites d))) (channels d) r h in
      first_making d d.places (λ p. p) m.0 m.1;
}
