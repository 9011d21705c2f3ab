-- A sketch of a definition that breaks no rule of pairs is right.
use Rattle.std.proofs.Common.{◌≡◌, ◌∙◌, inl, inr, ◌⊎◌, refl, sym, ap, subst, ℕ, zero, suc, ◌+◌, Bool, true, false, cond, List, [], ◌∷◌, length, map, Option, None, Some, slice_get, arith}
use Rattle.std.specs.Prelude.{not, ◌&&◌, is_some, nat_lt, option_and_then}
use Rattle.std.specs.List.{filter, filter_map, list_any}
use Rattle.std.proofs.lemmas.Option.{none-some, same_Some}
use Rattle.ui_machine.specs.Definition.{Definition}
use Rattle.law_typing.specs.Graph.{Connection, class_handler_for, connectable_at, connections, may_be_at, pairs_of, raised_at, targets_from}
use Rattle.law_typing.specs.Graph.Channels.{Channel, constructed, is_pair, of_class, property, same_channel, signal, source_of, target_of}
use Rattle.law_typing.specs.Graph.Costs.{other_end, other_end_in}
use Rattle.law_typing.specs.Graph.Ranks.{is_raised, node, node_in}
use Rattle.law_typing.specs.Rules.BindingRules.{binding_faults, pair_faults}
use Rattle.law_typing.specs.Rules.RegisterKinds.{class_at}
use Rattle.law_typing.specs.Rules.Sites.{sites}
use Rattle.verify_sketches.specs.Pointwise.{Pointwise}
use Rattle.verify_sketches.specs.Sketches.{AreNamed, IsPairedIn, IsQuiet, IsSketch, IsSketchedChannel, Names, NamesIf, Sketch, SketchedChannel, channels_in}
use Rattle.law_idle.specs.Idle.{busy_channels, busy_graph}
use Rattle.law_idle.proofs.IdleProofs.{others_are_idle}
use Rattle.verify_graph.specs.Numbers.{number_of}
use Rattle.verify_graph.specs.Paired.{ArePaired, HaveNumbers, other_number}
use Rattle.verify_graph.specs.Paired as numbered
use Rattle.verify_graph.specs.declared.pairs_by_number.PairedNumbers.{PairedNumbers}
use Rattle.ui_machine.specs.Seq.{listed}
use Rattle.verify_graph.proofs.Positions.{found_is, number_is}
use Rattle.verify_channels.specs.Raised.{AreSketched, IsSketchedAt}
use Rattle.verify_starts.specs.SketchedCode.{ArePrograms}
use Rattle.verify_starts.specs.Tables.{AreOfSome}
use Rattle.verify_channels.proofs.GraphChannels.{busy_raised, channel_there, graph_channels, graph_once, named_raised}
use Rattle.verify_channels.proofs.PairEnds.{Disjoint, Ends, alone_node, ends_of, ends_raised, other_has, pairs_disjoint, pairs_numbered}
use Rattle.verify_channels.proofs.Starts.{places_named, programs_right, starts_named}

-- ** constructions

filter_none : {A : Type 0} (test : A → Bool) (xs : List A) → ((x : A) → test x ≡ false) → filter test xs ≡ []
filter_none test [] none = refl
filter_none test (x ∷ xs) none = ap (λ b. cond b (x ∷ filter test xs) (filter test xs)) (none x) ∙ filter_none test xs none

and_false : (b : Bool) → (b && false) ≡ false
and_false true = refl
and_false false = refl

module _ (d : Definition) where
  none_connectable : (ns : List Connection) (place : ℕ) (o : Option ℕ) →
      of_class (λ class. filter_map (λ (n : Connection). n.program) (filter (may_be_at d (constructed place) class) ns)) o ≡ []
  none_connectable ns place None = refl
  none_connectable ns place (Some class) =
      ap (filter_map (λ (n : Connection). n.program))
      (filter_none (may_be_at d (constructed place) class) ns (λ n. and_false (list_any (λ p. _) n.places)))

  cond_none : (b : Bool) (xs : List ℕ) → xs ≡ [] → cond b xs [] ≡ []
  cond_none true xs e = e
  cond_none false xs e = refl

  no_handler : (place : ℕ) (o : Option ℕ) → of_class (class_handler_for d (constructed place)) o ≡ []
  no_handler place None = refl
  no_handler place (Some class) = refl

  no_targets : (place : ℕ) → targets_from d (constructed place) ≡ []
  no_targets place =
      ap (map target_of) (filter_none (λ b. not (is_pair b) && same_channel (source_of b) (constructed place)) d.bindings (λ b. and_false (not (is_pair b))))

  quiet : (ns : List Connection) (c : Channel) → IsQuiet c (raised_at d ns c)
  quiet ns (constructed place) = (
    no_handler place (class_at d place),
    cond_none (nat_lt 0 d.most_handlers) (connectable_at d ns (constructed place)) (none_connectable ns place (class_at d place)),
    no_targets place,
  )
  quiet ns (property place slot) = tt
  quiet ns (signal place number) = tt

-- ** channels

module _ (d : Definition) (paired : PairedNumbers) (are : ArePaired (channels_in (busy_graph d)) (pairs_of d.bindings) paired.firsts.items paired.others.items)
    (there : HaveNumbers (channels_in (busy_graph d)) (pairs_of d.bindings)) where
  abbrev all : List Channel
  all = channels_in (busy_graph d)

  first_named : (n : ℕ) (c : Channel) (k : SketchedChannel) → slice_get all n ≡ Some c → Some k.first ≡ slice_get paired.firsts.items n → Names (busy_graph d) k.first (node (busy_graph d) c)
  first_named n c k at is = found_is all (node_in (pairs_of d.bindings) c) k.first (are.first there n c at ∙ sym is)

  other_is : (n : ℕ) (c : Channel) (k : SketchedChannel) → slice_get all n ≡ Some c → Some k.other ≡ slice_get paired.others.items n → k.other ≡ other_number all (pairs_of d.bindings) c
  other_is n c k at is = same_Some _ _ (is ∙ are.other there n c at)

  other_named : (n : ℕ) (c : Channel) (k : SketchedChannel) → slice_get all n ≡ Some c → Some k.other ≡ slice_get paired.others.items n → NamesIf (busy_graph d) k.other (other_end (busy_graph d) c)
  other_named n c k at is = by k.other (other_end_in (pairs_of d.bindings) c) refl (other_is n c k at is)
    where
      by : (o : Option ℕ) (e : Option Channel) → other_end_in (pairs_of d.bindings) c ≡ e → o ≡ option_and_then (number_of all) e → NamesIf (busy_graph d) o e
      by None None found same = tt
      by (Some m) None found same = absurd (none-some m (sym same))
      by None (Some e) found same = absurd (let h = other_has all (pairs_of d.bindings) c e there found in let q = ap is_some same in cc)
      by (Some m) (Some e) found same = found_is all e m (sym same)

  channel_right : (groups : List (List ℕ)) (n : ℕ) (c : Channel) (k : SketchedChannel) → slice_get all n ≡ Some c → IsSketchedAt d all paired groups n c k →
      IsSketchedChannel (busy_graph d) groups k (raised_at d (connections d (sites d)) c)
  channel_right groups n c k at is = record {
    emits = is.emits;
    quiet = quiet d (connections d (sites d)) c;
    class_handler = is.class_handler (channel_there d c n at);
    stages = is.stages;
    handlers = is.handlers;
    connectable = is.connectable;
    transfers = is.transfers;
    targets = subst (λ ns. AreNamed (busy_graph d) ns (filter (is_raised (busy_graph d)) (targets_from d c))) (sym is.targets) (named_raised (busy_graph d) (targets_from d c));
    first = first_named n c k at is.first;
    other = other_named n c k at is.other;
  }

  channels_from : (groups : List (List ℕ)) (m : ℕ) (cs : List Channel) (ks : List SketchedChannel) → length ks ≡ length cs →
      ((n : ℕ) (c : Channel) → slice_get cs n ≡ Some c → slice_get all (m + n) ≡ Some c) →
      ((n : ℕ) (c : Channel) (k : SketchedChannel) → slice_get cs n ≡ Some c → slice_get ks n ≡ Some k → IsSketchedAt d all paired groups (m + n) c k) →
      Pointwise (IsSketchedChannel (busy_graph d) groups) ks (map (raised_at d (connections d (sites d))) cs)
  channels_from groups m [] [] same at each = tt
  channels_from groups m [] (k ∷ ks) same at each = absurd (omega (arith, same))
  channels_from groups m (c ∷ cs) [] same at each = absurd (omega (arith, same))
  channels_from groups m (c ∷ cs) (k ∷ ks) same at each = (
    channel_right groups (m + 0) c k (at 0 c refl) (each 0 c k refl refl),
    channels_from groups (suc m) cs ks (omega (arith, same))
        (λ n e is. (let q : suc m + n ≡ m + suc n = omega arith in ap (slice_get all) q ∙ at (suc n) e is))
        (λ n e j is also. (let q : m + suc n ≡ suc m + n = omega arith in subst (λ i. IsSketchedAt d all paired groups i e j) q (each (suc n) e j is also))),
  )

  pub channels_right : (groups : List (List ℕ)) (ks : List SketchedChannel) → AreSketched d all paired groups ks →
      Pointwise (IsSketchedChannel (busy_graph d) groups) ks (busy_graph d).raised
  channels_right groups ks sketched =
      subst (Pointwise (IsSketchedChannel (busy_graph d) groups) ks) (sym (busy_raised d))
      (channels_from groups 0 (busy_channels d) ks (sketched.count ∙ ap length (graph_channels d))
      (λ n c is. (let z : 0 + n ≡ n = omega arith in ap (slice_get all) z ∙ (ap (λ cs. slice_get cs n) (graph_channels d) ∙ is)))
      (λ n c k is also. (let z : n ≡ 0 + n = omega arith in
      subst (λ i. IsSketchedAt d all paired groups i c k) z (sketched.each n c k (ap (λ cs. slice_get cs n) (graph_channels d) ∙ is) also))))

  -- ** pairs

  module _ (apart : Disjoint (pairs_of d.bindings)) where
    get_of : (ks : List SketchedChannel) (cs : List Channel) (n : ℕ) (k : SketchedChannel) → length ks ≡ length cs → slice_get ks n ≡ Some k → (c : Channel) × (slice_get cs n ≡ Some c)
    get_of [] [] n k same is = absurd (none-some k is)
    get_of [] (c ∷ cs) n k same is = absurd (none-some k is)
    get_of (j ∷ ks) [] n k same is = absurd (omega (arith, same))
    get_of (j ∷ ks) (c ∷ cs) zero k same is = (c, refl)
    get_of (j ∷ ks) (c ∷ cs) (suc n) k same is = get_of ks cs n k (omega (arith, same)) is

    get_in : (ks : List SketchedChannel) (cs : List Channel) (n : ℕ) (c : Channel) → length ks ≡ length cs → slice_get cs n ≡ Some c → (k : SketchedChannel) × (slice_get ks n ≡ Some k)
    get_in [] [] n c same is = absurd (none-some c is)
    get_in [] (e ∷ cs) n c same is = absurd (omega (arith, same))
    get_in (j ∷ ks) [] n c same is = absurd (none-some c is)
    get_in (j ∷ ks) (e ∷ cs) zero c same is = (j, refl)
    get_in (j ∷ ks) (e ∷ cs) (suc n) c same is = get_in ks cs n c (omega (arith, same)) is

    -- the number of a channel is its own
    own_number : (n m : ℕ) (c : Channel) → slice_get all n ≡ Some c → number_of all c ≡ Some m → m ≡ n
    own_number n m c at number = graph_once d m n c (found_is all c m number) at

    pub paired_right : (groups : List (List ℕ)) (ks : List SketchedChannel) → AreSketched d all paired groups ks → (n : ℕ) (k : SketchedChannel) → slice_get ks n ≡ Some k →
        IsPairedIn ks n k
    paired_right groups ks sketched n k is = by (get_of ks all n k sketched.count is)
      where
        by : (c : Channel) × (slice_get all n ≡ Some c) → IsPairedIn ks n k
        by (c, at) = record { alone = alone; both = both }
          where
            here : IsSketchedAt d all paired groups n c k
            here = sketched.each n c k at is

            first_is : number_of all (node_in (pairs_of d.bindings) c) ≡ Some k.first
            first_is = are.first there n c at ∙ sym here.first

            other_here : k.other ≡ option_and_then (number_of all) (other_end_in (pairs_of d.bindings) c)
            other_here = other_is n c k at here.other

            alone : k.other ≡ None → k.first ≡ n
            alone none = go (other_end_in (pairs_of d.bindings) c) refl (sym other_here ∙ none)
              where
                go : (o : Option Channel) → other_end_in (pairs_of d.bindings) c ≡ o → option_and_then (number_of all) o ≡ None → k.first ≡ n
                go None found e = own_number n k.first c at (ap (number_of all) (sym (alone_node (pairs_of d.bindings) c found)) ∙ first_is)
                go (Some x) found e = absurd (let h = other_has all (pairs_of d.bindings) c x there found in let q = ap is_some e in cc)

            both : (other : ℕ) → k.other ≡ Some other →
                (e : SketchedChannel) × (slice_get ks other ≡ Some e) × (e.other ≡ Some n) × (e.first ≡ k.first) × ((k.first ≡ n) ⊎ (k.first ≡ other))
            both m some = go (other_end_in (pairs_of d.bindings) c) refl (sym other_here ∙ some)
              where
                go : (o : Option Channel) → other_end_in (pairs_of d.bindings) c ≡ o → option_and_then (number_of all) o ≡ Some m →
                    (e : SketchedChannel) × (slice_get ks m ≡ Some e) × (e.other ≡ Some n) × (e.first ≡ k.first) × ((k.first ≡ n) ⊎ (k.first ≡ m))
                go None found number = absurd (none-some m number)
                go (Some x) found number = (j.0, j.1, other_back, first_same, which ends.one)
                  where
                    ends : Ends (pairs_of d.bindings) c x
                    ends = ends_of (pairs_of d.bindings) c x apart found

                    x_at : slice_get all m ≡ Some x
                    x_at = found_is all x m number

                    j : (e : SketchedChannel) × (slice_get ks m ≡ Some e)
                    j = get_in ks all m x sketched.count x_at

                    there_at : IsSketchedAt d all paired groups m x j.0
                    there_at = sketched.each m x j.0 x_at j.1

                    c_number : number_of all c ≡ Some n
                    c_number = sym (number_is all (graph_once d) c n at)

                    other_back : j.0.other ≡ Some n
                    other_back = other_is m x j.0 x_at there_at.other ∙ (ap (option_and_then (number_of all)) ends.back ∙ c_number)

                    first_same : j.0.first ≡ k.first
                    first_same = same_Some _ _ (there_at.first ∙ (sym (are.first there m x x_at) ∙ (ap (number_of all) (sym ends.node) ∙ first_is)))

                    which : (node_in (pairs_of d.bindings) c ≡ c) ⊎ (node_in (pairs_of d.bindings) c ≡ x) → (k.first ≡ n) ⊎ (k.first ≡ m)
                    which (inl e) = inl (own_number n k.first c at (ap (number_of all) (sym e) ∙ first_is))
                    which (inr e) = inr (own_number m k.first x x_at (ap (number_of all) (sym e) ∙ first_is))

-- ** the whole

pub sketch_right : (d : Definition) (s : Sketch) (paired : PairedNumbers) → binding_faults d ≡ [] → pair_faults d ≡ [] →
    ArePaired (busy_channels d) (pairs_of d.bindings) paired.firsts.items paired.others.items → AreSketched d (busy_channels d) paired s.groups s.channels →
    ArePrograms d (busy_channels d) s.starts s.programs d.programs → AreOfSome d (busy_channels d) s.starts → s.paired ≡ listed (numbered.paired_at d (busy_channels d) paired.others.items) (length d.places) →
    IsSketch (busy_graph d) s
sketch_right d s paired bindings pairs are channels_are programs_are starts_are places_are =
    record {
      once = graph_once d;
      channels = channels_right d paired are_in (pairs_numbered d bindings) s.groups s.channels channels_in_are;
      paired =
          paired_right d paired are_in (pairs_numbered d bindings) (pairs_disjoint d bindings pairs) s.groups s.channels channels_in_are;
      programs =
          programs_right d paired.others.items there others_are s.paired listed_are s refl s.programs d.programs
          (others_are_idle d).starts (subst (λ cs. ArePrograms d cs s.starts s.programs d.programs) (sym (graph_channels d)) programs_are);
      ends = ends_raised d bindings;
      starts =
          starts_named d paired.others.items there others_are s.paired listed_are s.starts
          (subst (λ cs. AreOfSome d cs s.starts) (sym (graph_channels d)) starts_are);
      places = places_named d paired.others.items there others_are s.paired listed_are;
    }
  where
    are_in : ArePaired (channels_in (busy_graph d)) (pairs_of d.bindings) paired.firsts.items paired.others.items
    are_in = subst (λ cs. ArePaired cs (pairs_of d.bindings) paired.firsts.items paired.others.items) (sym (graph_channels d)) are

    channels_in_are : AreSketched d (channels_in (busy_graph d)) paired s.groups s.channels
    channels_in_are = subst (λ cs. AreSketched d cs paired s.groups s.channels) (sym (graph_channels d)) channels_are

    there : HaveNumbers (channels_in (busy_graph d)) (pairs_of d.bindings)
    there = pairs_numbered d bindings

    others_are : (n : ℕ) (c : Channel) → slice_get (channels_in (busy_graph d)) n ≡ Some c →
        slice_get paired.others.items n ≡ Some (other_number (channels_in (busy_graph d)) (pairs_of d.bindings) c)
    others_are = are_in.other there

    listed_are : s.paired ≡ listed (numbered.paired_at d (channels_in (busy_graph d)) paired.others.items) (length d.places)
    listed_are = subst (λ cs. s.paired ≡ listed (numbered.paired_at d cs paired.others.items) (length d.places)) (sym (graph_channels d)) places_are
