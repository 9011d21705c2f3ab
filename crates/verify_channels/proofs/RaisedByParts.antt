-- What runs at channels by the parts is what runs there by the definition.
use Rattle.std.proofs.Common.{◌≡◌, ◌∙◌, inl, inr, refl, sym, ap, subst, ℕ, zero, suc, ◌≤◌, Bool, true, false, cond, List, [], ◌∷◌, length, map, Vec, Option, None, Some, slice_get, arith}
use Rattle.std.specs.Prelude.{nat_lt, option_map}
use Rattle.std.specs.Global.{Global}
use Rattle.std.specs.List.{filter_map, flat_map}
use Rattle.std.proofs.lemmas.List.{length-map}
use Rattle.std.proofs.lemmas.Option.{none-some}
use Rattle.ui_machine.specs.Seq.{read}
use Rattle.ui_machine.specs.Definition.{Definition}
use Rattle.ui_machine.specs.Definition.Places.{Place}
use Rattle.law_typing.specs.Graph.{connections, place_of_channel, raised_at, targets_from}
use Rattle.law_typing.specs.Graph.Channels.{Channel, of_class}
use Rattle.law_typing.specs.Laws.{IsIn}
use Rattle.law_typing.specs.Rules.RegisterKinds.{class_at}
use Rattle.law_typing.specs.Rules.Sites.{sites}
use Rattle.law_typing.proofs.EdgeProofs.{flat_in}
use Rattle.verify_sketches.specs.Sketches.{SamePrograms, SketchedChannel}
use Rattle.verify_graph.specs.Numbers.{number_of}
use Rattle.verify_graph.specs.declared.pairs_by_number.PairedNumbers.{PairedNumbers}
use Rattle.verify_graph.proofs.Prefixes.{read_past}
use Rattle.verify_channels.specs.Connected.{AreConnected, connected_at, group_view, groups_for, programs_of}
use Rattle.verify_channels.specs.ConnectedCode.{connections_if}
use Rattle.verify_channels.specs.Meanings.{meant, signal_of_channel}
use Rattle.verify_channels.specs.Raised.{AreParts, AreRaised, AreSketched, IsSketchedAt, RunsAt}
use Rattle.verify_channels.specs.declared.channels.ChannelParts.{ChannelParts}
use Rattle.verify_channels.specs.SignalLists.{list_of}
use Rattle.verify_channels.specs.declared.connections.PlacedGroup.{PlacedGroup}
use Rattle.verify_channels.specs.declared.signal_lists.SignalLists.{SignalLists}
use Rattle.verify_channels.proofs.Groups.{in_both}
use Rattle.verify_channels.proofs.TransferLists.{known_targets}

in_flat : {A B : Type 0} (f : A → List B) (xs : List A) (b : B) → IsIn b (flat_map f xs) → (x : A) × IsIn x xs × IsIn b (f x)
in_flat f [] b h = absurd h
in_flat f (x ∷ xs) b h =
    elim (in_both (f x) (flat_map f xs) b h) [ inl k ↦ (x, inl refl, k) | inr k ↦ (let r = in_flat f xs b k in (r.0, inr r.1, r.2)) ]

-- the programs that may be connected are those of the connections
connectable_is : (d : Definition) (c : Channel) →
    (raised_at d (connections d (sites d)) c).connectable ≡ of_class (connected_at d (connections_if d) c) (class_at d (place_of_channel c))
connectable_is d c = by (nat_lt 0 d.most_handlers) (class_at d (place_of_channel c))
  where
    by : (b : Bool) (o : Option ℕ) →
        cond b (of_class (connected_at d (connections d (sites d)) c) o) [] ≡ of_class (connected_at d (cond b (connections d (sites d)) []) c) o
    by true o = refl
    by false None = refl
    by false (Some class) = refl

-- nothing is at a place that is not there
no_groups : (d : Definition) (at : List (SignalLists PlacedGroup)) (c : Channel) → length at ≡ length d.places → class_at d (place_of_channel c) ≡ None → groups_for at c ≡ []
no_groups d at c places none = ap (meant c) (sym (read_past [] (map (λ (s : SignalLists PlacedGroup). map group_view (list_of s (signal_of_channel c))) at) (place_of_channel c) behind))
  where
    no_place : (ps : List Place) (n : ℕ) → option_map (λ (p : Place). p.class) (slice_get ps n) ≡ None → length ps ≤ n
    no_place [] n e = omega arith
    no_place (p ∷ ps) zero e = absurd (none-some p.class (sym e))
    no_place (p ∷ ps) (suc n) e = (let k = no_place ps n e in omega (arith, k))

    behind : length (map (λ (s : SignalLists PlacedGroup). map group_view (list_of s (signal_of_channel c))) at) ≤ place_of_channel c
    behind =
        let low = no_place d.places (place_of_channel c) none in
        let e = length-map at (λ (s : SignalLists PlacedGroup). map group_view (list_of s (signal_of_channel c))) in
        omega (arith, low, e, places)

same_programs : (d : Definition) (parts : ChannelParts) (c : Channel) → AreConnected d parts.connects (connections_if d) →
    SamePrograms (flat_map (read [] (programs_of parts.connects.groups.items)) (groups_for parts.connects.at.items c)) (raised_at d (connections d (sites d)) c).connectable
same_programs d parts c are =
    subst (SamePrograms (flat_map (read [] (programs_of parts.connects.groups.items)) (groups_for parts.connects.at.items c))) (sym (connectable_is d c))
    (by (class_at d (place_of_channel c)) refl)
  where
    by : (o : Option ℕ) → class_at d (place_of_channel c) ≡ o →
        SamePrograms (flat_map (read [] (programs_of parts.connects.groups.items)) (groups_for parts.connects.at.items c)) (of_class (connected_at d (connections_if d) c) o)
    by None is = record {
      there = λ p h. subst (λ gs. IsIn p (flat_map (read [] (programs_of parts.connects.groups.items)) gs)) (no_groups d parts.connects.at.items c are.places is) h;
      back = λ p h. absurd h;
    }
    by (Some class) is = record {
      there = λ p h. (let r = in_flat (read [] (programs_of parts.connects.groups.items)) (groups_for parts.connects.at.items c) p h in are.there c class r.0 p is r.1 r.2);
      back = λ p h.
          (let r = are.back c class p is h in
          flat_in (read [] (programs_of parts.connects.groups.items)) (groups_for parts.connects.at.items c) r.0 p r.1 r.2);
    }

one_sketched : (d : Definition) (all : List Channel) (paired : PairedNumbers) (parts : ChannelParts) (n : ℕ) (c : Channel) (k : SketchedChannel) → AreParts d all parts →
    slice_get all n ≡ Some c → RunsAt d paired parts n c k → IsSketchedAt d all paired (programs_of parts.connects.groups.items) n c k
one_sketched d all paired parts n c k are at runs =
    let targets = are.transfers n c at in
    record {
      emits = runs.emits;
      class_handler = runs.class_handler;
      stages = runs.stages;
      handlers = runs.handlers;
      connectable =
          subst (λ gs. SamePrograms (flat_map (read [] (programs_of parts.connects.groups.items)) gs) (raised_at d (connections d (sites d)) c).connectable) (sym runs.groups)
          (same_programs d parts c are.connects);
      transfers = runs.transfers ∙ (ap length targets ∙ length-map (targets_from d c) (number_of all));
      targets = runs.targets ∙ (ap (filter_map (λ (o : Option ℕ). o)) targets ∙ known_targets all (targets_from d c));
      first = runs.first;
      other = runs.other;
    }

pub all_sketched : (d : Definition) (all : List Channel) (paired : PairedNumbers) (parts : ChannelParts) (ks : List SketchedChannel) → AreParts d all parts →
    AreRaised d all paired parts ks → AreSketched d all paired (programs_of parts.connects.groups.items) ks
all_sketched d all paired parts ks are raised = record {
  count = raised.count;
  each = λ n c k at is. one_sketched d all paired parts n c k are at (raised.each n k is c at);
}
