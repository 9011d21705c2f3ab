-- A request that gets a property reports its value, and one that releases an object lets the builder go of it.
use Rattle.std.proofs.Common.{◌≡◌, refl, sym, ap, subst, ◌∙◌, ℕ, zero, suc, ◌+◌, Bool, false, List, [], ◌∷◌, ◌++◌, length, Some, Ok, slice_get, arith}
use Rattle.std.specs.Prelude.{true, option_map, nat_eq}
use Rattle.std.proofs.lemmas.Bool.{eqb-true, eqb-false}
use Rattle.ui_machine.specs.Definition.Lookups.{place_at}
use Rattle.ui_machine.specs.Rules.Build.{is_making}
use Rattle.ui_machine.specs.Seq.{read, write, total}
use Rattle.ui_machine.specs.Definition.{Definition}
use Rattle.ui_machine.specs.Definition.Lookups.{spec_of}
use Rattle.ui_machine.specs.Definition.Places.{Place}
use Rattle.ui_machine.specs.Definition.Properties.{Spec, is_readable}
use Rattle.ui_machine.specs.Definition.Values.{Value}
use Rattle.ui_machine.specs.Output.Lines as lines
use Rattle.ui_machine.specs.Output.Text.{text_of_line}
use Rattle.ui_machine.specs.Rules.Events.{get_from_event, release_from_event}
use Rattle.ui_machine.specs.Rules.Sets.{spec_at}
use Rattle.ui_machine.specs.State.Config.{World, BuilderEntry, unbuilt, built, released, said, with_builder_entry}
use Rattle.ui_machine.specs.State.Objects.{Object, living, asked, value_at}
use Rattle.ui_machine.specs.State.Tasks as config
use Rattle.ui_machine.specs.State.Tasks.{Task, Handling}
use Rattle.ui_machine.specs.Steps.{uncounted}
use Rattle.law_typing.specs.Rules.RegisterKinds.{class_at}
use Rattle.law_typing.specs.Graph.Channels.{spec_if}
use Rattle.law_typing.specs.Verdict.Accepted.{Each}
use Rattle.law_typing.specs.Good.Standing.{Standing, standing, view}
use Rattle.law_typing.specs.Good.Objects.{ObjectsGood, PeersGood}
use Rattle.law_typing.specs.Good.Bindings.{HeldGood, IsBuilt, DocumentGood}
use Rattle.law_typing.specs.Good.Builds.{is_for_builder, BuildGood}
use Rattle.law_typing.specs.Good.Agenda.{AgendaGood}
use Rattle.law_typing.specs.Good.ComingDown.{none}
use Rattle.law_typing.specs.Good.Freezes.{is_due_source}
use Rattle.law_steps.specs.Kept.Alike.{Alike}
use Rattle.law_steps.proofs.Kept.AlikeProofs.{whole_stays}
use Rattle.law_steps.proofs.Kept.WriteProofs.{read_here, read_apart}
use Rattle.law_steps.proofs.Instructed.Ended.{lowest_falls}
use Rattle.law_steps.proofs.Kept.NewProofs.{at_place}
use Rattle.law_steps.proofs.Instructed.ReadProofs.{spec_is}
use Rattle.law_steps.proofs.Tasked.First.{First, none_later, good_of, fine_where, StepIsFine, costs, depths, most}
use Rattle.law_steps.proofs.Tasked.Done.{done}

pub value_is : (w : World) (id slot : ℕ) (o : Object) (v : Value) → living w.objects id ≡ Some o → slice_get o.values slot ≡ Some v → asked w.objects id (value_at slot) ≡ Ok v
unfolding asked
value_is w id slot o v e is = rw (e, is) refl

get_leads : (d : Definition) (w : World) (rest : List Task) (n place slot id : ℕ) (s : Spec) (v : Value) → read unbuilt w.builder place ≡ built id → spec_at d w.objects id slot ≡ Ok s →
    asked w.objects id (value_at slot) ≡ Ok v → is_readable s ≡ true →
    uncounted rest n (get_from_event d w place slot)
    ≡ Ok (record { world = record w { transcript = w.transcript ++ text_of_line d.types (lines.get id s.name v) ∷ []; result = Some v }; agenda = rest; counted = n })
unfolding get_from_event
get_leads d w rest n place slot id s v a b c readable = rw (a, b, c, readable) refl

module _ {d : Definition} (place slot : ℕ) (t : First d (Handling (config.get place slot))) where
  open t use {w, rest, n, g}

  pub get_fine : StepIsFine t
  get_fine =
      let asks = g.agenda.3.2 in
      let id = asks.held.0.0 in
      let is = asks.held.0.1 in
      let s = asks.fits.1 in
      let x = at_place w.objects id place (g.held place id is) in
      let o = g.objects id x.0 x.1 in
      let class : class_at d place ≡ Some x.0.class = ap (class_at d) (sym x.2) ∙ (ap (option_map (λ (p : Place). p.class)) o.is ∙ ap (λ (c : ℕ). Some c) (sym o.class)) in
      let has : spec_of d x.0.class slot ≡ Some s = sym (ap (spec_if d slot) class) ∙ asks.fits.2 in
      let v = o.values slot s has in
      let said = w.transcript ++ text_of_line d.types (lines.get id s.name v.value) ∷ [] in
      fine_where t (record { world = record w { transcript = said; result = Some v.value }; agenda = rest; counted = n })
      (get_leads d w rest n place slot id s v.value is (spec_is d w id slot x.0 s x.1 has) (value_is w id slot x.0 v.value x.1 v.is) asks.fits.3)
      (done t said (Some v.value)
      (record {
        alike = record { items = λ f. omega arith; unset = λ number. omega arith; request_step = omega arith; makes = omega arith };
        frozen = λ id. refl;
        build = λ build. build;
        good = g.agenda.6;
      }))

-- ** a release

as_long : (builder : List BuilderEntry) (place id : ℕ) → read unbuilt builder place ≡ built id → length (write unbuilt builder place released) ≡ length builder
as_long [] place id e = absurd (cc)
as_long (h ∷ builder) zero id e = omega arith
as_long (h ∷ builder) (suc place) id e = let same = as_long builder place id e in omega (arith, same)

still_built : (builder : List BuilderEntry) (place id : ℕ) → read unbuilt builder place ≡ built id → Each IsBuilt builder → Each IsBuilt (write unbuilt builder place released)
still_built [] place id e all = absurd (cc)
still_built (h ∷ builder) zero id e all = (tt, all.1)
still_built (h ∷ builder) (suc place) id e all = (all.0, still_built builder place id e all.1)

still_held : (s : Standing) (builder : List BuilderEntry) (place : ℕ) → HeldGood s builder → HeldGood s (write unbuilt builder place released)
still_held s builder place held x id is = go (nat_eq place x) refl
  where
    go : (b : Bool) → nat_eq place x ≡ b → s id ≡ Some x
    go true e =
        absurd
        (let same = eqb-true place x e in
        let here = ap (read unbuilt (write unbuilt builder place released)) (sym same) in
        let gone = read_here unbuilt builder place released in
        let both = sym is ∙ (here ∙ gone) in
        cc)
    go false e = held x id (sym (read_apart unbuilt builder place released x (eqb-false place x e)) ∙ is)

objects_held : (d : Definition) (w : World) (lines : List (List ℕ)) (builder : List BuilderEntry) → ObjectsGood d w → ObjectsGood d (record w { transcript = lines; builder = builder })
objects_held d w lines builder g id o e = let o = g id o e in record {
  place = o.place;
  is = o.is;
  class = o.class;
  values = o.values;
  children = o.children;
  parent = o.parent;
  queue = o.queue;
  apart = o.apart;
  peer = o.peer;
}

release_leads : (d : Definition) (w : World) (rest : List Task) (n place id : ℕ) (p : Place) → place_at d place ≡ Some p → read unbuilt w.builder place ≡ built id →
    uncounted rest n (release_from_event d w place) ≡ Ok (record { world = with_builder_entry (said d w (lines.release p.id)) place released; agenda = rest; counted = n })
unfolding release_from_event
release_leads d w rest n place id p a b = rw (a, b) refl

module _ {d : Definition} (place : ℕ) (t : First d (Handling (config.release place))) where
  open t use {w, rest, n, g}

  now_alike : Alike (Handling (config.release place) ∷ rest) rest
  now_alike = record { items = λ f. omega arith; unset = λ number. omega arith; request_step = omega arith; makes = omega arith }

  pub release_fine : StepIsFine t
  release_fine =
      let asks = g.agenda.3.2 in
      let alone = g.agenda.3.1 in
      let id = asks.held.0.0 in
      let is = asks.held.0.1 in
      let p = asks.fits.0 in
      let said = w.transcript ++ text_of_line d.types (lines.release p.id) ∷ [] in
      let builder = write unbuilt w.builder place released in
      let v = record w { transcript = said; builder = builder } in
      let long = as_long w.builder place id is in
      let made : length builder + total is_for_builder rest ≡ length w.builder + total is_for_builder (Handling (config.release place) ∷ rest) = omega (arith, long) in
      let document : DocumentGood d w.builder × (total is_for_builder (Handling (config.release place) ∷ rest) ≡ 0) =
      subst (λ tasks. BuildGood d w.builder (Handling (config.release place) ∷ rest) tasks) alone g.build in
      fine_where t (record { world = v; agenda = rest; counted = n }) (release_leads d w rest n place id p asks.fits.1 is)
      (good_of t v rest
      (record {
        objects = refl;
        whole = whole_stays d (costs t) (depths t) (Handling (config.release place) ∷ rest) rest v now_alike
            (record {
              objects = objects_held d w said builder g.objects;
              handlers = g.handlers;
              bindings = g.bindings;
              sources = g.sources;
              held = still_held (standing w.objects) w.builder place g.held;
              floating = g.floating;
              objects_first = g.objects_first;
            });
        pool = subst (PeersGood d w.peers) (sym made) g.peers;
        to_make = now_alike.items is_making;
        makes = (let same = now_alike.makes in omega (arith, same));
        build = subst (λ tasks. BuildGood d builder tasks tasks) (sym alone)
            (record { all = long ∙ document.0.all; each = still_built w.builder place id is document.0.each }, refl);
        frozen = λ id. omega arith;
        lowest = λ id some. lowest_falls d id (Handling (config.release place)) rest;
        no_set = g.sets.first;
        no_source = none_later is_due_source rest g.sets.alone;
        budget = g.agenda.2;
        less = omega arith;
        good = subst (λ tasks. AgendaGood d (costs t) (depths t) (view v) (most t) none tasks g.agenda.2) (sym alone) tt;
      }))
