-- The build sets a forward value: the set is due, with the object that the builder has of the name.
use Rattle.std.proofs.Common.{◌≡◌, refl, sym, ap, subst, ◌∙◌, ℕ, ◌+◌, true, false, List, [], ◌∷◌, Some, Ok, arith}
use Rattle.std.specs.Prelude.{option_map}
use Rattle.ui_machine.specs.Seq.{read, total}
use Rattle.ui_machine.specs.Definition.{Definition}
use Rattle.ui_machine.specs.Definition.Places.{named, Place}
use Rattle.ui_machine.specs.Definition.Properties.{Spec, is_writable, is_construct_only}
use Rattle.ui_machine.specs.Definition.Values.{Value}
use Rattle.ui_machine.specs.Definition.Values as values
use Rattle.ui_machine.specs.Rules.Build.{building_forward, set_forward}
use Rattle.ui_machine.specs.Rules.Construction.{is_forward, object_held}
use Rattle.ui_machine.specs.Rules.Sets as machine
use Rattle.ui_machine.specs.State.Config.{World, unbuilt, built, starts}
use Rattle.ui_machine.specs.State.References.{mentions}
use Rattle.ui_machine.specs.State.Tasks.{Item, forwards, Task, Setting, Building}
use Rattle.ui_machine.specs.Steps.{uncounted}
use Rattle.law_typing.specs.Rules.RegisterKinds.{class_at}
use Rattle.law_typing.specs.Graph.Channels.{property, spec_at, spec_if}
use Rattle.law_typing.specs.Laws.WellRead.{GivenFits, GivenRead}
use Rattle.law_typing.specs.Laws.StepsKeepGood.{IsGood}
use Rattle.law_typing.specs.Good.Standing.{standing, view}
use Rattle.law_typing.specs.Good.Objects.{PeersGood}
use Rattle.law_typing.specs.Good.Builds.{is_for_builder, item_cost}
use Rattle.law_typing.specs.Good.DueCosts.{unsets, due_cost, due_depth}
use Rattle.law_typing.specs.Good.Freezes.{frozen_by}
use Rattle.law_typing.proofs.Lists.{each_in}
use Rattle.law_static.specs.Items.{IsForward}
use Rattle.law_static.proofs.ConstructionProofs.{given_fits}
use Rattle.law_static.proofs.FollowProofs.{forwards_follow}
use Rattle.law_static.proofs.StartProofs.{due_within}
use Rattle.law_steps.proofs.Kept.AttachProofs.{handlers_wait_less}
use Rattle.law_steps.proofs.Instructed.ReadProofs.{spec_is}
use Rattle.law_steps.proofs.Instructed.SetProofs.{held_from}
use Rattle.law_steps.proofs.Tasked.Built.{none_below, held_object, objects_first_next, queues_next, build_next, bindings_next, left_good}
use Rattle.law_steps.proofs.Tasked.Changed.{changed_well}
use Rattle.law_steps.proofs.Tasked.First.{First, StepIsFine, fine_where, fine_of, costs, depths}
use Rattle.law_steps.proofs.Tasked.SettingProofs.{owns}
use Rattle.law_steps.specs.Tasked.BuildForwards.{ForwardsAreFine}

set_leads : (d : Definition) (w : World) (place slot id to target : ℕ) (items : List Item) (s : Spec) → read unbuilt w.builder place ≡ built id → machine.spec_at d w.objects id slot ≡ Ok s →
    is_writable s ≡ true → is_construct_only s ≡ false → read unbuilt w.builder to ≡ built target →
    building_forward d w place slot to items ≡ starts w (Setting id slot (values.object (Some target)) ∷ Building items ∷ [])
unfolding building_forward set_forward
set_leads d w place slot id to target items s held at writable free also = rw (held, at, writable, free, also) refl

module _ {d : Definition} (place slot to : ℕ) (items : List Item) (t : First d (Building (forwards place slot to ∷ items))) where
  open t use {well, a, w, rest, n, g}

  f : IsForward d g.build.0 place slot to
  f = forwards_follow d a g.build.0 items place slot to g.build.1

  given_read : GivenRead d place f.p f.given
  given_read = each_in (GivenRead d place f.p) f.p.given (well.places place f.p f.at).given f.given f.is_given

  fits : GivenFits d given_read.spec.kind (named to)
  fits = subst (GivenFits d given_read.spec.kind) f.names given_read.fits

  has : spec_at d place slot ≡ Some given_read.spec
  has =
      let class : class_at d place ≡ Some f.p.class = ap (option_map (λ (p : Place). p.class)) f.at in
      ap (spec_if d slot) class ∙ (ap (λ slot. spec_if d slot (Some f.p.class)) (sym f.slot_is) ∙ given_read.is)

  free : is_construct_only given_read.spec ≡ false
  free = given_read.forward (ap (is_forward place) f.names ∙ f.later)

  id : (id : ℕ) × (read unbuilt w.builder place ≡ built id)
  id = held_object (forwards place slot to) items t refl f.made place (f.p, f.at, f.object)

  target : (id : ℕ) × (read unbuilt w.builder to ≡ built id)
  target = held_object (forwards place slot to) items t refl f.made to (fits.0, fits.2, fits.3)

  abbrev v : Value
  v = values.object (Some target.0)

  stands : standing w.objects id.0 ≡ Some place
  stands = g.held place id.0 id.1

  abbrev later : List Task
  later = Setting id.0 slot v ∷ Building items ∷ rest

  none_more : (f : Task → ℕ) → f (Setting id.0 slot v) ≡ 0 → f (Building items) ≡ 0 → total f later ≡ 0
  none_more f set build = let alone = none_below (forwards place slot to) items t refl f in omega (arith, set, build, alone)

  set_good : IsGood d a t.most_counted (record { world = w; agenda = later; counted = n })
  set_good =
      let kind = given_fits d (standing w.objects) w.builder w refl g.held given_read.spec.kind (named to) v fits (ap object_held target.1) in
      let due = due_within d a (Building items ∷ rest) place slot in
      let cost = due_cost d (costs t) (Building items ∷ rest) (property place slot) in
      let deep = due_depth d (depths t) (Building items ∷ rest) (property place slot) in
      let cheap = g.agenda.3.2 in
      let shallow = g.agenda.3.3.0 in
      let low = g.agenda.4 in
      changed_well t w later n
      (record {
        whole = record {
          objects = g.objects;
          handlers = handlers_wait_less d (costs t) (depths t) (standing w.objects) (Building (forwards place slot to ∷ items) ∷ rest) later w.last_handler w.handlers (λ f. omega arith) g.handlers;
          bindings = bindings_next (forwards place slot to) items t refl later (omega arith) (λ number. none_more (unsets number) refl refl);
          sources = g.sources;
          held = g.held;
          floating = g.floating;
          objects_first = objects_first_next (forwards place slot to) items t refl later w.bindings (none_more is_for_builder refl refl);
        };
        pool = subst (PeersGood d w.peers) (omega arith) g.peers;
        build = build_next (forwards place slot to) items t refl later (none_more is_for_builder refl refl);
        sets = record {
          alone = (let none = g.sets.alone in omega (arith, none));
          first = (let none = g.sets.first in omega (arith, none));
          held = λ some. held_from (mentions d (record { world = w; agenda = Building (forwards place slot to ∷ items) ∷ rest; counted = n })) _ (λ o. omega arith) 1 w.objects t.settled;
        };
        queues = queues_next (forwards place slot to) items t refl later (λ id. none_more (frozen_by d id) refl refl);
        alive = refl;
        to_make = omega arith;
        makes = omega arith;
        budget = cost + total (item_cost d (costs t)) items;
        good = (
          cost,
          deep,
          total (item_cost d (costs t)) items,
          (
            tt,
            record {
              due = record { place = place; is = stands; spec = given_read.spec; has = has; cheap = omega arith; shallow = omega arith };
              kind = kind.kind_is;
              lives = kind.lives;
            },
          ),
          (let less = due.1 in omega (arith, low, shallow, less)),
          omega arith,
          left_good (forwards place slot to) items t refl (view w),
        );
        spent = (let less = due.0 in omega (arith, less, cheap));
      })

  forward_fine : StepIsFine t
  forward_fine =
      let o = owns d w g.objects id.0 place slot given_read.spec stands has in
      fine_where t (record { world = w; agenda = later; counted = n })
      (ap (uncounted rest n) (set_leads d w place slot id.0 to target.0 items given_read.spec id.1 (spec_is d w id.0 slot o.o given_read.spec o.lives o.has) given_read.writable free target.1))
      set_good

pub forwards_are_fine : ForwardsAreFine
forwards_are_fine place slot to items = fine_of (λ d t. forward_fine place slot to items t)
