-- The build makes an object its parent's child, or says that there is no room.
use Rattle.std.proofs.Common.{◌≡◌, refl, sym, ap, subst, ◌∙◌, ℕ, Bool, true, false, cond, List, [], ◌∷◌, ◌++◌, Option, None, Some, Ok, arith}
use Rattle.std.specs.Prelude.{codes}
use Rattle.ui_machine.specs.Seq.{read, total}
use Rattle.ui_machine.specs.Definition.{Definition}
use Rattle.ui_machine.specs.Definition.Lookups.{place_at}
use Rattle.ui_machine.specs.Definition.Places.{Place}
use Rattle.ui_machine.specs.Output.Lines as lines
use Rattle.ui_machine.specs.Output.Text.{text_of_line}
use Rattle.ui_machine.specs.Rules.Build.{building_child}
use Rattle.ui_machine.specs.Rules.Children.{is_unadoptable, with_family, adopted}
use Rattle.ui_machine.specs.State.Config.{World, said, unbuilt, built, without, starts}
use Rattle.ui_machine.specs.State.Objects.{Object, Objects, living, one_if}
use Rattle.ui_machine.specs.State.Tasks.{Item, adopts, Task, Building}
use Rattle.ui_machine.specs.Steps.{uncounted}
use Rattle.law_typing.specs.Verdict.Accepted.{Each}
use Rattle.law_typing.specs.Laws.StepsKeepGood.{IsGood}
use Rattle.law_typing.specs.Good.Standing.{standing, view, Lives}
use Rattle.law_typing.specs.Good.Builds.{is_for_builder, item_cost}
use Rattle.law_typing.specs.Good.DueCosts.{unsets}
use Rattle.law_typing.specs.Good.Freezes.{frozen_by, QueuesGood, carried}
use Rattle.law_typing.proofs.EdgeProofs.{append_left}
use Rattle.law_typing.proofs.Lists.{each_append}
use Rattle.law_static.specs.Items.{Adopts}
use Rattle.law_static.proofs.FollowProofs.{adopts_follow}
use Rattle.law_steps.specs.Kept.Family.{with_families}
use Rattle.law_steps.specs.Kept.Write.{Whole}
use Rattle.law_steps.proofs.Kept.AttachProofs.{handlers_wait_less}
use Rattle.law_steps.proofs.Kept.FamilyProofs.{families_keep}
use Rattle.law_steps.proofs.Instructed.FamilyProofs.{twice, before, sum_twice, families_good, own_child, each_without}
use Rattle.law_steps.proofs.Tasked.BeginningProofs.{Placed, placed}
use Rattle.law_steps.proofs.Tasked.Built.{none_below, held_made, objects_first_next, queues_next, build_next, bindings_next, left_good}
use Rattle.law_steps.proofs.Tasked.Changed.{whole_said, no_sets, changed_well}
use Rattle.law_steps.proofs.Tasked.First.{First, StepIsFine, fine_where, fine_of, costs, depths, most, making}
use Rattle.law_steps.specs.Tasked.BuildAdoptions.{AdoptionsAreFine}

-- ** what the machine does

adopts_lead : (d : Definition) (w : World) (place above parent child : ℕ) (items : List Item) (p : Place) (x y : Object) → place_at d place ≡ Some p → p.parent ≡ Some above →
    read unbuilt w.builder above ≡ built parent → read unbuilt w.builder place ≡ built child → living w.objects parent ≡ Some x → living w.objects child ≡ Some y → (late : Bool) →
    is_unadoptable parent x child y ≡ late →
    building_child d w place items ≡ starts (cond late (said d w (lines.limit (codes "adopt"))) (with_family d w parent child)) (Building items ∷ [])
unfolding building_child adopted
adopts_lead d w place above parent child items p x y at up of_parent of_child lives also true is = rw (at, up, of_parent, of_child, lives, also, is) refl
adopts_lead d w place above parent child items p x y at up of_parent of_child lives also false is = rw (at, up, of_parent, of_child, lives, also, is) refl

-- ** the step

module _ {d : Definition} (place : ℕ) (items : List Item) (t : First d (Building (adopts place ∷ items))) where
  open t use {well, a, w, rest, n, g}

  abbrev item : Item
  item = adopts place

  abbrev next : List Task
  next = Building items ∷ rest

  k : Adopts d g.build.0 place
  k = adopts_follow d well g.build.0 items place g.build.1

  child : (id : ℕ) × (read unbuilt w.builder place ≡ built id)
  child = held_made item items t refl place (let made = k.made in omega (arith, made))

  parent : (id : ℕ) × (read unbuilt w.builder k.above ≡ built id)
  parent = held_made item items t refl k.above (let made = k.made in let low = ((well.places place k.p k.at).parent k.above k.parent).0 in omega (arith, made, low))

  c : Placed d w child.0 place
  c = placed d well w g.objects child.0 place (g.held place child.0 child.1)

  p : Placed d w parent.0 k.above
  p = placed d well w g.objects parent.0 k.above (g.held k.above parent.0 parent.1)

  none_more : (f : Task → ℕ) → f (Building items) ≡ 0 → total f next ≡ 0
  none_more f none = let alone = none_below item items t refl f in omega (arith, none, alone)

  -- what was good of the world, with the items that are left
  whole : Whole d (costs t) (depths t) next w
  whole = record {
    objects = g.objects;
    handlers = handlers_wait_less d (costs t) (depths t) (standing w.objects) (Building (item ∷ items) ∷ rest) next w.last_handler w.handlers (λ f. omega arith) g.handlers;
    bindings = bindings_next item items t refl next (omega arith) (λ x. none_more (unsets x) refl);
    sources = g.sources;
    held = g.held;
    floating = g.floating;
    objects_first = objects_first_next item items t refl next w.bindings (none_more is_for_builder refl);
  }

  queues : QueuesGood d (depths t) (most t) next n w.objects
  queues = queues_next item items t refl next (λ id. none_more (frozen_by d id) refl)

  -- ** there is no room

  abbrev told : World
  told = said d w (lines.limit (codes "adopt"))

  told_good : IsGood d a t.most_counted (record { world = told; agenda = next; counted = n })
  told_good =
      changed_well t told next n
      (record {
        whole = whole_said d (costs t) (depths t) next w (w.transcript ++ text_of_line d.types (lines.limit (codes "adopt")) ∷ []) w.result whole;
        pool = g.peers;
        build = build_next item items t refl next (none_more is_for_builder refl);
        sets = no_sets d (record { world = told; agenda = next; counted = n }) (let none = g.sets.first in omega (arith, none)) g.sets.alone;
        queues = queues;
        alive = refl;
        to_make = omega arith;
        makes = omega arith;
        budget = total (item_cost d (costs t)) items;
        good = left_good item items t refl (view told);
        spent = (let cheap = g.agenda.3.2 in omega (arith, cheap));
      })

  -- ** it is adopted

  abbrev kids : List ℕ → List ℕ
  kids ids = ids ++ child.0 ∷ []

  abbrev os : Objects
  os = twice kids (Some parent.0) child.0 parent.0 w.objects

  abbrev v : World
  v = with_families w os (without child.0 w.floating) (w.transcript ++ text_of_line d.types (lines.adopt parent.0 child.0) ∷ [])

  lives : Lives (standing w.objects) child.0
  lives = record { place = place; is = g.held place child.0 child.1; allowed = tt }

  adopted_whole : Whole d (costs t) (depths t) next v
  adopted_whole =
      families_keep d (costs t) (depths t) next w os (without child.0 w.floating) (w.transcript ++ text_of_line d.types (lines.adopt parent.0 child.0) ∷ [])
      (families_good w g.objects kids (Some parent.0) child.0 parent.0 (λ id ids apart h. append_left ids (child.0 ∷ []) id h)
      (λ ids all. each_append (Lives (standing w.objects)) ids (child.0 ∷ []) all (lives, tt)) (own_child w.objects child.0 parent.0 p.o p.lives))
      (each_without (Lives (standing w.objects)) child.0 w.floating g.floating) whole

  same_sum : (f : Option Object → ℕ) → f None ≡ 0 → ((ids : List ℕ) (above : Option ℕ) (o : Object) → f (Some (record o { children = ids; parent = above })) ≡ f (Some o)) → total f os ≡ total f w.objects
  same_sum f none same = sum_twice kids (Some parent.0) child.0 parent.0 w.objects f none (λ g o. same (g o.children) o.parent o) (λ above o. same o.children above o)

  adopted_queues : QueuesGood d (depths t) (most t) next n v.objects
  adopted_queues id o is =
      let b = before kids (Some parent.0) child.0 parent.0 w.objects id o is in
      let q = queues id b.old b.was in
      let freezes = ap (λ (o : Object). o.freezes) b.same in
      let queue = ap (λ (o : Object). o.queue) b.same in
      record {
        count = freezes ∙ q.count;
        few = (let few = q.few in omega (arith, few, freezes));
        none = λ z. queue ∙ q.none (sym freezes ∙ z);
        deep = subst (Each _) (sym (queue ∙ q.none (freeze_none b.old b.was))) tt;
      }
    where
      freeze_none : (o : Object) → living w.objects id ≡ Some o → o.freezes ≡ 0
      freeze_none o is = (queues id o is).count ∙ none_more (frozen_by d id) refl

  adopted_good : IsGood d a t.most_counted (record { world = v; agenda = next; counted = n })
  adopted_good =
      changed_well t v next n
      (record {
        whole = adopted_whole;
        pool = g.peers;
        build = build_next item items t refl next (none_more is_for_builder refl);
        sets = no_sets d (record { world = v; agenda = next; counted = n }) (let none = g.sets.first in omega (arith, none)) g.sets.alone;
        queues = adopted_queues;
        alive = same_sum one_if refl (λ ids above o. refl);
        to_make = omega arith;
        makes = omega arith;
        budget = total (item_cost d (costs t)) items;
        good = left_good item items t refl (view v);
        spent = (let cheap = g.agenda.3.2 in let same = same_sum (carried d (costs t) (making t)) refl (λ ids above o. refl) in omega (arith, cheap, same));
      })

  adopt_fine : StepIsFine t
  adopt_fine =
      go (is_unadoptable parent.0 p.o child.0 c.o)
      (ap (uncounted rest n) (adopts_lead d w place k.above parent.0 child.0 items k.p p.o c.o k.at k.parent parent.1 child.1 p.lives c.lives (is_unadoptable parent.0 p.o child.0 c.o) refl))
    where
      go : (late : Bool) → uncounted rest n (building_child d w place items) ≡ Ok (record { world = cond late told (with_family d w parent.0 child.0); agenda = next; counted = n }) → StepIsFine t
      go true leads = fine_where t (record { world = told; agenda = next; counted = n }) leads told_good
      go false leads = fine_where t (record { world = v; agenda = next; counted = n }) leads adopted_good

pub adoptions_are_fine : AdoptionsAreFine
adoptions_are_fine place items = fine_of (λ d t. adopt_fine place items t)
