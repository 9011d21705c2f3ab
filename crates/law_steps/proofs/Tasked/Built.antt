-- The build comes to an item that makes no object: what is there then, and what the next items find.
use Rattle.std.proofs.Common.{◌≡◌, refl, sym, ap, subst, ◌∙◌, ℕ, ◌<◌, ◌≤◌, List, [], ◌∷◌, ◌++◌, Some, arith}
use Rattle.ui_machine.specs.Seq.{read, total}
use Rattle.ui_machine.specs.Definition.{Definition}
use Rattle.ui_machine.specs.Rules.Build.{of_items, is_making}
use Rattle.ui_machine.specs.State.Bindings.{Binding}
use Rattle.ui_machine.specs.State.Config.{unbuilt, built}
use Rattle.ui_machine.specs.State.Objects.{Object, living}
use Rattle.ui_machine.specs.State.Tasks.{Item, Task, Building}
use Rattle.law_typing.specs.Verdict.Accepted.{Each}
use Rattle.law_typing.specs.Laws.WellRead.{IsObject, objects_of}
use Rattle.law_typing.specs.Good.Standing.{standing, View}
use Rattle.law_typing.specs.Good.Agenda.{AgendaGood}
use Rattle.law_typing.specs.Good.Bindings.{is_binding, BindingsGood}
use Rattle.law_typing.specs.Good.Builds.{is_for_builder, BuildGood, item_cost}
use Rattle.law_typing.specs.Good.ComingDown.{none}
use Rattle.law_typing.specs.Good.DueCosts.{unsets}
use Rattle.law_typing.specs.Good.Freezes.{frozen_by, QueuesGood, ObjectsFirst}
use Rattle.law_static.proofs.PlanCostProofs.{total_append}
use Rattle.law_static.proofs.RequestProofs.{object_below}
use Rattle.law_steps.proofs.Kept.Left.{each_to}
use Rattle.law_steps.proofs.Tasked.BuildSignalsProofs.{held_below}
use Rattle.law_steps.proofs.Tasked.First.{First, costs, depths, most}

module _ {d : Definition} (item : Item) (items : List Item) (t : First d (Building (item ∷ items))) (plain : is_making item ≡ 0) where
  open t use {well, w, rest, n, g}

  pub none_below : (f : Task → ℕ) → total f rest ≡ 0
  none_below f = ap (total f) g.agenda.3.1

  -- the builder holds what was made
  pub held_made : (place : ℕ) → place < total is_making g.build.0 → (id : ℕ) × (read unbuilt w.builder place ≡ built id)
  held_made place low = held_below w.builder g.build.3 place (let count = g.build.2 in let alone = none_below is_for_builder in omega (arith, count, alone, low))

  -- and where all was made, each object
  pub held_object : total is_making g.build.0 ≡ objects_of d → (place : ℕ) → IsObject d place → (id : ℕ) × (read unbuilt w.builder place ≡ built id)
  held_object made place object = held_made place (let low = object_below d well place object in omega (arith, low, made))

  -- nothing is frozen
  pub thawed : (id : ℕ) (o : Object) → living w.objects id ≡ Some o → o.freezes ≡ 0
  thawed id o is = let count = (g.queues id o is).count in let alone = none_below (frozen_by d id) in omega (arith, count, alone)

  pub objects_first_next : (agenda : List Task) (bs : List Binding) → total is_for_builder agenda ≡ 0 → ObjectsFirst agenda bs
  objects_first_next agenda bs made = record {
    before = λ some. absurd (omega (arith, made, some));
    one = omega (arith, made);
  }

  pub queues_next : (agenda : List Task) → ((id : ℕ) → total (frozen_by d id) agenda ≡ 0) → QueuesGood d (depths t) (most t) agenda n w.objects
  queues_next agenda free id o is =
      let q = g.queues id o is in
      let none = thawed id o is in
      let z = free id in
      record { count = omega (arith, none, z); few = q.few; none = q.none; deep = subst (Each _) (sym (q.none none)) tt }

  -- the build goes on with the next item
  pub build_next : (agenda : List Task) → total is_for_builder agenda ≡ 0 → BuildGood d w.builder agenda (Building items ∷ rest)
  build_next agenda made = (
    g.build.0 ++ item ∷ [],
    g.build.1 ∙ sym (one_on g.build.0),
    (let count = g.build.2 in let alone = none_below is_for_builder in let split = total_append is_making g.build.0 (item ∷ []) in omega (arith, count, alone, split, made, plain)),
    g.build.3,
  )
    where
      one_on : (xs : List Item) → (xs ++ item ∷ []) ++ items ≡ xs ++ item ∷ items
      one_on [] = refl
      one_on (x ∷ xs) = ap (λ (zs : List Item). x ∷ zs) (one_on xs)

  -- bindings stay good where no more of them are to be made
  pub bindings_next : (agenda : List Task) → (total (of_items is_binding) agenda ≤ total (of_items is_binding) (Building (item ∷ items) ∷ rest)) →
      ((number : ℕ) → total (unsets number) agenda ≡ 0) → BindingsGood d (standing w.objects) agenda w.bindings
  bindings_next agenda less unset = record {
    each = each_to _ _ w.bindings
        (λ (b : Binding) old. record {
          bind = old.bind;
          is = old.is;
          name = old.name;
          slots = old.slots;
          source = old.source;
          target = old.target;
          setting = (let s = old.setting in let z = unset b.number in let alone = none_below (unsets b.number) in omega (arith, s, z, alone));
        }) g.bindings.each;
    rising = g.bindings.rising;
    made = each_to _ _ w.bindings (λ (b : Binding) low. omega (arith, low, less)) g.bindings.made;
  }

  -- the items that are left, whatever the world
  pub left_good : (v : View) → AgendaGood d (costs t) (depths t) v (most t) none (Building items ∷ rest) (total (item_cost d (costs t)) items)
  left_good v = (
    total (item_cost d (costs t)) items,
    g.agenda.1,
    0,
    (tt, g.agenda.3.1, omega arith, g.agenda.3.3.1),
    g.agenda.4,
    omega arith,
    subst (λ r. AgendaGood d (costs t) (depths t) v (most t) none r 0) (sym g.agenda.3.1) tt,
  )
