use Rattle.std.proofs.Common.{◌≡◌, true, false, refl, ap, ◌∙◌, Ok, Bool, rules}
use Rattle.ui_machine.specs.State.Config.{builder_entry, is_unbuilt, World}
use Rattle.ui_machine.specs.Steps.{uncounted}
use Rattle.engine_world.specs.View.{world_of}
use Rattle.engine_world.specs.TaskView.{agenda_of}
use Rattle.engine_world.proofs.Built.{no_object, held_before, held_now}
use Rattle.instance_tables.specs.Store.{Store}
use Rattle.std.proofs.Common.{ℕ, ◌+◌, map, List, arith}
use Rattle.ui_machine.specs.Seq.{total}
use Rattle.ui_machine.specs.State.Config.{BuilderEntry, unbuilt, built}
use Rattle.ui_machine.specs.State.References.{same, in_held}
use Rattle.engine_world.specs.View.{held_of}
use Rattle.engine_stack.proofs.Lists.{total-written}
use Rattle.engine_world.proofs.Floats.{holds_nothing}
use Rattle.engine_world.proofs.Counts.{keeps_by, holder_more, sunk_exact, stays}
use Rattle.ui_machine.specs.declared.arm.Arm.TheVariants as arms
use Rattle.ui_machine.specs.Rules.Construction.{constructed}
use Rattle.engine_world.specs.Able.{Able}
use Rattle.ui_machine.specs.State.Objects.{asked}
use Rattle.engine_world.proofs.Ableness.{in_uncounted, no_arm}
use Rattle.engine_world.proofs.Held.{may_counted, same_lives}
use Rattle.engine_world.proofs.LivingObjects.{lives_where}
use Rattle.instance_tables.proofs.Few.{same_most}
use Rattle.engine_tasks.proofs.builds.hold_made.Goals as goal

module _ (w : World) (id place : ℕ) (at : asked w.objects id (λ o. Ok o.place) ≡ Ok place) (able : Able (constructed w id true)) where
  -- nothing was built at its place
  unbuilt_there : is_unbuilt (builder_entry w place) ≡ true
  unbuilt_there = by (is_unbuilt (builder_entry w place)) refl
    where
      by : (b : Bool) → is_unbuilt (builder_entry w place) ≡ b → is_unbuilt (builder_entry w place) ≡ true
      by true h = h
      by false h = absurd (no_arm (constructed w id true) arms.Code able (held_before w id place at h))

pub place_of-place-requires : goal.place_of-place-requires
place_of-place-requires c = record {
  live =
      let w = world_of c.args.engine.now.world in
      let id = c.args.object.0 in
      lives_where w.objects id _ (λ arm is. no_arm (constructed w id true) arm (in_uncounted _ _ _ c.requires.able) (no_object w id arm is));
}

pub hold_any-requires : goal.hold_any-requires
hold_any-requires c = record {
  may =
      let w = world_of c.args.engine.now.world in
      let id = c.args.object.0 in
      may_counted c.args.definition.now c.args.engine.now _ c.never_full.ensures.room c.requires.counted (λ o. let one = same_most o id in omega (arith, one))
      (λ o. same_lives w.objects o id (lives_where w.objects id _ (λ arm is. no_arm (constructed w id true) arm (in_uncounted _ _ _ c.requires.able) (no_object w id arm is))));
}

pub returns : goal.returns
returns c = record {
  step =
      let w = world_of c.args.engine.now.world in
      let rest = agenda_of c.args.definition.now c.args.engine.now in
      let there = unbuilt_there w c.args.object.0 c.place_of-place.result.0 c.place_of-place.ensures (in_uncounted _ _ _ c.requires.able) in
      let floats = ap (λ (s : Store). s.floating) c.sink.ensures.beside in
      let objects = ap (λ (s : Store). s.objects) c.sink.ensures.beside in
      ap (uncounted rest c.args.engine.now.counted) (held_now w c.args.object.0 c.place_of-place.result.0 c.place_of-place.ensures there)
      ∙ rw (floats, objects, c.hold_any.ensures.only.floating, c.hold_any.ensures.only.objects, c.in_ok-set_builder_entry.ensures) refl;
  quiet = search rules;
  counted =
      let d = c.args.definition.now in
      let e = c.args.engine.now in
      let w = world_of e.world in
      let id = c.args.object.0 in
      let place = c.place_of-place.result.0 in
      let b = map held_of e.world.builder.items in
      let n = map held_of c.set_builder_entry.new.builder.items in
      let a = agenda_of d e in
      let there = unbuilt_there w c.args.object.0 c.place_of-place.result.0 c.place_of-place.ensures (in_uncounted _ _ _ c.requires.able) in
      let more : (o : ℕ) → total (in_held o) n ≡ total (in_held o) b + same o id =
      λ o. ap (λ (hs : List BuilderEntry). total (in_held o) hs) c.in_ok-set_builder_entry.ensures ∙ total-written (in_held o) unbuilt b place (built id) refl (holds_nothing o (builder_entry w place) there) in
      keeps_by d e _ refl refl (λ g. g) refl (stays d e _ refl refl) (λ taken _ h.
      sunk_exact d taken c.hold_any.new.table c.sink.new.self n a id c.sink.ensures
      (holder_more d taken e.world.table c.hold_any.new.table b n a a (λ o. same o id) c.hold_any.ensures.only c.hold_any.ensures.counts
      (λ o. omega (arith, more o)) h));
  room = search rules;
}
