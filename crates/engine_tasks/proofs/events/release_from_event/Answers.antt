use Rattle.std.proofs.Common.{◌≡◌, ℕ, ◌+◌, List, map, refl, ap, arith, rules}
use Rattle.ui_machine.specs.Rules.Events.{release_from_event}
use Rattle.ui_machine.specs.Seq.{read, total}
use Rattle.ui_machine.specs.State.Config.{BuilderEntry, builder_entry, released, unbuilt}
use Rattle.ui_machine.specs.State.References.{in_held, same}
use Rattle.engine_world.specs.declared.engine.Engine.{Engine}
use Rattle.engine_world.specs.View.{held_of, world_of}
use Rattle.engine_world.specs.TaskView.{agenda_of}
use Rattle.engine_world.proofs.Counts.{holder_less, keeps_by, keeps_on, keeps_said, stays}
use Rattle.engine_world.proofs.Floats.{holds_built}
use Rattle.engine_stack.proofs.Lists.{read-within, total-exchanged}
use Rattle.engine_tasks.proofs.events.release_from_event.Goals as goal

pub let_go_any-requires : goal.let_go_any-requires
let_go_any-requires c = record {
  held = λ o.
      let w = world_of c.args.engine.now.world in
      let place = c.args.place.0 in
      omega (
        arith,
        c.requires.holds.at o,
        read-within (in_held o) unbuilt w.builder place refl,
        holds_built o (builder_entry w place) c.held_object-object.result.0 c.held_object-object.ensures,
      );
}

pub returns : goal.returns
unfolding release_from_event
returns c = record {
  step = search rules;
  quiet = search rules;
  counted =
      let d = c.args.definition.now in
      let e = c.args.engine.now in
      let id = c.held_object-object.result.0 in
      let place = c.args.place.0 in
      let b = map held_of e.world.builder.items in
      let n = map held_of c.set_builder_entry.new.builder.items in
      let a = agenda_of d e in
      let f : Engine = record e { world = record e.world { table = c.let_go_any.new.table; builder = c.set_builder_entry.new.builder } } in
      let less : (o : ℕ) → total (in_held o) n + same o id ≡ total (in_held o) b =
      λ o. omega (
        arith,
        ap (λ (hs : List BuilderEntry). total (in_held o) hs) c.in_ok-set_builder_entry.ensures,
        total-exchanged (in_held o) unbuilt b place released refl,
        holds_built o (read unbuilt b place) id c.held_object-object.ensures,
      ) in
      keeps_on d e f (record e { world = c.say.new.self })
      (keeps_by d e f refl refl (λ g. g) refl (stays d e f refl refl) (λ taken _ h.
      holder_less d taken e.world.table c.let_go_any.new.table b n a a (λ o. same o id) c.let_go_any.ensures.only c.let_go_any.ensures.counts
      (λ o. omega (arith, less o)) h))
      (keeps_said d f c.say.new.self c.say.ensures.beside);
  room = search rules;
}
