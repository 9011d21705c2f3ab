use Rattle.std.proofs.Common.{map, refl}
use Rattle.instance_tables.proofs.Exact.{join_exact}
use Rattle.instance_tables.proofs.Families.{both_live}
use Rattle.engine_world.proofs.Rooms.{held_room}
use Rattle.ui_machine.specs.State.Objects.{living}
use Rattle.engine_world.specs.View.{held_of}
use Rattle.engine_world.specs.TaskView.{agenda_of}
use Rattle.engine_world.proofs.Counts.{beside_of, to_counted, from_counted, keeps_by, keeps_on, keeps_said, with_table, stays}
use Rattle.engine_world.proofs.Kin.{parent_lives}
use Rattle.engine_world.proofs.children.adopt.Goals as goal

pub adopt-requires : goal.adopt-requires
adopt-requires c = record {
  room =
      let e = c.args.engine.now in
      let t = e.world.table in
      let child = c.args.kin.child.0 in
      held_room t child
      (c.never_full.ensures.may c.args.definition.now c.requires.counted child (both_live t c.args.kin.parent.0 child c.requires.free).1);
}

pub returns-clause-counted : goal.returns-clause-counted
returns-clause-counted c =
    let d = c.args.definition.now in
    let e = c.args.engine.now in
    let t = e.world.table in
    let n = c.adopt.new.self in
    let parent = c.args.kin.parent.0 in
    let child = c.args.kin.child.0 in
    let b = map held_of e.world.builder.items in
    let a = agenda_of d e in
    let lives = parent_lives parent child (living t.objects parent) (living t.objects child) c.requires.free in
    keeps_on d e (with_table e n) (record e { world = c.say.new.self })
    (keeps_by d e (with_table e n) refl refl (λ g. g) refl (stays d e (with_table e n) refl refl) (λ taken _ h.
    from_counted d taken n b a (join_exact d (beside_of taken b a) t n parent child lives c.in-Ok.ensures.1 (to_counted d taken t b a h))))
    (keeps_said d (with_table e n) c.say.new.self c.say.ensures.beside)
