use Rattle.std.proofs.Common.{◌∷◌, true, ap, rules}
use Rattle.ui_machine.specs.State.Tasks.{Beginning}
use Rattle.ui_machine.specs.Steps.{uncounted}
use Rattle.engine_world.specs.View.{world_of}
use Rattle.engine_world.specs.TaskView.{agenda_of}
use Rattle.engine_stack.specs.TaskView.{new_of}
use Rattle.engine_stack.specs.declared.task.NewEmission.{NewEmission}
use Rattle.engine_world.proofs.Emits.{not_held, args_stop, detail_stops, emits}
use Rattle.engine_world.proofs.Ableness.{no_arm, none_stops}
use Rattle.ui_machine.specs.declared.arm.Halt.TheVariants as halts
use Rattle.engine_world.proofs.Held.{emission_lives, pushes_living}
use Rattle.engine_world.proofs.Left.{left_with}
use Rattle.engine_world.proofs.Named.{names_there}
use Rattle.engine_tasks.proofs.events.emit_from_event.Goals as goal

pub held_object-object-requires : goal.held_object-object-requires
held_object-object-requires c =
    let d = c.args.definition.now in
    let e = c.args.engine.now in
    record { able = none_stops _ (λ arm none. no_arm _ arm c.requires.able (not_held d (world_of e.world) c.args.place.0 c.args.signal _ _ (agenda_of d e) e.counted arm none)) }

pub shared_detail_in-requires : goal.shared_detail_in-requires
shared_detail_in-requires c =
    let d = c.args.definition.now in
    let e = c.args.engine.now in
    record {
      able = none_stops _ (λ arm none.
          no_arm _ arm c.requires.able
          (detail_stops d (world_of e.world) c.args.place.0 c.args.signal _ _ (agenda_of d e) e.counted _ c.held_object-object.ensures (halts.Stuck arm) none));
    }

pub add_operands-requires-clause-able : goal.add_operands-requires-clause-able
add_operands-requires-clause-able c =
    let d = c.args.definition.now in
    let e = c.args.engine.now in
    none_stops _ (λ arm none.
    no_arm _ arm c.requires.able
    (args_stop d (world_of e.world) c.args.place.0 c.args.signal _ _ (agenda_of d e) e.counted _ c.held_object-object.ensures _ c.in_ok-detail.ensures (halts.Stuck arm) none))

pub push_task-requires-clause-may : goal.push_task-requires-clause-may
push_task-requires-clause-may c =
    let d = c.args.definition.now in
    let e = c.args.engine.now in
    let w = world_of e.world in
    let new : NewEmission = record { object = c.held_object-object.result; signal = c.args.signal; detail = c.in_ok-detail.detail; args = c.add_operands.new.values; by_event = true } in
    let is = emits d w c.args.place.0 c.args.signal _ _ (agenda_of d e) e.counted _ c.held_object-object.ensures _ c.in_ok-detail.ensures _ c.in_ok-add_operands.ensures in
    let names = names_there _ (record { world = w; agenda = Beginning (new_of new) ∷ agenda_of d e; counted = e.counted }) (ap (uncounted (agenda_of d e) e.counted) is) c.requires.names in
    pushes_living d e _ c.requires.counted (λ d' o. emission_lives w o (new_of new) names.0)

pub returns : goal.returns
returns c = record {
  step =
      let d = c.args.definition.now in
      let e = c.args.engine.now in
      let is = emits d (world_of e.world) c.args.place.0 c.args.signal _ _ (agenda_of d e) e.counted _ c.held_object-object.ensures _ c.in_ok-detail.ensures _ c.in_ok-add_operands.ensures in
      left_with (world_of c.push_task.new.engine.world) (agenda_of d c.push_task.new.engine) e.counted c.push_task.new.engine.counted (agenda_of d e) _ _ _ is c.push_task.ensures.world (c.push_task.ensures.agenda d) c.push_task.ensures.same;
  quiet = search rules;
  counted = c.push_task.ensures.counted c.args.definition.now;
  room = search rules;
}
