use Rattle.std.proofs.Common.{Ok, refl, sym, ap, ◌∙◌, arith}
use Rattle.ui_machine.specs.Rules.Build.{is_connecting, is_making, of_items}
use Rattle.ui_machine.specs.State.References.{in_task}
use Rattle.engine_world.specs.TaskView.{task_in}
use Rattle.engine_stack.specs.declared.task.Task as code
use Rattle.engine_world.proofs.Floats.{same_self}
use Rattle.engine_world.proofs.Held.{counted_lives}
use Rattle.engine_world.proofs.Rooms.{task_counted}
use Rattle.engine_instructions.proofs.Creating.{making_from}
use Rattle.engine_dispatches.proofs.Executed.{acts_plainly, executes_held}
use Rattle.engine_world.proofs.Signals.{bind_count, build_count}
use Rattle.engine_stack.specs.FirstConstructions.{construction_in}
use Rattle.engine_stack.specs.FirstEmissions.{emission_in}
use Rattle.engine_stack.specs.FirstPrograms.{program_in}
use Rattle.engine_world.proofs.RoomLeft.{room_less}
use Rattle.engine_dispatches.proofs.tasks.act.Goals as goal

-- ** the machine is not stuck there

pub validate_and_set-requires : goal.validate_and_set-requires
validate_and_set-requires c = record {
  able = rw c.in-Setting.is at c.requires.able;
  counted = task_counted c.args.definition.now c.args.engine.now c.args.task c.requires.counted;
  room = room_less c.args.engine.now c.requires.room;
}

pub notify-requires : goal.notify-requires
notify-requires c = record {
  able = rw c.in-Notifying.is at c.requires.able;
  counted = task_counted c.args.definition.now c.args.engine.now c.args.task c.requires.counted;
  room = room_less c.args.engine.now c.requires.room;
}

pub begin_emission-requires-clause-able : goal.begin_emission-requires-clause-able
begin_emission-requires-clause-able c = rw c.in-Beginning.is at c.requires.able

pub transfer-requires : goal.transfer-requires
transfer-requires c = record {
  able = rw c.in-Transferring.is at c.requires.able;
  counted = task_counted c.args.definition.now c.args.engine.now c.args.task c.requires.counted;
  room = c.requires.room;
}

pub notify_thawed-requires : goal.notify_thawed-requires
notify_thawed-requires c = record {
  able = rw c.in-Thawing.is at c.requires.able;
  live =
      let d = c.args.definition.now in
      let e = c.args.engine.now in
      counted_lives d _ e c.never_full.ensures.dead c.requires.counted c.in-Thawing.object.0
      (let one = ap (λ (t : code.Task). in_task c.in-Thawing.object.0 (task_in d e t)) c.in-Thawing.is in omega (arith, one, same_self c.in-Thawing.object.0));
  counted = task_counted c.args.definition.now c.args.engine.now c.args.task c.requires.counted;
  room = c.requires.room;
}

pub build-requires-clause-able : goal.build-requires-clause-able
build-requires-clause-able c = rw c.in-Building.is at c.requires.able

pub build-requires-clause-names : goal.build-requires-clause-names
build-requires-clause-names c = rw c.in-Building.is at c.requires.names

pub build-requires-clause-counted : goal.build-requires-clause-counted
build-requires-clause-counted c = task_counted c.args.definition.now c.args.engine.now c.args.task c.requires.counted

pub build-requires-clause-identity : goal.build-requires-clause-identity
build-requires-clause-identity c within =
    let d = c.args.definition.now in
    let e = c.args.engine.now in
    let makes = ap (λ (t : code.Task). of_items is_making (task_in d e t)) c.in-Building.is in
    let left = making_from d c.types-types.ensures.basic c.in-Building.place.0 c.in-Building.forwards in
    omega (arith, c.requires.identities, within, makes, left)

pub adopt_from_build-requires : goal.adopt_from_build-requires
adopt_from_build-requires c = record {
  able = rw c.in-Adopting.is at c.requires.able;
  counted = task_counted c.args.definition.now c.args.engine.now c.args.task c.requires.counted;
  room = room_less c.args.engine.now c.requires.room;
}

pub bind_from_build-requires-clause-able : goal.bind_from_build-requires-clause-able
bind_from_build-requires-clause-able c = rw c.in-Binding.is at c.requires.able

pub connect_from_build-requires-clause-able : goal.connect_from_build-requires-clause-able
connect_from_build-requires-clause-able c = rw c.in-Connecting.is at c.requires.able

pub build-requires-clause-numbers : goal.build-requires-clause-numbers
build-requires-clause-numbers c =
    let d = c.args.definition.now in
    let e = c.args.engine.now in
    let connects = ap (λ (t : code.Task). of_items is_connecting (task_in d e t)) c.in-Building.is in
    let all = build_count d c.in-Building.place.0 c.in-Building.forwards in
    omega (arith, c.requires.numbers, connects, all)

pub bind_from_build-requires-clause-numbers : goal.bind_from_build-requires-clause-numbers
bind_from_build-requires-clause-numbers c =
    let d = c.args.definition.now in
    let e = c.args.engine.now in
    let connects = ap (λ (t : code.Task). of_items is_connecting (task_in d e t)) c.in-Binding.is in
    let all = bind_count d c.in-Binding.number in
    omega (arith, c.requires.numbers, connects, all)

pub connect_from_build-requires-clause-numbers : goal.connect_from_build-requires-clause-numbers
connect_from_build-requires-clause-numbers c =
    let d = c.args.definition.now in
    let e = c.args.engine.now in
    let connects = ap (λ (t : code.Task). of_items is_connecting (task_in d e t)) c.in-Connecting.is in
    omega (arith, c.requires.numbers, connects)

pub pass_over-requires-clause-able : goal.pass_over-requires-clause-able
pass_over-requires-clause-able c = rw c.in-Calling.is at c.requires.able

pub pass_over-requires-clause-names : goal.pass_over-requires-clause-names
pass_over-requires-clause-names c = rw c.in-Calling.is at c.requires.names

pub run_source-requires : goal.run_source-requires
run_source-requires c = record {
  able = rw c.in-Due.is at c.requires.able;
  names = rw c.in-Due.is at c.requires.names;
  counted = task_counted c.args.definition.now c.args.engine.now c.args.task c.requires.counted;
  room = c.requires.room;
}

pub handle_event-requires-clause-able : goal.handle_event-requires-clause-able
handle_event-requires-clause-able c = rw c.in-Handling.is at c.requires.able

pub handle_event-requires-clause-names : goal.handle_event-requires-clause-names
handle_event-requires-clause-names c = rw c.in-Handling.is at c.requires.names

pub handle_event-requires-clause-counted : goal.handle_event-requires-clause-counted
handle_event-requires-clause-counted c = task_counted c.args.definition.now c.args.engine.now c.args.task c.requires.counted

pub unreachable-requires : goal.unreachable-requires
unreachable-requires c = let none = sym (ap (λ (t : code.Task). emission_in t) c.in-Emitting.is) ∙ c.requires.begins in cc none

pub unreachable-requires-in-Running : goal.unreachable-requires-in-Running
unreachable-requires-in-Running c = let none = sym (ap (λ (t : code.Task). program_in t) c.in-Running.is) ∙ c.requires.other in cc none

pub unreachable-requires-in-Constructing : goal.unreachable-requires-in-Constructing
unreachable-requires-in-Constructing c = let none = sym (ap (λ (t : code.Task). construction_in t) c.in-Constructing.is) ∙ c.requires.builds in cc none

pub unreachable-requires-in-Answering : goal.unreachable-requires-in-Answering
unreachable-requires-in-Answering c = rw c.in-Answering.is at c.requires.able

-- ** what was done

pub returns-in-Setting-clause-executes : goal.returns-in-Setting-clause-executes
returns-in-Setting-clause-executes c =
    acts_plainly c.args.definition.now c.args.engine.now c.validate_and_set.new.engine c.args.task _ c.validate_and_set.result c.in-Setting.is (λ o. refl) c.validate_and_set.ensures c.requires.counted

pub returns-in-Notifying-clause-executes : goal.returns-in-Notifying-clause-executes
returns-in-Notifying-clause-executes c =
    acts_plainly c.args.definition.now c.args.engine.now c.notify.new.engine c.args.task _ c.notify.result c.in-Notifying.is (λ o. refl) c.notify.ensures c.requires.counted

pub returns-in-Transferring-clause-executes : goal.returns-in-Transferring-clause-executes
returns-in-Transferring-clause-executes c =
    acts_plainly c.args.definition.now c.args.engine.now c.transfer.new.engine c.args.task _ c.transfer.result c.in-Transferring.is (λ o. refl) c.transfer.ensures c.requires.counted

pub returns-in-Unsetting-clause-executes : goal.returns-in-Unsetting-clause-executes
returns-in-Unsetting-clause-executes c =
    acts_plainly c.args.definition.now c.args.engine.now c.unset.new.engine c.args.task _ (Ok tt) c.in-Unsetting.is (λ o. refl) c.unset.ensures c.requires.counted

pub returns-in-Thawing-clause-executes : goal.returns-in-Thawing-clause-executes
returns-in-Thawing-clause-executes c =
    acts_plainly c.args.definition.now c.args.engine.now c.notify_thawed.new.engine c.args.task _ (Ok tt) c.in-Thawing.is (λ o. refl) c.notify_thawed.ensures c.requires.counted

pub returns-in-Building-clause-executes : goal.returns-in-Building-clause-executes
returns-in-Building-clause-executes c =
    acts_plainly c.args.definition.now c.args.engine.now c.build.new.engine c.args.task _ c.build.result c.in-Building.is (λ o. refl) c.build.ensures c.requires.counted

pub returns-in-Adopting-clause-executes : goal.returns-in-Adopting-clause-executes
returns-in-Adopting-clause-executes c =
    acts_plainly c.args.definition.now c.args.engine.now c.adopt_from_build.new.engine c.args.task _ c.adopt_from_build.result c.in-Adopting.is (λ o. refl) c.adopt_from_build.ensures c.requires.counted

pub returns-in-Binding-clause-executes : goal.returns-in-Binding-clause-executes
returns-in-Binding-clause-executes c =
    acts_plainly c.args.definition.now c.args.engine.now c.bind_from_build.new.engine c.args.task _ c.bind_from_build.result c.in-Binding.is (λ o. refl) c.bind_from_build.ensures c.requires.counted

pub returns-in-Connecting-clause-executes : goal.returns-in-Connecting-clause-executes
returns-in-Connecting-clause-executes c =
    acts_plainly c.args.definition.now c.args.engine.now c.connect_from_build.new.engine c.args.task _ c.connect_from_build.result c.in-Connecting.is (λ o. refl) c.connect_from_build.ensures c.requires.counted

pub returns-in-Due-clause-executes : goal.returns-in-Due-clause-executes
returns-in-Due-clause-executes c =
    acts_plainly c.args.definition.now c.args.engine.now c.run_source.new.engine c.args.task _ c.run_source.result c.in-Due.is (λ o. refl) c.run_source.ensures c.requires.counted

pub returns-in-Handling-clause-executes : goal.returns-in-Handling-clause-executes
returns-in-Handling-clause-executes c =
    acts_plainly c.args.definition.now c.args.engine.now c.handle_event.new.engine c.args.task _ c.handle_event.result c.in-Handling.is (λ o. refl) c.handle_event.ensures c.requires.counted

pub returns-in-Beginning-clause-executes : goal.returns-in-Beginning-clause-executes
returns-in-Beginning-clause-executes c =
    executes_held c.args.definition.now c.args.engine.now c.begin_emission.new.engine c.args.task _ c.begin_emission.result c.in-Beginning.is c.begin_emission.ensures

pub returns-in-Calling-clause-executes : goal.returns-in-Calling-clause-executes
returns-in-Calling-clause-executes c =
    executes_held c.args.definition.now c.args.engine.now c.pass_over.new.engine c.args.task _ c.pass_over.result c.in-Calling.is c.pass_over.ensures.executes
