use Rattle.std.proofs.Common.{ap, arith}
use Rattle.ui_machine.specs.State.References.{same}
use Rattle.engine_stack.specs.TaskView.{emission_of}
use Rattle.engine_world.proofs.Counts.{pushed_rest}
use Rattle.engine_world.proofs.Held.{may_less, may_one}
use Rattle.engine_world.proofs.emissions.push_emission.Goals as goal

pub hold_any-requires : goal.hold_any-requires
hold_any-requires c = record {
  may =
      let e = c.args.engine.now in
      may_less e.world.table (λ o. same o c.args.cursor.object) _ (λ o. let one = ap (same o) c.object.ensures in omega (arith, one))
      (may_one e c.args.cursor.object c.never_full.ensures.room c.requires.may);
}

pub returns-clause-agenda : goal.returns-clause-agenda
returns-clause-agenda c d = c.push_emission.ensures.tasks d c.args.engine.now.world.handlers.handlers

pub returns-clause-counted : goal.returns-clause-counted
returns-clause-counted c d taken h =
    let e = c.args.engine.now in
    pushed_rest d e c.hold_any.new.table c.push_emission.new.self taken (emission_of c.args.cursor c.args.values.now.items c.args.by_event) _ c.hold_any.ensures.only
    (λ o. let one = ap (same o) c.object.ensures in omega (arith, c.hold_any.ensures.counts o, one))
    (c.push_emission.ensures.tasks d e.world.handlers.handlers) (c.push_emission.ensures.begun e.world.handlers.last (c.requires.begun, c.requires.ends)) h
