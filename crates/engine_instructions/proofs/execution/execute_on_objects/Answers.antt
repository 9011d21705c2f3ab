use Rattle.std.proofs.Common.{Ok, rules}
use Rattle.engine_instructions.proofs.Whole.{leads_whole}
use Rattle.engine_instructions.proofs.execution.execute_on_objects.Goals as goal

pub returns-in-LookUp-clause-executes : goal.returns-in-LookUp-clause-executes
returns-in-LookUp-clause-executes c = record {
  step = rw (c.in-LookUp.is, ← c.as_str.ensures.value) (leads_whole {X = Unit {0}} c.args.definition.now c.look_up_object.new.engine (Ok tt) _ c.look_up_object.ensures.step);
  quiet = search rules;
  counted = search rules;
  room = search rules;
}

pub returns-in_ok-create-in-New-clause-executes : goal.returns-in_ok-create-in-New-clause-executes
returns-in_ok-create-in-New-clause-executes c = record {
  step = rw (c.in-New.is, ← c.as_str-in-New.ensures.value) (leads_whole {X = Unit {0}} c.args.definition.now c.create.new.engine (Ok tt) _ c.in_ok-create-in-New.ensures.step);
  quiet = search rules;
  counted = search rules;
  room = search rules;
}

pub returns-in-Sink-clause-executes : goal.returns-in-Sink-clause-executes
returns-in-Sink-clause-executes c = record {
  step = rw c.in-Sink.is (leads_whole {X = Unit {0}} c.args.definition.now c.sink.new.engine (Ok tt) _ c.sink.ensures.step);
  quiet = search rules;
  counted = search rules;
  room = search rules;
}

pub returns-in_ok-orphan-in-Orphan-clause-executes : goal.returns-in_ok-orphan-in-Orphan-clause-executes
returns-in_ok-orphan-in-Orphan-clause-executes c = record {
  step = rw c.in-Orphan.is (leads_whole {X = Unit {0}} c.args.definition.now c.orphan.new.engine (Ok tt) _ c.in_ok-orphan-in-Orphan.ensures.step);
  quiet = search rules;
  counted = search rules;
  room = search rules;
}

pub returns-in_ok-adopt_from_program-in-Adopt-clause-executes : goal.returns-in_ok-adopt_from_program-in-Adopt-clause-executes
returns-in_ok-adopt_from_program-in-Adopt-clause-executes c = record {
  step = rw c.in-Adopt.is (leads_whole {X = Unit {0}} c.args.definition.now c.adopt_from_program.new.engine (Ok tt) _ c.in_ok-adopt_from_program-in-Adopt.ensures.step);
  quiet = search rules;
  counted = search rules;
  room = search rules;
}
