use Rattle.std.proofs.Common.{rules}
use Rattle.engine_instructions.proofs.Whole.{leads_whole}
use Rattle.engine_instructions.proofs.execution.execute.Goals as goal

pub returns-in-Compute-clause-executes : goal.returns-in-Compute-clause-executes
returns-in-Compute-clause-executes c = record {
  step = rw c.in-Compute.is (leads_whole c.args.definition.now c.compute_register.new.engine c.compute_register.result _ c.compute_register.ensures.step);
  quiet = search rules;
  counted = search rules;
  room = search rules;
}

pub returns-in-Control-clause-executes : goal.returns-in-Control-clause-executes
returns-in-Control-clause-executes c = record {
  step = rw c.in-Control.is (leads_whole c.args.definition.now c.execute_control.new.engine c.execute_control.result _ c.execute_control.ensures.step);
  quiet = search rules;
  counted = search rules;
  room = search rules;
}

pub returns-in-Property-clause-executes : goal.returns-in-Property-clause-executes
returns-in-Property-clause-executes c = record {
  step = rw c.in-Property.is (leads_whole c.args.definition.now c.execute_on_properties.new.engine c.execute_on_properties.result _ c.execute_on_properties.ensures.step);
  quiet = search rules;
  counted = search rules;
  room = search rules;
}

pub returns-in-Source-clause-executes : goal.returns-in-Source-clause-executes
returns-in-Source-clause-executes c = record {
  step = rw c.in-Source.is (leads_whole c.args.definition.now c.execute_on_sources.new.engine c.execute_on_sources.result _ c.execute_on_sources.ensures.step);
  quiet = search rules;
  counted = search rules;
  room = search rules;
}

pub returns-in-Peer-clause-executes : goal.returns-in-Peer-clause-executes
returns-in-Peer-clause-executes c = record {
  step = rw c.in-Peer.is (leads_whole c.args.definition.now c.call_from_program.new.engine c.call_from_program.result _ c.call_from_program.ensures.step);
  quiet = search rules;
  counted = search rules;
  room = search rules;
}
