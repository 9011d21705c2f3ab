use Rattle.std.proofs.Common.{Ok, rules}
use Rattle.engine_instructions.proofs.Whole.{leads_whole}
use Rattle.engine_instructions.proofs.execution.execute_on_signals.Goals as goal

pub returns-in_ok-emit_from_program-in-Emit : goal.returns-in_ok-emit_from_program-in-Emit
returns-in_ok-emit_from_program-in-Emit c = record {
  step = rw (c.in-Emit.is, ← c.as_str.ensures.value, ← c.as_slice.ensures.value) (leads_whole {X = Unit {0}} c.args.definition.now c.emit_from_program.new.engine (Ok tt) _ c.in_ok-emit_from_program-in-Emit.ensures.step);
  quiet = search rules;
  counted = search rules;
  room = search rules;
}

pub returns-in_ok-connect_from_program-in-Connect : goal.returns-in_ok-connect_from_program-in-Connect
returns-in_ok-connect_from_program-in-Connect c = record {
  step = rw c.in-Connect.is (leads_whole {X = Unit {0}} c.args.definition.now c.connect_from_program.new.engine (Ok tt) _ c.in_ok-connect_from_program-in-Connect.ensures.step);
  quiet = search rules;
  counted = search rules;
  room = search rules;
}

pub returns-in-Block : goal.returns-in-Block
returns-in-Block c = record {
  step = rw (c.in-Block.is, ← c.as_str-in-Block.ensures.value) (leads_whole {X = Unit {0}} c.args.definition.now c.block_matched.new.engine (Ok tt) _ c.block_matched.ensures.step);
  quiet = search rules;
  counted = search rules;
  room = search rules;
}

pub returns-in-Unblock : goal.returns-in-Unblock
returns-in-Unblock c = record {
  step = rw (c.in-Unblock.is, ← c.as_str-in-Unblock.ensures.value) (leads_whole {X = Unit {0}} c.args.definition.now c.unblock_matched.new.engine (Ok tt) _ c.unblock_matched.ensures.step);
  quiet = search rules;
  counted = search rules;
  room = search rules;
}

pub returns-in-Stop : goal.returns-in-Stop
returns-in-Stop c = record {
  step = rw c.in-Stop.is (leads_whole {X = Unit {0}} c.args.definition.now c.stop_from_program.new.engine (Ok tt) _ c.stop_from_program.ensures.step);
  quiet = search rules;
  counted = search rules;
  room = search rules;
}
