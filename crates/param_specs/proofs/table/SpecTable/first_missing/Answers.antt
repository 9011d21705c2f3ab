use Rattle.std.proofs.Common.{◌∙◌, sym, arith}
use Rattle.param_specs.proofs.First.{position_first, position_none}
use Rattle.param_specs.proofs.table.SpecTable.first_missing.Goals as goal

pub returns-then-is_missing-clause-slot : goal.returns-then-is_missing-clause-slot
returns-then-is_missing-clause-slot c = position_first _ _ _ _ c.loop-slot.invariant c.spec_at.ensures (sym c.is_missing.ensures ∙ c.if-is_missing.true)

pub returns-clause-slot : goal.returns-clause-slot
returns-clause-slot c = position_none _ _ c.loop-slot.slot c.loop-slot.invariant (omega (arith, c.slots_of-slot-end.ensures.count, c.loop-slot-test.false))
