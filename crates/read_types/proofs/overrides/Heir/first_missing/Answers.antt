use Rattle.std.proofs.Common.{◌∙◌, sym, ap, arith}
use Rattle.param_specs.proofs.First.{none_before_more}
use Rattle.definition_format.specs.Denoted.Overrides.{is_missing}
use Rattle.read_types.proofs.Finding.{found_first, found_none}
use Rattle.read_types.proofs.overrides.Heir.first_missing.Goals as goal

pub returns-then-is_missing : goal.returns-then-is_missing
returns-then-is_missing c = found_first _ _ _ _ c.loop-slot.invariant c.own_spec-wanted.ensures (sym (c.is_missing.ensures ∙ ap is_missing c.has.ensures) ∙ c.if-is_missing.true)

pub loop-slot-preserved : goal.loop-slot-preserved
loop-slot-preserved c = none_before_more _ _ _ _ c.loop-slot.invariant c.own_spec-wanted.ensures (sym (c.is_missing.ensures ∙ ap is_missing c.has.ensures) ∙ c.if-is_missing.false)

pub returns : goal.returns
returns c = found_none _ _ c.loop-slot.slot c.loop-slot.invariant (omega (arith, c.own_count-slot-end.ensures.count, c.loop-slot-test.false))
