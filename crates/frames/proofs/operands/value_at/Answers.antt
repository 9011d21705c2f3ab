use Rattle.std.proofs.Common.{sym}
use Rattle.frames.proofs.RegisterReads.{register_within, register_past}
use Rattle.frames.proofs.operands.value_at.Goals as goal

pub returns-then-at-registers : goal.returns-then-at-registers
returns-then-at-registers c =
    register_within c.args.registers.now c.args.at.0 c.as_ref.result c.index-registers-at.result c.if-at-registers.true
    c.as_ref.ensures.value c.index-registers-at.is

pub returns-else-at-registers : goal.returns-else-at-registers
returns-else-at-registers c = sym (register_past c.args.registers.now c.args.at.0 c.if-at-registers.false)
