use Rattle.std.proofs.Common.{◌∙◌, ap, arith}
use Rattle.bytecode.specs.View.{register_kind_view}
use Rattle.ui_machine.specs.Definition.Kinds as kinds
use Rattle.verify_operands.proofs.MappedLists.{read_within, read_behind}
use Rattle.verify_operands.proofs.operands.kind_in.Goals as goal

pub returns-then-register-kinds : goal.returns-then-register-kinds
returns-then-register-kinds c =
    ap register_kind_view c.index-kinds-register.is
    ∙ read_within register_kind_view kinds.unset c.args.kinds.now c.args.register.0 c.index-kinds-register.result c.if-register-kinds.true

pub returns-else-register-kinds : goal.returns-else-register-kinds
returns-else-register-kinds c = read_behind register_kind_view kinds.unset c.args.kinds.now c.args.register.0 (omega (arith, c.if-register-kinds.false))
