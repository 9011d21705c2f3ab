use Rattle.std.proofs.Common.{sym, ap, arith}
use Rattle.ui_machine.specs.Definition.Types.{GType}
use Rattle.definition_format.proofs.Tables.{type_past}
use Rattle.definitions.proofs.types.type_name.Goals as goal

pub returns-then-index-len : goal.returns-then-index-len
returns-then-index-len c = ap (λ (t : GType). t.name) (sym (type_past c.args.types.now c.args.t (omega (arith, c.len.ensures, c.index.ensures))))
