use Rattle.std.proofs.Common.{◌≤◌, length, ap, sym, arith}
use Rattle.ui_machine.specs.Output.Text.{no_type}
use Rattle.ui_machine.specs.Rules.Ancestry.{implemented}
use Rattle.type_tree.proofs.Entries.{read-past}
use Rattle.read_types.proofs.ancestry.implemented.Goals as goal

pub returns-then-index-len : goal.returns-then-index-len
returns-then-index-len c =
    let past : length c.args.types.now ≤ c.args.t = omega (arith, c.if-index-len.true, c.len.ensures, c.index.ensures) in
    ap (λ g. implemented g.sort g.interfaces) (sym (read-past no_type c.args.types.now c.args.t past))
