use Rattle.std.proofs.Common.{None, sym, arith}
use Rattle.type_tree.proofs.Entries.{read-past}
use Rattle.definition_format.proofs.Elements.{read-index}
use Rattle.definitions.proofs.definition.number_at.Goals as goal

pub returns-then-place-numbers : goal.returns-then-place-numbers
returns-then-place-numbers c = read-index None c.args.numbers.now c.args.place

pub returns-else-place-numbers : goal.returns-else-place-numbers
returns-else-place-numbers c = sym (read-past None c.args.numbers.now c.args.place (omega (arith, c.if-place-numbers.false)))
