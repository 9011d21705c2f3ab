use Rattle.std.proofs.Common.{None, sym, arith}
use Rattle.type_tree.proofs.Entries.{read-past}
use Rattle.definition_format.proofs.Elements.{read-index}
use Rattle.definitions.proofs.shapes.shape_at.Goals as goal

pub returns-then-place-shaped : goal.returns-then-place-shaped
returns-then-place-shaped c = read-index None c.args.shaped.now c.args.place

pub returns-else-place-shaped : goal.returns-else-place-shaped
returns-else-place-shaped c = sym (read-past None c.args.shaped.now c.args.place (omega (arith, c.if-place-shaped.false)))
