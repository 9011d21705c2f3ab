use Rattle.std.proofs.Common.{sym, ap, arith, ◌∙◌}
use Rattle.ui_machine.specs.Seq.{read}
use Rattle.type_tree.proofs.Entries.{read-past}
use Rattle.definition_format.proofs.Elements.{read-index}
use Rattle.engine_world.proofs.object_peers.number_at.Goals as goal

pub returns-then-place-numbers : goal.returns-then-place-numbers
returns-then-place-numbers c = read-index 0 c.args.numbers.now c.from-place.result ∙ ap (read 0 c.args.numbers.now) c.from-place.ensures

pub returns-else-place-numbers : goal.returns-else-place-numbers
returns-else-place-numbers c = sym (ap (read 0 c.args.numbers.now) (sym c.from-place.ensures) ∙ read-past 0 c.args.numbers.now c.from-place.result (omega (arith, c.if-place-numbers.false)))
