use Rattle.std.proofs.Common.{◌≡◌, None}
use Rattle.ui_machine.specs.Seq.{read}
use Rattle.definition_format.specs.Denoted.Shapes.{shape_by}
use Rattle.definitions.proofs.shapes.shape_number.Given as goal

abbrev pub invariant-line : goal.invariant-line
invariant-line l = shape_by l.types (read None l.shaped) l.at ≡ shape_by l.types (read None l.shaped) l.fn.class

abbrev pub decreases-line : goal.decreases-line
decreases-line l = l.at
