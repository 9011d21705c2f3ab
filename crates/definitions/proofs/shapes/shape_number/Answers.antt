use Rattle.std.proofs.Common.{◌∙◌, None, ap, sym}
use Rattle.ui_machine.specs.Seq.{read}
use Rattle.definitions.proofs.ShapeLines.{shape_child}
use Rattle.definitions.proofs.shapes.shape_number.Goals as goal

pub line-preserved : goal.line-preserved
line-preserved c =
    shape_child c.args.types.now c.in-Some-parent.ensures.tree (read None c.args.shaped.now) c.line.at c.in-Some-parent.parent (sym c.in-Some-parent.ensures.parent)
    (ap (read None c.args.shaped.now) (sym c.index.ensures) ∙ sym c.shape_at.ensures ∙ c.in_default.is)
    ∙ c.line.invariant
