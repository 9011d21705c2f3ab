use Rattle.std.proofs.Common.{List, [], Bool, sym, ap, ◌∙◌, arith}
use Rattle.ui_machine.specs.Seq.{read}
use Rattle.instance_tables.proofs.Marks.{read_mapped, read_past}
use Rattle.instance_tables.proofs.weak.WeakSlots.of.Goals as goal

pub returns-then-class-len : goal.returns-then-class-len
returns-then-class-len c =
    c.as_slice.ensures.value ∙ ap (λ v. v.items) c.index.ensures
    ∙ sym
    (read_mapped (λ v. v.items) c.self.inside.classes.items c.index-class.result c.index.result.now
    (omega (arith, c.len.ensures, c.if-class-len.true)))
    ∙ ap (read [] _) c.index-class.ensures
    ∙ ap (λ (cs : List (List Bool)). read [] cs c.args.class) c.self.view_is

pub returns-else-class-len : goal.returns-else-class-len
returns-else-class-len c =
    sym
    (ap (λ (cs : List (List Bool)). read [] cs c.args.class) (sym c.self.view_is) ∙ ap (read [] _) (sym c.index-class.ensures)
    ∙ read_past (λ v. v.items) c.self.inside.classes.items c.index-class.result
    (omega (arith, c.len.ensures, c.if-class-len.false)))
