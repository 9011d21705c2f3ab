use Rattle.std.proofs.Common.{List, [], Bool, true, false, not, sym, ap, ◌∙◌}
use Rattle.ui_machine.specs.Seq.{read}
use Rattle.instance_tables.proofs.Written.{marked, unmarked}
use Rattle.instance_tables.proofs.weak.WeakSlots.is_strong.Goals as goal

pub returns-then-slot-slots : goal.returns-then-slot-slots
returns-then-slot-slots c =
    let long = unmarked c.of-slots.result.now c.from-slot.result c.if-slot-slots.true in
    ap not
    (sym long ∙ ap (λ (bs : List Bool). read true bs c.from-slot.result) c.of-slots.ensures
    ∙ ap (read true (read [] c.args.self.now c.args.class)) c.from-slot.ensures)

pub returns : goal.returns
returns c =
    ap not
    (marked c.of-slots.result.now c.from-slot.result false c.if-slot-slots.false
    ∙ ap (λ (bs : List Bool). read true bs c.from-slot.result) c.of-slots.ensures
    ∙ ap (read true (read [] c.args.self.now c.args.class)) c.from-slot.ensures)
