use Rattle.std.proofs.Common.{arith}
use Rattle.ui_machine.specs.Definition.Names.{canonical}
use Rattle.name_tables.specs.Names.{number_of}
use Rattle.engine_links.specs.Steps.{slot_called}
use Rattle.name_tables.proofs.Adding.{all_classes}
use Rattle.engine_links.proofs.Adding.{no_slots}
use Rattle.engine_links.proofs.class_names.slot_names.Goals as goal

pub returns : goal.returns
returns c class name =
    let d = c.args.definition.now in
    all_classes (slot_called d) c.classes.class (number_of c.classes.names) c.classes.invariant
    (λ k past n. no_slots d k (omega (arith, past, c.classes-test.false, c.class_count-count.ensures.count)) n) class (canonical name)
