use Rattle.ui_machine.specs.Definition.Names.{place_named}
use Rattle.engine_links.specs.Rows.{method_of}
use Rattle.engine_links.specs.Steps.{method_called}
use Rattle.name_tables.proofs.Adding.{up_to_more}
use Rattle.engine_links.proofs.Naming.{its_methods}
use Rattle.engine_links.proofs.method_rows.MethodRows.new.Goals as goal

pub shapes-preserved : goal.shapes-preserved
shapes-preserved c =
    let d = c.args.definition.now in
    let methods = c.in-Some.shape.now in
    up_to_more (method_called d) c.shapes.number (method_of c.shapes.methods) (method_of c.add_shape.new.self) (place_named (λ m. m.name) methods) c.shapes.invariant
    c.in_ok-add_shape.ensures (λ n. its_methods d c.shapes.number methods n c.in-Some.ensures)
