use Rattle.std.proofs.Common.{ap, sym, ◌∙◌}
use Rattle.ui_machine.specs.Rules.Construction.{nearest_shape}
use Rattle.engine_links.specs.Linked.{method_by}
use Rattle.engine_instructions.proofs.PeerCalls.{class_is, named_in, none_named}
use Rattle.engine_instructions.proofs.calls.method_number.Goals as goal

pub returns-in_err-shape : goal.returns-in_err-shape
returns-in_err-shape c o lives =
    let d = c.args.definition.now in
    let same = class_is c.args.engine.now.world.table.objects c.args.object.0 c.class_of-class.result o c.class_of-class.ensures lives in
    c.from_residual.ensures ∙ none_named d o.class c.args.name.now (c.in_err-shape.ensures ∙ ap (nearest_shape d) (sym same))

pub returns : goal.returns
returns c o lives =
    let d = c.args.definition.now in
    let same = class_is c.args.engine.now.world.table.objects c.args.object.0 c.class_of-class.result o c.class_of-class.ensures lives in
    c.method-2.ensures ∙ ap (method_by c.args.engine.now.links.methods c.in_ok-shape.shape) c.method.ensures ∙ c.requires.link c.in_ok-shape.shape
    ∙ named_in d o.class c.args.name.now c.in_ok-shape.shape (c.in_ok-shape.ensures ∙ ap (nearest_shape d) (sym same))
