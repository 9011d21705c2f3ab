use Rattle.std.proofs.Common.{sym, ap, ◌∙◌, option_map}
use Rattle.ui_machine.specs.Definition.{Definition}
use Rattle.ui_machine.specs.Outcome.{known}
use Rattle.law_typing.specs.Rules.Answers as rules
use Rattle.peer_shapes.specs.MethodViews.{lent_view}
use Rattle.verify_operands.specs.Methods.{method_called}
use Rattle.verify_operands.proofs.Methods.{no_shape, no_methods, no_method, of_number}
use Rattle.verify_operands.proofs.lookups.Lookups.method.Goals as goal

pub returns-in_err-shape_number : goal.returns-in_err-shape_number
returns-in_err-shape_number c =
    ap (λ found. known rules.unknown (option_map lent_view found)) c.from_residual.ensures
    ∙ (no_shape c.self.inside.definition.now c.args.class c.args.name.now (sym c.in_err-shape_number.ensures)
    ∙ ap (λ (d : Definition). method_called d c.args.class c.args.name.now) c.self.view_is)

pub returns-in_err-shape : goal.returns-in_err-shape
returns-in_err-shape c =
    ap (λ found. known rules.unknown (option_map lent_view found)) c.from_residual-in_err-shape.ensures
    ∙ (no_methods c.self.inside.definition.now c.args.class c.in_ok-shape_number.field-0 c.args.name.now (sym c.in_ok-shape_number.ensures) c.in_err-shape.ensures
    ∙ ap (λ (d : Definition). method_called d c.args.class c.args.name.now) c.self.view_is)

pub returns-in_err-find : goal.returns-in_err-find
returns-in_err-find c =
    ap (λ found. known rules.unknown (option_map lent_view found)) c.from_residual-in_err-find.ensures
    ∙ (no_method c.self.inside.definition.now c.args.class c.in_ok-shape_number.field-0 c.args.name.now c.in_ok-shape.shape.now (sym c.in_ok-shape_number.ensures) c.in_ok-shape.ensures
    c.in_err-find.ensures.found
    ∙ ap (λ (d : Definition). method_called d c.args.class c.args.name.now) c.self.view_is)

pub returns : goal.returns
returns c =
    of_number c.self.inside.definition.now c.args.class c.in_ok-shape_number.field-0 c.in_ok-find.field-0 c.args.name.now c.in_ok-shape.shape.now (option_map lent_view c.method.result)
    (sym c.in_ok-shape_number.ensures) c.in_ok-shape.ensures c.in_ok-find.ensures.found c.method.ensures
    ∙ ap (λ (d : Definition). method_called d c.args.class c.args.name.now) c.self.view_is
