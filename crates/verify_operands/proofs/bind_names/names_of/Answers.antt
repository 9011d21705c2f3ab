use Rattle.std.proofs.Common.{◌||◌, sym, ap, ◌∙◌}
use Rattle.law_typing.specs.Rules.Typing.{is_called}
use Rattle.std.specs.BTreeSet.{contains_text}
use Rattle.verify_operands.specs.BindNames.{name_at}
use Rattle.verify_operands.proofs.BindNames.{any_next}
use Rattle.verify_operands.proofs.bind_names.names_of.Goals as goal

pub loop-number-preserved : goal.loop-number-preserved
loop-number-preserved c name =
    let bindings = c.args.definition.now.bindings in
    let i = c.loop-number.number in
    c.in_ok-add_name.ensures name
    ∙ ap (λ own. contains_text c.loop-number.names name || is_called name own) c.name_at.ensures
    ∙ ap (λ b. b || is_called name (name_at bindings i)) (c.loop-number.invariant name)
    ∙ sym (any_next name bindings i)
