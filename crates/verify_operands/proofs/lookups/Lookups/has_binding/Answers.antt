use Rattle.std.proofs.Common.{ap, ◌∙◌}
use Rattle.std.specs.List.{list_any}
use Rattle.ui_machine.specs.Definition.{Definition}
use Rattle.verify_operands.specs.Parts.{is_named}
use Rattle.verify_operands.proofs.lookups.Lookups.has_binding.Goals as goal

pub returns : goal.returns
returns c =
    c.contains.ensures ∙ c.self.invariant.1 c.args.name.now
    ∙ ap (λ (d : Definition). list_any (is_named c.args.name.now) d.bindings) c.self.view_is
