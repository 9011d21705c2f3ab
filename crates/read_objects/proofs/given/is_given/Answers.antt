use Rattle.std.proofs.Common.{◌∙◌, sym, nat_eq}
use Rattle.ui_machine.specs.Definition.Places.{GivenProperty}
use Rattle.definition_format.specs.Meaning.{given_property}
use Rattle.read_parts.proofs.Members.{any_mapped}
use Rattle.read_objects.proofs.given.is_given.Goals as goal

pub returns : goal.returns
returns c = c.has_value.ensures ∙ sym (any_mapped (λ (g : GivenProperty). nat_eq g.slot c.args.slot) given_property c.args.given.now)
