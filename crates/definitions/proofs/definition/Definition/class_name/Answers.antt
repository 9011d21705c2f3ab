use Rattle.std.proofs.Common.{◌∙◌, ap}
use Rattle.ui_machine.specs.Definition as machine
use Rattle.ui_machine.specs.Definition.Lookups.{type_of}
use Rattle.definitions.proofs.definition.Definition.class_name.Goals as goal

pub returns : goal.returns
returns c = c.type_name.ensures ∙ ap (λ (d : machine.Definition). (type_of d c.args.class).name) c.self.view_is
