use Rattle.std.proofs.Common.{◌∙◌, None, List, Option, ℕ, ap}
use Rattle.ui_machine.specs.Definition as machine
use Rattle.ui_machine.specs.Rules.Construction.{nearest_shape}
use Rattle.ui_machine.specs.Seq.{read}
use Rattle.definition_format.specs.Denoted.Shapes.{shape_by}
use Rattle.definition_format.specs.Meaning.{parts}
use Rattle.definition_format.proofs.Tables.{nearest_is}
use Rattle.definitions.proofs.definition.Definition.shape_number.Goals as goal

pub returns : goal.returns
returns c =
    c.shape_number.ensures
    ∙ ap (λ (shaped : List (Option ℕ)). shape_by c.self.inside.types (read None shaped) c.args.class) c.as_slice.ensures.value
    ∙ nearest_is (parts c.self.inside.types c.self.inside.specs c.self.inside.signals c.self.inside.constructed.items c.self.inside.shapes.entries c.self.inside.shaped.items c.self.inside.programs.entries c.self.inside.prototypes.entries c.self.inside.objects.entries c.self.inside.bindings.items c.self.inside.limits) c.self.invariant.sound c.args.class
    ∙ ap (λ (d : machine.Definition). nearest_shape d c.args.class) c.self.view_is
