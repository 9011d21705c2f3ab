use Rattle.std.proofs.Common.{subst}
use Rattle.ui_machine.specs.Definition as machine
use Rattle.definition_format.specs.Meaning.{parts}
use Rattle.definitions.specs.ClassNames.{AreSignals}
use Rattle.definitions.proofs.ClassNames.{signals_named}
use Rattle.definitions.proofs.definition.Definition.signal_names.Goals as goal

pub returns : goal.returns
returns c =
    subst (λ (d : machine.Definition). AreSignals d c.in_ok-names.names) c.self.view_is
    (signals_named (parts c.self.inside.types c.self.inside.specs c.self.inside.signals c.self.inside.constructed.items c.self.inside.shapes.entries c.self.inside.shaped.items c.self.inside.programs.entries c.self.inside.prototypes.entries c.self.inside.objects.entries c.self.inside.bindings.items c.self.inside.limits) c.in_ok-names.names c.in_ok-names.ensures)
