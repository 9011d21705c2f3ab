use Rattle.std.proofs.Common.{subst}
use Rattle.definition_format.specs.Meaning.{IsBasic, parts}
use Rattle.definition_format.proofs.Tables.{basic}
use Rattle.definitions.proofs.definition.Definition.types.Goals as goal

pub returns-clause-basic : goal.returns-clause-basic
returns-clause-basic c =
    subst IsBasic c.self.view_is (basic (parts c.self.inside.types c.self.inside.specs c.self.inside.signals c.self.inside.constructed.items c.self.inside.shapes.entries c.self.inside.shaped.items c.self.inside.programs.entries c.self.inside.prototypes.entries c.self.inside.objects.entries c.self.inside.bindings.items c.self.inside.limits) c.self.invariant.sound)
