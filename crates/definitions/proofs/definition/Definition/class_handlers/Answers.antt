use Rattle.std.proofs.Common.{◌∙◌, arith}
use Rattle.definition_format.specs.Meaning.{parts}
use Rattle.definitions.proofs.ClassHandlers.{known_handlers, unknown_handlers}
use Rattle.definitions.proofs.definition.Definition.class_handlers.Goals as goal

pub returns-then-index-len : goal.returns-then-index-len
returns-then-index-len c =
    unknown_handlers (parts c.self.inside.types c.self.inside.specs c.self.inside.signals c.self.inside.constructed.items c.self.inside.shapes.entries c.self.inside.shaped.items c.self.inside.programs.entries c.self.inside.prototypes.entries c.self.inside.objects.entries c.self.inside.bindings.items c.self.inside.limits)
    c.args.self.now c.self.view_is c.args.class (omega (arith, c.len.ensures, c.index.ensures))

pub returns : goal.returns
returns c =
    c.own_handlers.ensures
    ∙ known_handlers (parts c.self.inside.types c.self.inside.specs c.self.inside.signals c.self.inside.constructed.items c.self.inside.shapes.entries c.self.inside.shaped.items c.self.inside.programs.entries c.self.inside.prototypes.entries c.self.inside.objects.entries c.self.inside.bindings.items c.self.inside.limits)
    c.args.self.now c.self.view_is c.args.class (omega (arith, c.len.ensures, c.index.ensures))
