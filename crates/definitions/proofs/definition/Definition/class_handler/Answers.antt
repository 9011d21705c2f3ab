use Rattle.std.proofs.Common.{option_and_then, ap, ◌∙◌}
use Rattle.ui_machine.specs.Definition.Signals.{Signal}
use Rattle.ui_machine.specs.Rules.EmissionPlan.{class_handler_of}
use Rattle.definition_format.specs.Meaning.{parts}
use Rattle.definitions.proofs.ClassHandlers.{handler_is}
use Rattle.definitions.proofs.definition.Definition.class_handler.Goals as goal

pub returns : goal.returns
returns c =
    c.number_as_given.ensures
    ∙ c.self.invariant.handled c.args.class c.in-Some.signal.name.now
    ∙ handler_is (parts c.self.inside.types c.self.inside.specs c.self.inside.signals c.self.inside.constructed.items c.self.inside.shapes.entries c.self.inside.shaped.items c.self.inside.programs.entries c.self.inside.prototypes.entries c.self.inside.objects.entries c.self.inside.bindings.items c.self.inside.limits)
    c.self.invariant.sound c.args.self.now c.self.view_is c.args.class c.in-Some.signal.name.now
    ∙ ap (option_and_then (λ (s : Signal). class_handler_of c.args.self.now c.args.class s.name)) c.in-Some.ensures
