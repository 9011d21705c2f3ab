use Rattle.std.proofs.Common.{◌∙◌, option_map, arith}
use Rattle.std.specs.Rc.{rc_str_bytes}
use Rattle.definition_format.specs.Meaning.{parts}
use Rattle.definition_format.proofs.Tables.{begins, begins_nothing}
use Rattle.definitions.proofs.definition.Definition.emission.Goals as goal

pub returns-then-index-len : goal.returns-then-index-len
returns-then-index-len c greatest =
    begins_nothing (parts c.self.inside.types c.self.inside.specs c.self.inside.signals c.self.inside.constructed.items c.self.inside.shapes.entries c.self.inside.shaped.items c.self.inside.programs.entries c.self.inside.prototypes.entries c.self.inside.objects.entries c.self.inside.bindings.items c.self.inside.limits) c.self.invariant.sound c.args.class c.args.object.0 c.args.number (option_map (λ text. rc_str_bytes text) c.args.detail) greatest c.args.self.now c.self.view_is (omega (arith, c.len.ensures, c.index.ensures))

pub returns : goal.returns
returns c greatest =
    c.emission.ensures greatest
    ∙ begins (parts c.self.inside.types c.self.inside.specs c.self.inside.signals c.self.inside.constructed.items c.self.inside.shapes.entries c.self.inside.shaped.items c.self.inside.programs.entries c.self.inside.prototypes.entries c.self.inside.objects.entries c.self.inside.bindings.items c.self.inside.limits) c.self.invariant.sound c.args.class c.args.object.0 c.args.number (option_map (λ text. rc_str_bytes text) c.args.detail) greatest c.args.self.now c.self.view_is (omega (arith, c.len.ensures, c.index.ensures))
