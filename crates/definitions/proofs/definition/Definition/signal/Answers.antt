use Rattle.std.proofs.Common.{◌∙◌, arith}
use Rattle.definition_format.specs.Meaning.{parts}
use Rattle.definition_format.proofs.Tables.{signal_known, signal_unknown}
use Rattle.definitions.proofs.definition.Definition.signal.Goals as goal

pub returns-then-index-len : goal.returns-then-index-len
returns-then-index-len c =
    signal_unknown (parts c.self.inside.types c.self.inside.specs c.self.inside.signals c.self.inside.constructed.items c.self.inside.shapes.entries c.self.inside.shaped.items c.self.inside.programs.entries c.self.inside.prototypes.entries c.self.inside.objects.entries c.self.inside.bindings.items c.self.inside.limits) c.args.class c.args.self.now c.self.view_is (omega (arith, c.len.ensures, c.index.ensures)) c.args.number

pub returns : goal.returns
returns c =
    c.signal_in.ensures
    ∙ signal_known (parts c.self.inside.types c.self.inside.specs c.self.inside.signals c.self.inside.constructed.items c.self.inside.shapes.entries c.self.inside.shaped.items c.self.inside.programs.entries c.self.inside.prototypes.entries c.self.inside.objects.entries c.self.inside.bindings.items c.self.inside.limits) c.args.class c.args.self.now c.self.view_is (omega (arith, c.len.ensures, c.index.ensures)) c.args.number
