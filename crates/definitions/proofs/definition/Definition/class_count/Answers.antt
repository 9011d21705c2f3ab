use Rattle.std.proofs.Common.{◌∙◌, arith}
use Rattle.definition_format.specs.Meaning.{parts}
use Rattle.definitions.proofs.ClassHandlers.{class_count}
use Rattle.definitions.proofs.definition.Definition.class_count.Goals as goal

pub returns : goal.returns
returns c = record {
  count =
      c.len.ensures
      ∙ class_count (parts c.self.inside.types c.self.inside.specs c.self.inside.signals c.self.inside.constructed.items c.self.inside.shapes.entries c.self.inside.shaped.items c.self.inside.programs.entries c.self.inside.prototypes.entries c.self.inside.objects.entries c.self.inside.bindings.items c.self.inside.limits)
      c.args.self.now c.self.view_is;
  few = omega (arith, c.len.ensures, c.parent.ensures.tree.few);
}
