use Rattle.std.proofs.Common.{List, sym, ap, ◌∙◌, arith}
use Rattle.ui_machine.specs.Definition.Properties.{Spec}
use Rattle.ui_machine.specs.Definition as machine
use Rattle.ui_machine.specs.Definition.Lookups.{slot_of}
use Rattle.param_specs.specs.Table.{slot_named}
use Rattle.definition_format.specs.Meaning.{parts}
use Rattle.definition_format.proofs.Tables.{known_specs, unknown_specs}
use Rattle.definitions.proofs.definition.Definition.slot.Goals as goal

pub returns-then-index-len : goal.returns-then-index-len
returns-then-index-len c =
    ap (λ (specs : List Spec). slot_named specs c.args.name.now) (sym (unknown_specs (parts c.self.inside.types c.self.inside.specs c.self.inside.signals c.self.inside.constructed.items c.self.inside.shapes.entries c.self.inside.shaped.items c.self.inside.programs.entries c.self.inside.prototypes.entries c.self.inside.objects.entries c.self.inside.bindings.items c.self.inside.limits) c.args.class (omega (arith, c.len.ensures, c.index.ensures))))
    ∙ ap (λ (d : machine.Definition). slot_of d c.args.class c.args.name.now) c.self.view_is

pub returns : goal.returns
returns c =
    c.find.ensures ∙ ap (λ (specs : List Spec). slot_named specs c.args.name.now) (sym (known_specs (parts c.self.inside.types c.self.inside.specs c.self.inside.signals c.self.inside.constructed.items c.self.inside.shapes.entries c.self.inside.shaped.items c.self.inside.programs.entries c.self.inside.prototypes.entries c.self.inside.objects.entries c.self.inside.bindings.items c.self.inside.limits) c.args.class (omega (arith, c.len.ensures, c.index.ensures))))
    ∙ ap (λ (d : machine.Definition). slot_of d c.args.class c.args.name.now) c.self.view_is
