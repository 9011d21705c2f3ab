use Rattle.std.proofs.Common.{◌≡◌, ◌<◌, [], length, Some, sym, ap, ◌∙◌, arith}
use Rattle.std.proofs.lemmas.List.{length-map}
use Rattle.ui_machine.specs.Definition as machine
use Rattle.ui_machine.specs.Definition.Lookups.{specs_of}
use Rattle.ui_machine.specs.Seq.{read}
use Rattle.param_specs.specs.SlotRows.{spec_in}
use Rattle.param_specs.specs.Table as own
use Rattle.definition_format.specs.Meaning.{parts}
use Rattle.definition_format.proofs.Tables.{known_specs, unknown_specs}
use Rattle.definitions.proofs.definition.Definition.slots.Goals as goal

pub returns-then-index-len-clause-slots : goal.returns-then-index-len-clause-slots
returns-then-index-len-clause-slots c =
    ap length (sym (unknown_specs (parts c.self.inside.types c.self.inside.specs c.self.inside.signals c.self.inside.constructed.items c.self.inside.shapes.entries c.self.inside.shaped.items c.self.inside.programs.entries c.self.inside.prototypes.entries c.self.inside.objects.entries c.self.inside.bindings.items c.self.inside.limits) c.args.class (omega (arith, c.len.ensures, c.index.ensures))))
    ∙ ap (λ (d : machine.Definition). length (specs_of d c.args.class)) c.self.view_is

pub returns-clause-slots : goal.returns-clause-slots
returns-clause-slots c =
    let known : c.args.class < length c.self.inside.types = omega (arith, c.len.ensures, c.index.ensures, c.if-index-len.false) in
    let row = read [] c.self.inside.slots c.args.class in
    let specs = own.specs_of c.self.inside.types c.self.inside.specs c.args.class in
    let placed = ap length (c.self.invariant.placed.each c.args.class (omega (arith, known, c.self.invariant.placed.all))) in
    let count : length row ≡ length specs = omega (arith, placed, length-map row (spec_in c.self.inside.specs), length-map specs (λ s. Some s)) in
    c.count.ensures.count ∙ count ∙ ap length (sym (known_specs (parts c.self.inside.types c.self.inside.specs c.self.inside.signals c.self.inside.constructed.items c.self.inside.shapes.entries c.self.inside.shaped.items c.self.inside.programs.entries c.self.inside.prototypes.entries c.self.inside.objects.entries c.self.inside.bindings.items c.self.inside.limits) c.args.class known))
    ∙ ap (λ (d : machine.Definition). length (specs_of d c.args.class)) c.self.view_is
