use Rattle.std.proofs.Common.{◌<◌, [], List, length, option_map, slice_get, sym, ap, ◌∙◌, arith}
use Rattle.ui_machine.specs.Definition.Properties.{Spec}
use Rattle.ui_machine.specs.Definition as machine
use Rattle.ui_machine.specs.Definition.Lookups.{spec_of}
use Rattle.ui_machine.specs.Seq.{read}
use Rattle.param_specs.specs.Table.{own_of}
use Rattle.param_specs.specs.View.{spec_view}
use Rattle.definition_format.specs.Meaning.{parts}
use Rattle.definition_format.proofs.Tables.{known_specs, unknown_specs}
use Rattle.definitions.proofs.SlotPlaces.{a_slot, no_slot, within_own}
use Rattle.definitions.proofs.definition.Definition.spec.Goals as goal

pub returns-then-index-len : goal.returns-then-index-len
returns-then-index-len c =
    ap (λ (specs : List Spec). slice_get specs c.args.slot) (sym (unknown_specs (parts c.self.inside.types c.self.inside.specs c.self.inside.signals c.self.inside.constructed.items c.self.inside.shapes.entries c.self.inside.shaped.items c.self.inside.programs.entries c.self.inside.prototypes.entries c.self.inside.objects.entries c.self.inside.bindings.items c.self.inside.limits) c.args.class (omega (arith, c.len.ensures, c.index.ensures))))
    ∙ ap (λ (d : machine.Definition). spec_of d c.args.class c.args.slot) c.self.view_is

pub returns-in_err-place : goal.returns-in_err-place
returns-in_err-place c =
    let known : c.args.class < length c.self.inside.types = omega (arith, c.len.ensures, c.index.ensures, c.if-index-len.false) in
    let has = c.self.invariant.placed.each c.args.class (omega (arith, known, c.self.invariant.placed.all)) in
    let none = c.in_err-place.ensures ∙ ap (slice_get (read [] c.self.inside.slots c.args.class)) c.from.ensures in
    ap (option_map (λ s. spec_view s.now)) c.from_residual.ensures
    ∙ no_slot c.self.inside.types c.self.inside.specs c.args.class (read [] c.self.inside.slots c.args.class) has c.args.slot none
    ∙ ap (λ (specs : List Spec). slice_get specs c.args.slot) (sym (known_specs (parts c.self.inside.types c.self.inside.specs c.self.inside.signals c.self.inside.constructed.items c.self.inside.shapes.entries c.self.inside.shaped.items c.self.inside.programs.entries c.self.inside.prototypes.entries c.self.inside.objects.entries c.self.inside.bindings.items c.self.inside.limits) c.args.class known))
    ∙ ap (λ (d : machine.Definition). spec_of d c.args.class c.args.slot) c.self.view_is

pub own_spec-requires : goal.own_spec-requires
own_spec-requires c =
    let known : c.args.class < length c.self.inside.types = omega (arith, c.len.ensures, c.index.ensures, c.if-index-len.false) in
    let has = c.self.invariant.placed.each c.args.class (omega (arith, known, c.self.invariant.placed.all)) in
    let within = within_own c.self.inside.types c.self.inside.specs c.args.class (read [] c.self.inside.slots c.args.class) has c.from.result c.in_ok-place.place c.in_ok-place.ensures in
    omega (arith, within, c.from-2.ensures)

pub returns : goal.returns
returns c =
    let known : c.args.class < length c.self.inside.types = omega (arith, c.len.ensures, c.index.ensures, c.if-index-len.false) in
    let has = c.self.invariant.placed.each c.args.class (omega (arith, known, c.self.invariant.placed.all)) in
    let row = read [] c.self.inside.slots c.args.class in
    let place = c.in_ok-place.place in
    a_slot c.self.inside.types c.self.inside.specs c.args.class row has c.args.slot place (c.in_ok-place.ensures ∙ ap (slice_get row) c.from.ensures) (spec_view c.own_spec.result.now)
    (ap (slice_get (own_of c.self.inside.specs place.owner)) (sym c.from-2.ensures) ∙ c.own_spec.ensures)
    ∙ ap (λ (specs : List Spec). slice_get specs c.args.slot) (sym (known_specs (parts c.self.inside.types c.self.inside.specs c.self.inside.signals c.self.inside.constructed.items c.self.inside.shapes.entries c.self.inside.shaped.items c.self.inside.programs.entries c.self.inside.prototypes.entries c.self.inside.objects.entries c.self.inside.bindings.items c.self.inside.limits) c.args.class known))
    ∙ ap (λ (d : machine.Definition). spec_of d c.args.class c.args.slot) c.self.view_is
