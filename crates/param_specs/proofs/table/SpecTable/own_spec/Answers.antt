use Rattle.std.proofs.Common.{◌∙◌, slice_get, ap, sym}
use Rattle.param_specs.specs.View.{Entry, spec_view, specs_in}
use Rattle.param_specs.proofs.Specs.{slice_get-mapped}
use Rattle.param_specs.proofs.table.SpecTable.own_spec.Goals as goal

pub returns : goal.returns
returns c =
    let entry : Entry = (c.in-Some-get_index.field-0-0.now, c.in-Some-get_index.spec.now) in
    ap (λ specs. slice_get specs c.args.slot) (sym c.in-Some.ensures.own)
    ∙ slice_get-mapped spec_view (specs_in c.in-Some.own.now.entries) c.args.slot c.in-Some-get_index.spec.now
    (slice_get-mapped (λ (e : Entry). e.1) c.in-Some.own.now.entries c.args.slot entry (sym c.in-Some-get_index.ensures.entry))
