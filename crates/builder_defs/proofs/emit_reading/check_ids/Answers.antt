use Rattle.std.proofs.Common.{◌≡◌, ◌∙◌, Some, map, slice_get, refl, sym}
use Rattle.std.proofs.lemmas.Result.{err_from_is_err_and}
use Rattle.serde_json.specs.View.{items_view}
use Rattle.g_values.specs.View.{kind_view}
use Rattle.definition_format.specs.EventMeaning.{id_known, each_of}
use Rattle.builder_defs.proofs.EachOf.{goes_on, ends, kinds_done, is_done}
use Rattle.builder_defs.proofs.emit_reading.check_ids.Goals as goal

pub values-init : goal.values-init
values-init c = refl

pub returns-in_default : goal.returns-in_default
returns-in_default c =
    kinds_done (id_known c.args.definition.now) c.args.params.now c.args.args.now c.values.index tt
    (each_of (id_known c.args.definition.now) tt (map kind_view c.args.params.now) (items_view c.args.args.now))
    (sym c.param_at.ensures ∙ c.in_default.is) c.values.invariant

pub returns-in_err-check_id : goal.returns-in_err-check_id
returns-in_err-check_id c =
    let p = err_from_is_err_and c.from_residual.result c.from_residual.ensures.1 in
    let has : slice_get c.args.params.now c.values.index ≡ Some c.in-Some.kind = sym c.param_at.ensures ∙ c.in-Some.is in
    rw (p.1, p.2) (ends (id_known c.args.definition.now) c.args.params.now c.args.args.now c.values.index tt
    (each_of (id_known c.args.definition.now) tt (map kind_view c.args.params.now) (items_view c.args.args.now))
    c.in_err-check_id.field-0.0 c.in-Some.kind c.index-args-index.result has c.values-test.true c.index-args-index.is c.in_err-check_id.ensures c.values.invariant)

pub values-preserved : goal.values-preserved
values-preserved c =
    let has : slice_get c.args.params.now c.values.index ≡ Some c.in-Some.kind = sym c.param_at.ensures ∙ c.in-Some.is in
    goes_on (id_known c.args.definition.now) c.args.params.now c.args.args.now c.values.index tt
    (each_of (id_known c.args.definition.now) tt (map kind_view c.args.params.now) (items_view c.args.args.now))
    c.in-Some.kind c.index-args-index.result tt has c.values-test.true c.index-args-index.is c.in_ok-check_id.ensures c.values.invariant

pub returns : goal.returns
returns c =
    is_done (id_known c.args.definition.now) c.args.params.now c.args.args.now c.values.index tt
    (each_of (id_known c.args.definition.now) tt (map kind_view c.args.params.now) (items_view c.args.args.now))
    c.values-test.false c.values.invariant
