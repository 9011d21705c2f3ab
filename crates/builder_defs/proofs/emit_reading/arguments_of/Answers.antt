use Rattle.std.proofs.Common.{◌≡◌, ◌∙◌, [], Some, map, slice_get, sym}
use Rattle.std.proofs.lemmas.Result.{err_from_is_err_and}
use Rattle.serde_json.specs.View.{items_view}
use Rattle.g_values.specs.View.{kind_view}
use Rattle.definition_format.specs.Meaning.{given_view}
use Rattle.definition_format.specs.EventMeaning.{argument, each_of}
use Rattle.builder_defs.proofs.EachOf.{known_at, goes_on, ends, kinds_done, is_done}
use Rattle.builder_defs.proofs.emit_reading.arguments_of.Goals as goal

pub add_argument-requires : goal.add_argument-requires
add_argument-requires c =
    let has : slice_get c.args.params.now c.values.index ≡ Some c.in-Some.kind = sym c.param_at.ensures ∙ c.in-Some.is in
    known_at c.args.definition.now.types c.args.params.now c.values.index c.in-Some.kind c.requires has

pub returns-in_default : goal.returns-in_default
returns-in_default c =
    kinds_done (argument c.args.definition.now) c.args.params.now c.args.args.now c.values.index (map given_view c.values.given.items)
    (each_of (argument c.args.definition.now) [] (map kind_view c.args.params.now) (items_view c.args.args.now))
    (sym c.param_at.ensures ∙ c.in_default.is) c.values.invariant

pub returns-in_err-add_argument : goal.returns-in_err-add_argument
returns-in_err-add_argument c =
    let p = err_from_is_err_and c.from_residual.result c.from_residual.ensures.1 in
    let has : slice_get c.args.params.now c.values.index ≡ Some c.in-Some.kind = sym c.param_at.ensures ∙ c.in-Some.is in
    rw (p.1, p.2) (ends (argument c.args.definition.now) c.args.params.now c.args.args.now c.values.index (map given_view c.values.given.items)
    (each_of (argument c.args.definition.now) [] (map kind_view c.args.params.now) (items_view c.args.args.now))
    c.in_err-add_argument.field-0.0 c.in-Some.kind c.index-args-index.result has c.values-test.true c.index-args-index.is c.in_err-add_argument.ensures c.values.invariant)

pub values-preserved : goal.values-preserved
values-preserved c =
    let has : slice_get c.args.params.now c.values.index ≡ Some c.in-Some.kind = sym c.param_at.ensures ∙ c.in-Some.is in
    goes_on (argument c.args.definition.now) c.args.params.now c.args.args.now c.values.index (map given_view c.values.given.items)
    (each_of (argument c.args.definition.now) [] (map kind_view c.args.params.now) (items_view c.args.args.now))
    c.in-Some.kind c.index-args-index.result (map given_view c.add_argument.new.given.items) has c.values-test.true c.index-args-index.is c.in_ok-add_argument.ensures c.values.invariant

pub returns : goal.returns
returns c =
    is_done (argument c.args.definition.now) c.args.params.now c.args.args.now c.values.index (map given_view c.values.given.items)
    (each_of (argument c.args.definition.now) [] (map kind_view c.args.params.now) (items_view c.args.args.now))
    c.values-test.false c.values.invariant
