use Rattle.std.proofs.Common.{◌∙◌}
use Rattle.std.proofs.lemmas.Result.{err_from_is_err_and}
use Rattle.json_trees.specs.View.{view}
use Rattle.param_specs.specs.View.{spec_view}
use Rattle.definition_format.specs.Document.{path_of}
use Rattle.read_parts.proofs.Chains.{fails_as, spec_fails, property_with}
use Rattle.read_members.proofs.properties.read_property.Goals as goal

pub returns-in_err-spec : goal.returns-in_err-spec
returns-in_err-spec c =
    let p = err_from_is_err_and c.from_residual.result c.from_residual.ensures.1 in
    rw (p.1, p.2) (spec_fails (path_of c.args.part.path) c.args.types.now c.args.names.now c.args.class c.args.specs.now (view c.args.part.value.now) c.in_err-spec.field-0.0 c.in_err-spec.ensures.spec)

pub returns-in_err-install : goal.returns-in_err-install
returns-in_err-install c =
    let p = err_from_is_err_and c.from_residual-in_err-install.result c.from_residual-in_err-install.ensures.1 in
    rw (p.1, p.2) (fails_as c.in_err-install.field-0.0 _ _
    (property_with (path_of c.args.part.path) c.args.types.now c.args.names.now c.args.class c.args.specs.now (view c.args.part.value.now) (spec_view c.in_ok-spec.spec) c.in_ok-spec.ensures.spec) c.in_err-install.ensures)

pub returns : goal.returns
returns c =
    property_with (path_of c.args.part.path) c.args.types.now c.args.names.now c.args.class c.args.specs.now (view c.args.part.value.now) (spec_view c.in_ok-spec.spec) c.in_ok-spec.ensures.spec ∙ c.in_ok-install.ensures
