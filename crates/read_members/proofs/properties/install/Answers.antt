use Rattle.std.proofs.Common.{◌≡◌, ◌∙◌, sym, ap, Err, rules}
use Rattle.param_specs.specs.declared.error.SpecError.TheVariants.{Refused}
use Rattle.param_specs.specs.View.{spec_view}
use Rattle.definition_format.specs.Refusals.{not_installed}
use Rattle.definition_format.specs.Document.{path_of}
use Rattle.definition_format.proofs.Installing.{installs_ok, installs_err}
use Rattle.read_members.proofs.properties.install.Goals as goal

pub returns-in-Ok : goal.returns-in-Ok
returns-in-Ok c =
    installs_ok (path_of c.args.part.path) c.args.types.now c.args.specs.now c.install.new.self c.args.class (spec_view c.args.spec) c.in-Ok.field-0 c.in-Ok.ensures

pub returns-in_ok-path_text-in-Err-Refused : goal.returns-in_ok-path_text-in-Err-Refused
returns-in_ok-path_text-in-Err-Refused c =
    let refused : c.in-Err-Refused.field-0 ≡ Refused c.in-Err-Refused.cause = search rules in
    installs_err (path_of c.args.part.path) c.args.types.now c.args.specs.now c.install.new.self c.args.class (spec_view c.args.spec) c.in-Err-Refused.field-0 c.in-Err-Refused.cause refused c.in-Err-Refused.ensures
    ∙ ap (λ path. Err (not_installed path c.in-Err-Refused.cause)) (sym c.in_ok-path_text-in-Err-Refused.ensures)
