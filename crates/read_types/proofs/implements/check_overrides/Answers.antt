use Rattle.std.proofs.Common.{◌∙◌, sym, ap, None, Some, Err}
use Rattle.definition_format.specs.Causes.{property_cause}
use Rattle.definition_format.specs.Refusals.{bad_spec}
use Rattle.definition_format.specs.Document.{path_of}
use Rattle.read_types.proofs.Implementing.{overrides_are}
use Rattle.read_types.proofs.implements.check_overrides.Goals as goal

pub returns-in-None : goal.returns-in-None
returns-in-None c =
    overrides_are (path_of c.args.part.path) c.args.heir.now c.args.interface
    c.in_ok-found.found None c.in-None.is c.in_ok-found.ensures

pub returns-in_ok-path-in-Some : goal.returns-in_ok-path-in-Some
returns-in_ok-path-in-Some c =
    overrides_are (path_of c.args.part.path) c.args.heir.now c.args.interface
    c.in_ok-found.found (Some c.in-Some.cause) c.in-Some.is c.in_ok-found.ensures
    ∙ ap (λ path. Err (bad_spec path (property_cause c.in-Some.cause))) (sym c.in_ok-path-in-Some.ensures)
