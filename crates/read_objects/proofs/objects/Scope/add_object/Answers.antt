use Rattle.std.proofs.Common.{◌≡◌, ◌∙◌, ◌∷◌, ◌++◌, []}
use Rattle.std.proofs.lemmas.Result.{err_from_is_err_and}
use Rattle.json_trees.specs.View.{view}
use Rattle.definition_format.specs.Meaning.{Entry, place_number}
use Rattle.read_objects.specs.ScopeView.{scope_of}
use Rattle.definition_format.specs.Document.{path_of}
use Rattle.definitions.proofs.Ids.{goes_last}
use Rattle.read_objects.proofs.Pushed.{added_fails, added_pushed}
use Rattle.read_objects.proofs.objects.Scope.add_object.Goals as goal

pub returns-in_err-object-clause-objects : goal.returns-in_err-object-clause-objects
returns-in_err-object-clause-objects c =
    let p = err_from_is_err_and c.from_residual.result c.from_residual.ensures.1 in
    rw (p.1, p.2) (added_fails (path_of c.args.part.path) (scope_of c.args.self.now) (place_number c.args.parent) c.args.built.now.objects.entries c.args.built.now.bindings
    (view c.args.part.value.now) c.in_err-object.field-0.0 c.in_err-object.ensures.object)

pub returns-clause-objects : goal.returns-clause-objects
returns-clause-objects c =
    let old = c.args.built.now.objects.entries in
    let entry : Entry = (c.in_ok-object.object.id, c.in_ok-object.object.body) in
    let longer : c.insert.new.self.entries ≡ old ++ entry ∷ [] =
    c.in_ok-insert.ensures.entries ∙ goes_last c.in_ok-object.object.id c.in_ok-object.object.body old c.in_ok-object.ensures.new in
    added_pushed (path_of c.args.part.path) (scope_of c.args.self.now) (place_number c.args.parent) old c.args.built.now.bindings
    (view c.args.part.value.now) entry c.read_object.new.bindings c.insert.new.self.entries c.in_ok-object.ensures.object longer
