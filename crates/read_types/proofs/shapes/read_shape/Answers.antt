use Rattle.std.proofs.Common.{◌≡◌, ◌∙◌, ◌∷◌, ◌++◌, [], List, Ok, ap, sym, map, string_bytes}
use Rattle.std.proofs.lemmas.Result.{err_from_is_err_and}
use Rattle.json_trees.specs.View.{view}
use Rattle.definition_format.specs.Meaning.{NamedShape, plain_shape}
use Rattle.definition_format.specs.Document.{path_of}
use Rattle.definition_format.specs.Denoted.Shapes.{shape_number}
use Rattle.read_types.proofs.AddedShapes.{not_found, shape_fails, shape_pushed}
use Rattle.definitions.proofs.Ids.{shape_last}
use Rattle.read_types.proofs.shapes.read_shape.Goals as goal

pub returns-in_err-new : goal.returns-in_err-new
returns-in_err-new c =
    let p = err_from_is_err_and c.from_residual.result c.from_residual.ensures.1 in
    rw (p.1, p.2) (shape_fails (path_of c.args.part.path) c.args.shapes.now.entries (view c.args.part.value.now) c.in_err-new.field-0.0 c.in_err-new.ensures.read)

pub returns : goal.returns
returns c =
    let old = c.args.shapes.now.entries in
    let entry : NamedShape = (c.in_ok-new.new.name, c.in_ok-new.new.methods) in
    let fresh = not_found (shape_number (map plain_shape old) (string_bytes c.in_ok-new.new.name)) c.in_ok-new.ensures.new in
    let longer : c.insert.new.self.entries ≡ old ++ entry ∷ [] =
    c.in_ok-insert.ensures.entries ∙ shape_last c.in_ok-new.new.name c.in_ok-new.new.methods old fresh in
    shape_pushed (path_of c.args.part.path) old (view c.args.part.value.now) entry c.in_ok-new.ensures.read
    ∙ ap (λ (es : List NamedShape). Ok (map plain_shape es)) (sym longer)
