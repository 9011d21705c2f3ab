use Rattle.std.proofs.Common.{◌≡◌, ◌∙◌, ◌∷◌, ◌++◌, [], List, Ok, ap, sym, map, length, subst, arith}
use Rattle.std.specs.List.{AllByRecursion}
use Rattle.std.proofs.lemmas.List.{length_push}
use Rattle.std.proofs.lemmas.Result.{err_from_is_err_and}
use Rattle.json_trees.specs.View.{view}
use Rattle.handler_code.specs.Reading.ReaderViews.{names_view}
use Rattle.definition_format.specs.Meaning.{HasOwnName, IsSoundProgram, NamedProgram, plain_program}
use Rattle.definition_format.specs.Document.{path_of}
use Rattle.read_objects.proofs.AddedPrograms.{program_fails, program_pushed}
use Rattle.definition_format.proofs.Elements.{both_all}
use Rattle.definitions.proofs.Ids.{program_last}
use Rattle.read_objects.proofs.programs.read_entry.Goals as goal

pub returns-in_err-new-clause-read : goal.returns-in_err-new-clause-read
returns-in_err-new-clause-read c =
    let p = err_from_is_err_and c.from_residual.result c.from_residual.ensures.1 in
    rw (p.1, p.2) (program_fails (path_of c.args.part.path) (names_view c.args.names.now) c.args.programs.now.entries (view c.args.part.value.now) c.in_err-new.field-0.0 c.in_err-new.ensures.read)

pub returns-clause-read : goal.returns-clause-read
returns-clause-read c =
    let old = c.args.programs.now.entries in
    let entry : NamedProgram = (c.in_ok-new.new.name, c.in_ok-new.new.program) in
    let longer : c.insert.new.self.entries ≡ old ++ entry ∷ [] =
    c.in_ok-insert.ensures.entries ∙ program_last c.in_ok-new.new.name c.in_ok-new.new.program old c.requires.named c.in_ok-new.ensures.new in
    program_pushed (path_of c.args.part.path) (names_view c.args.names.now) old (view c.args.part.value.now) entry c.in_ok-new.ensures.read
    ∙ ap (λ (es : List NamedProgram). Ok (map plain_program es)) (sym longer)

pub returns-clause-named : goal.returns-clause-named
returns-clause-named c =
    let old = c.args.programs.now.entries in
    let entry : NamedProgram = (c.in_ok-new.new.name, c.in_ok-new.new.program) in
    let longer : c.insert.new.self.entries ≡ old ++ entry ∷ [] =
    c.in_ok-insert.ensures.entries ∙ program_last c.in_ok-new.new.name c.in_ok-new.new.program old c.requires.named c.in_ok-new.ensures.new in
    subst (AllByRecursion HasOwnName) (sym longer) (both_all HasOwnName old (entry ∷ []) c.requires.named (c.in_ok-new.ensures.named, tt))

pub returns-clause-sound : goal.returns-clause-sound
returns-clause-sound c =
    let types = c.args.names.now.types.now in
    let old = c.args.programs.now.entries in
    let entry : NamedProgram = (c.in_ok-new.new.name, c.in_ok-new.new.program) in
    let longer : c.insert.new.self.entries ≡ old ++ entry ∷ [] =
    c.in_ok-insert.ensures.entries ∙ program_last c.in_ok-new.new.name c.in_ok-new.new.program old c.requires.named c.in_ok-new.ensures.new in
    subst (AllByRecursion (IsSoundProgram types)) (sym longer) (both_all (IsSoundProgram types) old (entry ∷ []) c.requires.sound (c.in_ok-new.ensures.sound, tt))

pub returns-clause-few : goal.returns-clause-few
returns-clause-few c =
    let old = c.args.programs.now.entries in
    let entry : NamedProgram = (c.in_ok-new.new.name, c.in_ok-new.new.program) in
    let longer : c.insert.new.self.entries ≡ old ++ entry ∷ [] =
    c.in_ok-insert.ensures.entries ∙ program_last c.in_ok-new.new.name c.in_ok-new.new.program old c.requires.named c.in_ok-new.ensures.new in
    omega (arith, ap length longer, length_push old entry, c.in_ok-new.ensures.room)
