use Rattle.std.proofs.Common.{◌≡◌, ◌∙◌, Ok, codes, ap}
use Rattle.json_trees.specs.View.{view}
use Rattle.bytecode.specs.Reading.Outline.{outline_in}
use Rattle.bytecode.specs.Reading.OutlineFaults.{fault_view}
use Rattle.handler_code.specs.Reading.ReaderViews.{names_view}
use Rattle.bytecode.specs.Reading.Views.{seen}
use Rattle.bytecode.specs.View.{program_view}
use Rattle.definition_format.specs.Refusals.{shape}
use Rattle.definition_format.specs.Document.{path_of, under}
use Rattle.definition_format.specs.Denoted.Programs.{read_ahead}
use Rattle.read_objects.proofs.Outlines.{named_ahead}
use Rattle.read_objects.proofs.programs.program_in.Goals as goal

pub returns-clause-named : goal.returns-clause-named
returns-clause-named c =
    let path = path_of c.args.part.path in
    let names = names_view c.args.names.now in
    let d = view c.args.part.value.now in
    let ahead : read_ahead path names (outline_in names d) ≡ Ok (Ok (program_view c.in_ok-program.program)) =
    c.in_ok-ahead.ensures.read ∙ ap (λ r. Ok (seen program_view fault_view r)) c.in_ok-program.ensures.same in
    c.in_ok-name-2.ensures.ok ∙ named_ahead path names d (program_view c.in_ok-program.program) (shape (under path (codes "name"))) c.in_ok-name.name.now ahead c.in_ok-name.ensures
