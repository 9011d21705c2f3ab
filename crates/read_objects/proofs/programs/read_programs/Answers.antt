use Rattle.std.proofs.Common.{[], map}
use Rattle.std.proofs.lemmas.Result.{err_from_is_err_and}
use Rattle.json_trees.specs.View.{items_view}
use Rattle.handler_code.specs.Reading.ReaderViews.{names_view}
use Rattle.definition_format.specs.Meaning.{plain_program}
use Rattle.definition_format.specs.Document.{each, at_entry}
use Rattle.definition_format.specs.Denoted.Programs.{program_at}
use Rattle.read_parts.proofs.Each.{goes_on, ends, is_done}
use Rattle.read_objects.proofs.programs.read_programs.Goals as goal

pub returns-in_err-read_entry-clause-read : goal.returns-in_err-read_entry-clause-read
returns-in_err-read_entry-clause-read c =
    let p = err_from_is_err_and c.from_residual.result c.from_residual.ensures.1 in
    let step = at_entry (λ path. program_at path (names_view c.args.names.now)) c.args.list.path.now in
    rw (p.1, p.2) (ends step c.args.list.items.now c.items.index (map plain_program c.items.programs.entries) (each step 0 [] (items_view c.args.list.items.now))
    c.in_err-read_entry.field-0.0 c.value-item.result c.items-test.true c.value-item.is c.in_err-read_entry.ensures.read c.items.invariant.read)

pub items-preserved : goal.items-preserved
items-preserved c =
    let step = at_entry (λ path. program_at path (names_view c.args.names.now)) c.args.list.path.now in
    record {
      read = goes_on step c.args.list.items.now c.items.index (map plain_program c.items.programs.entries) (each step 0 [] (items_view c.args.list.items.now))
          c.value-item.result (map plain_program c.read_entry.new.programs.entries) c.items-test.true c.value-item.is c.in_ok-read_entry.ensures.read c.items.invariant.read;
      named = c.in_ok-read_entry.ensures.named;
      sound = c.in_ok-read_entry.ensures.sound;
      few = c.in_ok-read_entry.ensures.few;
    }

pub returns-clause-read : goal.returns-clause-read
returns-clause-read c =
    let step = at_entry (λ path. program_at path (names_view c.args.names.now)) c.args.list.path.now in
    is_done step c.args.list.items.now c.items.index (map plain_program c.items.programs.entries) (each step 0 [] (items_view c.args.list.items.now)) c.items-test.false c.items.invariant.read
