use Rattle.std.proofs.Common.{◌≡◌, ◌≤◌, [], drop, length, map}
use Rattle.std.specs.List.{AllByRecursion}
use Rattle.json_trees.specs.View.{items_view}
use Rattle.handler_code.specs.Reading.ReaderViews.{names_view}
use Rattle.definition_format.specs.Meaning.{HasOwnName, IsSoundProgram, plain_program}
use Rattle.definition_format.specs.Document.{each, at_entry}
use Rattle.definition_format.specs.Denoted.Programs.{program_at}
use Rattle.read_objects.proofs.programs.read_programs.Given as goal

abbrev pub invariant-items : goal.invariant-items
invariant-items l = record {
  read : each (at_entry (λ path. program_at path (names_view l.names)) l.list.path.now) l.index (map plain_program l.programs.entries) (items_view (drop l.index l.list.items.now))
      ≡ each (at_entry (λ path. program_at path (names_view l.names)) l.list.path.now) 0 [] (items_view l.list.items.now);
  named : AllByRecursion HasOwnName l.programs.entries;
  sound : AllByRecursion (IsSoundProgram l.names.types.now) l.programs.entries;
  few : length l.programs.entries ≤ 256;
}
