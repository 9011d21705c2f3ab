use Rattle.std.proofs.Common.{codes}
use Rattle.json_trees.specs.View.{view}
use Rattle.definition_format.specs.Document.{path_of}
use Rattle.read_parts.proofs.Sections.{some_there}
use Rattle.read_types.proofs.enums.some_entries.Goals as goal

pub returns-in-Some : goal.returns-in-Some
returns-in-Some c = some_there (path_of c.args.part.path) (codes "members") (view c.args.part.value.now) c.in-Some.items.now c.in-Some.ensures c.in-Some.len_at_least
