use Rattle.std.proofs.Common.{◌∙◌, true, sym, ap, option_map, string_bytes}
use Rattle.std.specs.BTreeSet.{contains_text}
use Rattle.std.proofs.lemmas.Map.Text.{btree_set_updates_text}
use Rattle.json_trees.specs.View.{view}
use Rattle.definition_format.specs.Document.{path_of}
use Rattle.read_types.proofs.NamesAhead.{name_pushed}
use Rattle.read_types.proofs.own_signals.OwnSignalEntriesReadsOwnSignals.read.Goals as goal

pub returns-clause-read : goal.returns-clause-read
returns-clause-read c =
    let name = string_bytes c.in-Some.name in
    name_pushed (path_of c.args.part.path) (view c.args.part.value.now) (λ q. contains_text c.args.own.now q) (λ q. contains_text c.insert.new.self q) name
    (sym (ap (option_map string_bytes) c.in-Some.is) ∙ c.in_ok-name.ensures)
    (λ q. btree_set_updates_text name c.args.own.now c.insert.new.self true c.in_ok-insert.ensures.updates q)
