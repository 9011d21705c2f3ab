use Rattle.std.proofs.Common.{◌≡◌, ◌∙◌, Some, sym, ap, map, option_map, is_some, string_bytes}
use Rattle.std.proofs.lemmas.Map.Text.{btree_map_updates_text}
use Rattle.json_trees.specs.View.{view}
use Rattle.definition_format.specs.Document.{path_of}
use Rattle.definition_format.specs.Denoted.Overrides.{own_named}
use Rattle.read_types.specs.OverrideView.{own_view}
use Rattle.read_types.proofs.OwnAhead.{own_pushed, own_more}
use Rattle.read_types.proofs.overrides.OwnEntriesReadsOwnAhead.read.Goals as goal

pub returns-clause-read : goal.returns-clause-read
returns-clause-read c =
    let r = c.args.self.now in
    let old = c.args.own.now in
    let new = c.insert.new.self in
    let name = string_bytes c.in-Some.name in
    let same : c.as_str.result.now ≡ name = cc in
    own_pushed (path_of c.args.part.path) r.types.now r.names.now r.specs.now r.parent (own_named (map own_view old.entries)) (own_named (map own_view new.entries)) (view c.args.part.value.now) name c.in_ok-spec.spec
    (sym (ap (option_map string_bytes) c.in-Some.is) ∙ c.in_ok-name.ensures)
    (ap (λ n. is_some (own_named (map own_view old.entries) n)) (sym same) ∙ sym c.has_own.ensures ∙ c.if-has_own.false)
    c.in_ok-spec.ensures
    (own_more old new name c.in_ok-spec.spec (λ q. btree_map_updates_text name old new (Some c.in_ok-spec.spec) c.in_ok-insert.ensures.updates q))
