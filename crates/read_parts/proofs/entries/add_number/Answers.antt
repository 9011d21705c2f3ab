use Rattle.std.proofs.Common.{◌≡◌, List, ℕ, Some, if◌then◌else◌, option_map, Bor, string_bytes, sym, ap, ◌∙◌}
use Rattle.std.specs.BTreeMap.{get_by_text}
use Rattle.std.specs.Str.{bytes_eq}
use Rattle.std.proofs.lemmas.Map.Text.{btree_map_updates_text}
use Rattle.json_trees.specs.View.{view}
use Rattle.definition_format.specs.Denoted.Entries.{is_called, name_under}
use Rattle.read_parts.proofs.entries.add_number.Goals as goal

pub returns-in_ok-insert : goal.returns-in_ok-insert
returns-in_ok-insert c name =
    let key = string_bytes c.in_ok-from_str.field-0 in
    let bytes : key ≡ c.in-Some.name.now = c.in_ok-from_str.ensures.ok in
    let called : name_under c.args.key.now (view c.args.entry.now) ≡ Some c.in-Some.name.now =
    sym c.name_under.ensures ∙ ap (option_map (λ (s : Bor (List ℕ)). s.now)) c.in-Some.is in
    btree_map_updates_text key c.args.numbers.now c.insert.new.self (Some c.args.number) c.in_ok-insert.ensures.updates name
    ∙ ap (λ k. if bytes_eq k name then Some c.args.number else get_by_text c.args.numbers.now name) bytes
    ∙ sym (ap (λ own. if is_called own name then Some c.args.number else get_by_text c.args.numbers.now name) called)
