use Rattle.std.proofs.Common.{◌≡◌, codes, List, ℕ, Some, if◌then◌else◌, option_map, Bor, string_bytes, sym, ap, ◌∙◌}
use Rattle.std.specs.BTreeMap.{get_by_text}
use Rattle.std.specs.Str.{bytes_eq}
use Rattle.std.proofs.lemmas.Map.Text.{btree_map_updates_text}
use Rattle.json_trees.specs.View.{view}
use Rattle.bytecode.specs.Reading.RegisterKinds.{number_of_place}
use Rattle.definition_format.specs.Denoted.Entries.{at_most, is_called, name_under}
use Rattle.read_objects.proofs.PlaceIds.{number_of_given}
use Rattle.read_objects.proofs.places.add_place.Goals as goal

pub returns-in_ok-insert : goal.returns-in_ok-insert
returns-in_ok-insert c id =
    let key = string_bytes c.in_ok-from_str.field-0 in
    let bytes : key ≡ c.in-Some.id.now = c.in_ok-from_str.ensures.ok in
    let old = number_of_place (get_by_text c.args.places.now id) in
    let called : name_under (codes "id") (view c.args.entry.now) ≡ Some c.in-Some.id.now =
    sym c.name_under.ensures ∙ ap (option_map (λ (s : Bor (List ℕ)). s.now)) c.in-Some.is in
    ap number_of_place (btree_map_updates_text key c.args.places.now c.insert.new.self (Some (record { 0 = c.at_most.result })) c.in_ok-insert.ensures.updates id)
    ∙ number_of_given (bytes_eq key id) (record { 0 = c.at_most.result }) (at_most 512 c.args.number) (get_by_text c.args.places.now id) c.at_most.ensures
    ∙ ap (λ k. if bytes_eq k id then Some (at_most 512 c.args.number) else old) bytes
    ∙ sym (ap (λ own. if is_called own id then Some (at_most 512 c.args.number) else old) called)
