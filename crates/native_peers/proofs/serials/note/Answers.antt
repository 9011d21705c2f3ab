use Rattle.std.proofs.Common.{Some, bytes_eq, if◌then◌else◌, string_bytes, ap, ◌∙◌}
use Rattle.std.specs.BTreeMap.{get_by_text}
use Rattle.std.proofs.lemmas.Map.Text.{btree_map_updates_text}
use Rattle.native_peers.proofs.serials.note.Goals as goal

pub returns-clause-noted : goal.returns-clause-noted
returns-clause-noted c = λ serial_of are n.
    let key = string_bytes c.in_ok-name.name in
    let serials = c.args.serials.now in
    btree_map_updates_text key serials c.insert.new.self (Some c.args.serial) c.in_ok-insert.ensures.updates n
    ∙ ap (λ k. if bytes_eq k n then Some c.args.serial else get_by_text serials n) c.in_ok-name.ensures.ok
    ∙ ap (λ o. if bytes_eq c.args.name.now n then Some c.args.serial else o) (are n)
