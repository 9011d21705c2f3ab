use Rattle.std.proofs.Common.{◌≡◌, ◌||◌, Bool, true, false, cond, Some, option_map, string_bytes, refl, ap, sym, ◌∙◌}
use Rattle.std.specs.BTreeSet.{contains_text}
use Rattle.std.specs.Str.{bytes_eq}
use Rattle.std.proofs.lemmas.Map.Text.{btree_set_updates_text}
use Rattle.definition_format.specs.Denoted.Entries.{is_called}
use Rattle.read_objects.proofs.bind_lists.add_name.Goals as goal

either : (a b : Bool) → cond a true b ≡ (a || b)
either true b = refl
either false b = refl

pub returns-in_ok-insert-clause-added : goal.returns-in_ok-insert-clause-added
returns-in_ok-insert-clause-added c name =
    let key = string_bytes c.in_ok-name.name in
    let text = string_bytes c.in-Some.name in
    let had = contains_text c.args.names.now name in
    let same : key ≡ text = c.in_ok-name.ensures.cases in
    let called : option_map (λ t. string_bytes t) c.args.bind.now.name ≡ Some text = ap (option_map (λ t. string_bytes t)) c.in-Some.is in
    btree_set_updates_text key c.args.names.now c.insert.new.self true c.in_ok-insert.ensures.updates name
    ∙ either (bytes_eq key name) had
    ∙ ap (λ k. bytes_eq k name || had) same
    ∙ sym (ap (λ own. is_called own name || had) called)
