use Rattle.std.proofs.Common.{◌≡◌, ◌||◌, ℕ, List, Bool, true, false, cond, Some, Bor, option_map, string_bytes, refl, ap, sym, ◌∙◌}
use Rattle.std.specs.BTreeSet.{contains_text}
use Rattle.std.specs.Str.{bytes_eq}
use Rattle.std.proofs.lemmas.Map.Text.{btree_set_updates_text}
use Rattle.ui_machine.proofs.Names.{pointwise_same_name}
use Rattle.law_typing.specs.Rules.Typing.{is_called}
use Rattle.verify_operands.proofs.bind_names.add_name.Goals as goal

either : (a b : Bool) → cond a true b ≡ (b || a)
either true true = refl
either true false = refl
either false true = refl
either false false = refl

pub returns-in_ok-insert : goal.returns-in_ok-insert
returns-in_ok-insert c name =
    let key = string_bytes c.in_ok-from_str.field-0 in
    let text = c.in-Some.text.now in
    let had = contains_text c.args.names.now name in
    let bytes : key ≡ text = c.in_ok-from_str.ensures.ok in
    let called : option_map (λ (s : Bor (List ℕ)). s.now) c.args.own ≡ Some text = ap (option_map (λ (s : Bor (List ℕ)). s.now)) c.in-Some.is in
    btree_set_updates_text key c.args.names.now c.insert.new.self true c.in_ok-insert.ensures.updates name
    ∙ either (bytes_eq key name) had
    ∙ ap (λ k. had || bytes_eq k name) bytes
    ∙ ap (λ b. had || b) (pointwise_same_name text name)
    ∙ sym (ap (λ own. had || is_called name own) called)
