use Rattle.std.proofs.Common.{◌≡◌, ◌∙◌, sym, ap, ◌++◌, ◌∷◌, [], List, Option, map, ℕ, arith}
use Rattle.std.specs.Prelude.{option_map, string_bytes}
use Rattle.bytecode.specs.View.{register_kind_view}
use Rattle.verify_channels.specs.Connected.{group_view, meant_at, placed}
use Rattle.verify_channels.specs.Meanings.{Meaning, Meant, meaning_of, of_signal}
use Rattle.verify_channels.specs.SignalLists.{list_of}
use Rattle.verify_channels.specs.declared.connections.PlacedGroup.{PlacedGroup}
use Rattle.verify_channels.specs.declared.signal_lists.SignalLists.{SignalLists}
use Rattle.verify_channels.proofs.Groups.{meant_class, put_there}
use Rattle.verify_channels.proofs.MeantLists.{got, one_more}
use Rattle.verify_channels.proofs.TransferLists.{set_by}
use Rattle.verify_channels.proofs.connections.Connects.place_at.Goals as goal

pub returns-clause-placed : goal.returns-clause-placed
returns-clause-placed c n number =
    let d = c.args.lookups.now in
    let kind = register_kind_view c.args.kind.now in
    let signal = string_bytes c.args.connection.now.signal in
    let detail : Option (List ℕ) = option_map (λ x. string_bytes x) c.args.connection.now.detail in
    let at = c.args.self.now.at.items in
    let place = c.args.place in
    let s = c.index_mut-groups.result.now in
    let seen : SignalLists PlacedGroup → List Meant = λ w. map group_view (list_of w number) in
    let x : PlacedGroup = record { group = c.args.group; meaning = c.meaning_of-meaning.result } in
    let means = c.meaning_of-meaning.ensures ∙ ap (λ s. meaning_of d c.in-Some.class s detail) c.as_str.ensures.value in
    let one : of_signal number (group_view x ∷ []) ≡ of_signal number (meant_at d kind signal detail c.args.group place) =
    ap (λ (m : Meaning). of_signal number (record { what = c.args.group; meaning = m } ∷ [])) means
    ∙ ap (of_signal number) (sym (meant_class d kind signal detail c.args.group place c.in-Some.class (sym c.if-not-is_covered.ensures) c.in-Some.ensures)) in
    let more : seen c.push.new.self ≡ seen s ++ of_signal number (group_view x ∷ []) =
    one_more (λ (y : PlacedGroup). group_view y) (list_of s number) (list_of c.push.new.self number) c.in-Some-signal.signal number x (c.in_ok-push.ensures number) c.in-Some-signal.is in
    set_by seen at place n s c.push.new.self (of_signal number (group_view x ∷ [])) (got at place s (omega arith) c.index_mut-groups.ensures.value) more
    ∙ put_there place n (placed at n number) (of_signal number (group_view x ∷ [])) (λ m. of_signal number (meant_at d kind signal detail c.args.group m)) one
