use Rattle.std.proofs.Common.{◌≡◌, ◌∙◌, Some, ap, is_some, nat_eq, string_bytes, sym, if◌then◌else◌, bytes_eq}
use Rattle.std.proofs.lemmas.Map.Text.{btree_map_updates_text}
use Rattle.std.specs.BTreeMap.{get_by_text}
use Rattle.std.specs.List.{list_any}
use Rattle.std.specs.Option.{option_copied_mut}
use Rattle.signal_core.specs.Owners.{items_of}
use Rattle.signal_core.proofs.Owned.{listed_before, none_before, still_listed}
use Rattle.signal_core.proofs.owners.Owners.add.Goals as goal

pub returns-in_err-push-clause-stays : goal.returns-in_err-push-clause-stays
returns-in_err-push-clause-stays c name t there =
    let before = c.args.self.now.types in
    let w = c.push.new.self in
    let here = sym c.get_mut.ensures.value ∙ ap option_copied_mut c.in-Some.is in
    still_listed (get_by_text before) (get_by_text (c.get_mut.follows.lender w)) c.args.name.now name w t
    (btree_map_updates_text c.args.name.now before (c.get_mut.follows.lender w) (Some w) ((c.get_mut.follows.holds w).3 (ap is_some here)) name)
    (λ u is. ap (list_any (nat_eq u)) c.in_err-push.ensures.items ∙ sym (ap (λ o. list_any (nat_eq u) (items_of o)) here) ∙ is)
    there

pub returns-in-Some-clause-stays : goal.returns-in-Some-clause-stays
returns-in-Some-clause-stays c name t there =
    let before = c.args.self.now.types in
    let w = c.push.new.self in
    let here = sym c.get_mut.ensures.value ∙ ap option_copied_mut c.in-Some.is in
    still_listed (get_by_text before) (get_by_text (c.get_mut.follows.lender w)) c.args.name.now name w t
    (btree_map_updates_text c.args.name.now before (c.get_mut.follows.lender w) (Some w) ((c.get_mut.follows.holds w).3 (ap is_some here)) name)
    (λ u is. listed_before u c.args.t c.in-Some.types.now.items w.items c.in_ok-push.ensures.items (sym (ap (λ o. list_any (nat_eq u) (items_of o)) here) ∙ is))
    there

pub returns-clause-stays : goal.returns-clause-stays
returns-clause-stays c name t there =
    let before = c.args.self.now.types in
    let w = c.push-2.new.self in
    let same : c.get_mut.follows.lender-at-none ≡ before = c.get_mut.follows.holds-at-none in
    let none = sym c.get_mut.ensures.value ∙ ap option_copied_mut c.in_default.is in
    still_listed (get_by_text before) (get_by_text c.insert.new.self) c.args.name.now name w t
    (btree_map_updates_text (string_bytes c.in_ok-name.name) c.get_mut.follows.lender-at-none c.insert.new.self (Some w) c.in_ok-insert.ensures.updates name
    ∙ ap (λ m. if bytes_eq (string_bytes c.in_ok-name.name) name then Some w else get_by_text m name) same
    ∙ ap (λ bs. if bytes_eq bs name then Some w else get_by_text before name) c.in_ok-name.ensures.ok)
    (λ u is. none_before (get_by_text before c.args.name.now) u none is)
    there
