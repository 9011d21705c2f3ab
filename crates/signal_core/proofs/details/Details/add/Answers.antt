use Rattle.std.proofs.Common.{◌≡◌, ◌∙◌, ◌+◌, ℕ, List, Option, None, Some, Bool, true, false, cond, option_map, string_bytes, refl, sym, ap}
use Rattle.std.proofs.lemmas.Map.Text.{btree_map_updates_text}
use Rattle.std.proofs.lemmas.Slice.Eq.{bytes_eq-Decides}
use Rattle.std.specs.BTreeMap.{get_by_text}
use Rattle.std.specs.Str.{bytes_eq}
use Rattle.signal_core.specs.Kept.{detail_number}
use Rattle.signal_core.proofs.details.Details.add.Goals as goal

-- one more is written where there was none
more : (old new : List ℕ → Option ℕ) (bs cs : List ℕ) (w n : ℕ) → new cs ≡ cond (bytes_eq bs cs) (Some w) (old cs) → (bytes_eq bs cs ≡ true → bs ≡ cs) → old bs ≡ None
    → old cs ≡ Some n → new cs ≡ Some n
more old new bs cs w n e same none some = by (bytes_eq bs cs) e same
  where
    by : (b : Bool) → new cs ≡ cond b (Some w) (old cs) → (b ≡ true → bs ≡ cs) → new cs ≡ Some n
    by true e same = let is = same refl in let no : Some n ≡ None = sym some ∙ ap old (sym is) ∙ none in absurd (cc)
    by false e same = e ∙ some

same_bytes : (bs cs : List ℕ) → bytes_eq bs cs ≡ true → bs ≡ cs
same_bytes bs cs h = (bytes_eq-Decides bs cs).0 h

pub returns-clause-stays : goal.returns-clause-stays
returns-clause-stays c None n some = some
returns-clause-stays c (Some cs) n some =
    let bs = string_bytes c.in_ok-detail.detail in
    let none : get_by_text c.args.self.now.numbers bs ≡ None =
    ap (get_by_text c.args.self.now.numbers) c.in_ok-detail.ensures.cases
    ∙ ap (λ d. detail_number c.args.self.now (option_map (λ d. string_bytes d) d)) (sym c.in-Some-detail.is) ∙ ap (detail_number c.args.self.now) (sym c.as_text.ensures) ∙ sym c.number.ensures ∙ c.in_default.is in
    more (get_by_text c.args.self.now.numbers) (get_by_text c.insert.new.self) bs cs (c.len.result + 1) n
    (btree_map_updates_text bs c.args.self.now.numbers c.insert.new.self (Some (c.len.result + 1)) c.in_ok-insert.ensures.updates cs) (same_bytes bs cs) none some
