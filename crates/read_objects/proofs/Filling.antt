-- What the entries of an object's properties give, part by part.
use Rattle.std.proofs.Common.{◌≡◌, ℕ, List, codes, Result, Ok, sym, ap, ◌∙◌}
use Rattle.serde_json.specs.Data.{Data, Items}
use Rattle.ui_machine.specs.Definition.Places.{Bind}
use Rattle.ui_machine.specs.Outcome.{◌>>=◌}
use Rattle.definition_format.specs.declared.faults.ReadError.{ReadError}
use Rattle.definition_format.specs.Refusals.{Refusal, Fails}
use Rattle.definition_format.specs.Document.{under, entries_at, each, at_entry}
use Rattle.definition_format.specs.Denoted.Binds.{Target}
use Rattle.definition_format.specs.Denoted.Filled.{Filled, all_filled, filled_at, unfilled}
use Rattle.read_parts.proofs.Chains.{fails_as}

module _ (path base : List ℕ) (target : Target) (bindings : List Bind) (d : Data) (list : Items) (start : Filled)
    (entries : entries_at path d (codes "properties") ≡ Ok list) (based : base ≡ under path (codes "properties")) (first : start ≡ unfilled bindings) where
  abbrev read : List ℕ → Filled → Result Filled Refusal
  read at filled = each (at_entry (λ entry. filled_at entry target) at) 0 filled list

  opened : all_filled path target bindings d ≡ read base start
  unfolding all_filled
  opened =
      ap (λ (r : Result Items Refusal). r >>= λ list. each (at_entry (λ entry. filled_at entry target) (under path (codes "properties"))) 0 (unfilled bindings) list)
      entries
      ∙ ap (λ at. read at (unfilled bindings)) (sym based)
      ∙ ap (read base) (sym first)

  pub all_fail : (e : ReadError) → Fails e (read base start) → Fails e (all_filled path target bindings d)
  all_fail e h = fails_as e _ _ opened h
