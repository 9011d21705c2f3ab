-- A slot that is found lies within the properties.
use Rattle.std.proofs.Common.{◌≡◌, ℕ, suc, ◌+◌, ◌<◌, Bool, true, false, cond, List, [], ◌∷◌, length, Some, sym, arith}
use Rattle.std.proofs.lemmas.Option.{none-some}
use Rattle.ui_machine.specs.Definition.Names.{same_name, canonical, place_from}
use Rattle.ui_machine.specs.Definition.Properties.{Spec}
use Rattle.param_specs.specs.Table.{slot_named}

place_within : (i : ℕ) (xs : List Spec) (name : List ℕ) (slot : ℕ) → place_from (λ s. s.name) i xs name ≡ Some slot → slot < i + length xs
place_within i [] name slot found = absurd (none-some slot found)
place_within i (x ∷ xs) name slot found = by (same_name x.name name) found (place_within (suc i) xs name slot)
  where
    by : (b : Bool) → cond b (Some i) (place_from (λ s. s.name) (suc i) xs name) ≡ Some slot
        → (place_from (λ s. s.name) (suc i) xs name ≡ Some slot → slot < suc i + length xs) → slot < i + suc (length xs)
    by true at rest = let same : i ≡ slot = cc in omega arith
    by false at rest = let within = rest at in omega arith

pub slot_within : (specs : List Spec) (name : List ℕ) (slot : ℕ) → Some slot ≡ slot_named specs name → slot < length specs
slot_within specs name slot found = let within = place_within 0 specs (canonical name) slot (sym found) in omega arith
