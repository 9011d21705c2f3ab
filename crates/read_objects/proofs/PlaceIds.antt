-- Places by ids, one more of them.
use Rattle.std.proofs.Common.{◌≡◌, ℕ, Bool, true, false, if◌then◌else◌, Option, Some, option_map, refl, ap}
use Rattle.ui_machine.specs.declared.ids.Place.{Place}
use Rattle.bytecode.specs.Reading.RegisterKinds.{number_of_place}
use Rattle.definition_format.specs.Denoted.Entries.{at_most}

-- the number of a place that is given to one id
pub number_of_given : (called : Bool) (place : Place) (n : ℕ) (other : Option Place) → place.0 ≡ n
    → number_of_place (if called then Some place else other) ≡ (if called then Some n else number_of_place other)
number_of_given true place n other is = ap Some is
number_of_given false place n other is = refl

-- a number as it is kept, where one is given to an id
pub kept_of_given : (called : Bool) (n : ℕ) (other : Option ℕ)
    → (if called then Some (at_most 512 n) else option_map (at_most 512) other) ≡ option_map (at_most 512) (if called then Some n else other)
kept_of_given true n other = refl
kept_of_given false n other = refl
