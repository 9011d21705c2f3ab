-- Parts of what the making of an object raises.
use Rattle.std.specs.List.{filter}
use Rattle.std.specs.Prelude.{map, ℕ, Bool, cond, ◌||◌, List, [], ◌∷◌, Option, None, Some}
use Rattle.ui_machine.specs.Definition.Properties.{Spec, is_readable}
use Rattle.ui_machine.specs.Rules.Construction.{is_at_construction, is_forward}
use Rattle.ui_machine.specs.Definition.{Definition}
use Rattle.ui_machine.specs.Definition.Places.{GivenProperty, Place}
use Rattle.definition_format.specs.Meaning.{given_property}
use Rattle.definition_format.specs.declared.objects.GivenValue.{GivenValue}
use Rattle.law_typing.specs.Graph.{forwards_of, is_given}
use Rattle.law_typing.specs.Graph.Channels.{Channel, present, property}

-- whether what is given is given to a property with the construction
abbrev pub gives : (place slot : ℕ) → GivenValue → Bool
gives place slot g = is_given place slot (given_property g)

-- a property, where it is set with the construction, and readable; it may be given a value
abbrev pub built_one : (place slot : ℕ) → Bool → Option Spec → List Channel
built_one place slot given None = []
built_one place slot given (Some s) = cond (is_at_construction s || given) (cond (is_readable s) (property place slot ∷ []) []) []

-- what the forward ones of some given values raise
abbrev pub forwards_in : Definition → ℕ → List GivenProperty → List Channel
forwards_in d place given =
    present d (map (λ (g : GivenProperty). property place g.slot) (filter (λ (g : GivenProperty). is_forward place g.given) given))

-- those of a place; nothing is built of a prototype
abbrev pub forwards_at : Definition → ℕ → Place → List Channel
forwards_at d place p = cond p.is_prototype [] (forwards_of d place p)
