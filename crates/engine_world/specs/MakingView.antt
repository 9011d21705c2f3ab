-- What the construction of an object does.
use Rattle.std.specs.Prelude.{ℕ, cond, List, [], ◌∷◌, ◌++◌, map}
use Rattle.ui_machine.specs.Seq.{read}
use Rattle.ui_machine.specs.Definition.{Definition}
use Rattle.ui_machine.specs.Definition.Lookups.{specs_of}
use Rattle.ui_machine.specs.Definition.Places.{GivenProperty}
use Rattle.ui_machine.specs.Definition.Properties.{Spec}
use Rattle.ui_machine.specs.State.Tasks as config
use Rattle.ui_machine.specs.State.Config.{World}
use Rattle.ui_machine.specs.Rules.Construction.{is_forward, not_forward, is_at_construction, given_value, given_at, or_default, set_of, no_spec, construct_sets, constructed_runs, given_sets}
use Rattle.definition_format.specs.declared.objects.GivenValue.{GivenValue}
use Rattle.definition_format.specs.Meaning.{given_property}

-- the set of a construct property from this slot, to the given value or its default
abbrev pub construct_set : World → List GivenProperty → ℕ → Spec → List config.ConstructStep
construct_set w given slot s = cond (is_at_construction s) (config.sets slot (or_default (given_at w given slot) s.default) ∷ []) []

-- the set of a given value, where its property is not set with the construct properties
abbrev pub later_set : World → List Spec → GivenProperty → List config.ConstructStep
later_set w specs g = cond (is_at_construction (read no_spec specs g.slot)) [] (set_of (given_value w g.given) g.slot)

-- the same, where a forward reference is left out
abbrev pub early_set : World → List Spec → ℕ → GivenProperty → List config.ConstructStep
early_set w specs place g = cond (is_forward place g.given) [] (later_set w specs g)

-- what the object at a place is given without forward references
abbrev pub early : ℕ → List GivenValue → List GivenProperty
early place given = not_forward place (map given_property given)

-- what comes behind the sets of the construct properties: the other given values, and the thaw
abbrev pub later_steps : World → List Spec → List GivenProperty → List config.ConstructStep
later_steps w specs given = given_sets w specs given ++ config.thaws ∷ []

-- what the construction of an object of a class does
abbrev pub making_of_object : Definition → World → ℕ → List GivenProperty → List config.ConstructStep
making_of_object d w class given = construct_sets w given 0 (specs_of d class) ++ (constructed_runs d class ++ later_steps w (specs_of d class) given)
