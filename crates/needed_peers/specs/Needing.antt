-- What the places of one kind need, and the methods of a need.
use Rattle.std.specs.Prelude.{ℕ, Bool, cond, List, [], ◌∷◌, Option, None, Some, slice_get}
use Rattle.std.specs.List.{filter, flat_map}
use Rattle.ui_machine.specs.Definition.{Definition}
use Rattle.ui_machine.specs.Definition.Names.{same_name}
use Rattle.ui_machine.specs.Definition.Places.{Place}
use Rattle.ui_machine.specs.Definition.Signals.{Method}
use Rattle.ui_machine.specs.Rules.Transform.{same_bool}
use Rattle.law_peers.specs.Needs.{Need, needs_at}

-- what those of some places need that are prototypes, or that are objects
abbrev pub needs_of_kind : Definition → Bool → List Place → List Need
needs_of_kind d is_prototype places = flat_map (needs_at d) (filter (λ (p : Place). same_bool p.is_prototype is_prototype) places)

-- the methods of the first need of a name
abbrev pub shape_needed : List Need → List ℕ → Option (List Method)
shape_needed [] name = None
shape_needed (n ∷ needs) name = cond (same_name n.name name) n.methods (shape_needed needs name)

-- the methods of the need of a number, if it is of a name, and else of the first need of that name
abbrev pub shape_likely : List Need → ℕ → List ℕ → Option (List Method)
shape_likely needs likely name = of (slice_get needs likely)
  where
    of : Option Need → Option (List Method)
    of None = shape_needed needs name
    of (Some n) = cond (same_name n.name name) n.methods (shape_needed needs name)
