-- Two properties that are bound both ways.
use Rattle.std.specs.Prelude.{◌≡◌, List, [], ◌∷◌, Some}
use Rattle.law_typing.specs.Examples.Pair.{definition}
use Rattle.law_typing.specs.Graph.Channels.{property}
use Rattle.law_prices.specs.Asked.{Asked, build, set}
use Rattle.law_prices.specs.Lists.{counted, emissions, lines, objects, steps}
use Rattle.law_prices.specs.Worked.{bounds}

-- the build, and a set of either end
abbrev pub asked : List Asked
asked = build ∷ set 0 0 ∷ set 1 0 ∷ []

pub record Holds : Type 0 where
  pub counted : bounds definition counted asked ≡ Some (68 ∷ 67 ∷ 67 ∷ [])
  pub steps : bounds definition steps asked ≡ Some (89 ∷ 78 ∷ 78 ∷ [])
  pub lines : bounds definition (lines definition) asked ≡ Some (135 ∷ 133 ∷ 133 ∷ [])
  pub objects : bounds definition objects asked ≡ Some (2 ∷ 0 ∷ 0 ∷ [])
  -- each set of an end notifies `b.on` once
  pub emissions : bounds definition (emissions (property 1 0)) asked ≡ Some (1 ∷ 1 ∷ 1 ∷ [])
