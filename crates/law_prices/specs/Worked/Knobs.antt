-- A handler that sets a property from which a binding leads on, a pair, and a program that makes an object.
use Rattle.std.specs.Prelude.{◌≡◌, List, [], ◌∷◌, Some}
use Rattle.law_typing.specs.Examples.AllParts.{definition}
use Rattle.law_typing.specs.Graph.Channels.{property}
use Rattle.law_prices.specs.Asked.{Asked, build, emit, get, release, set}
use Rattle.law_prices.specs.Lists.{counted, emissions, lines, objects, runs, steps}
use Rattle.law_prices.specs.Worked.{bounds}

-- the build, a set of `a.value` and of `a.on`, an emission of `a.turned`, a get of `a.value`, a release of `a`, and a set of `c.value`
abbrev pub asked : List Asked
asked = build ∷ set 0 0 ∷ set 0 1 ∷ emit 0 1 ∷ get 0 0 ∷ release 0 ∷ set 2 0 ∷ []

pub record Holds : Type 0 where
  -- today's bounds
  pub counted : bounds definition counted asked ≡ Some (8 ∷ 13 ∷ 7 ∷ 9 ∷ 4 ∷ 4 ∷ 5 ∷ [])
  pub steps : bounds definition steps asked ≡ Some (36 ∷ 27 ∷ 18 ∷ 20 ∷ 6 ∷ 6 ∷ 10 ∷ [])
  pub lines : bounds definition (lines definition) asked ≡ Some (16 ∷ 16 ∷ 13 ∷ 16 ∷ 10 ∷ 10 ∷ 11 ∷ [])
  pub objects : bounds definition objects asked ≡ Some (3 ∷ 0 ∷ 0 ∷ 1 ∷ 0 ∷ 0 ∷ 0 ∷ [])
  -- emissions of `notify` for `c.value`
  pub emissions : bounds definition (emissions (property 2 0)) asked ≡ Some (0 ∷ 1 ∷ 0 ∷ 0 ∷ 0 ∷ 0 ∷ 1 ∷ [])
  -- runs of the program `copy`
  pub runs : bounds definition (runs 0) asked ≡ Some (0 ∷ 1 ∷ 0 ∷ 0 ∷ 0 ∷ 0 ∷ 0 ∷ [])
