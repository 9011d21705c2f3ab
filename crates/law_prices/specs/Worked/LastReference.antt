-- Programs that make objects with a peer, connect handlers to them, and call the peer.
use Rattle.std.specs.Prelude.{◌≡◌, List, [], ◌∷◌, Some}
use Rattle.law_typing.specs.Examples.LastReference.{definition}
use Rattle.law_typing.specs.Graph.Channels.{signal}
use Rattle.law_prices.specs.Asked.{Asked, build, emit, set}
use Rattle.law_prices.specs.Lists.{calls, counted, emissions, lines, objects, runs, steps}
use Rattle.law_prices.specs.Worked.{bounds}

-- the build, a set of `h.cur`, an emission of `h.go` and of `h.fire`
abbrev pub asked : List Asked
asked = build ∷ set 0 0 ∷ emit 0 1 ∷ emit 0 2 ∷ []

pub record Holds : Type 0 where
  pub counted : bounds definition counted asked ≡ Some (64 ∷ 65 ∷ 75 ∷ 78 ∷ [])
  pub steps : bounds definition steps asked ≡ Some (72 ∷ 70 ∷ 88 ∷ 91 ∷ [])
  pub lines : bounds definition (lines definition) asked ≡ Some (194 ∷ 195 ∷ 205 ∷ 202 ∷ [])
  pub objects : bounds definition objects asked ≡ Some (1 ∷ 0 ∷ 1 ∷ 0 ∷ [])
  -- calls of `Tally.add`, and of `Tally.read`, which never happen
  pub add : bounds definition (calls 0 0) asked ≡ Some (0 ∷ 0 ∷ 0 ∷ 2 ∷ [])
  pub read : bounds definition (calls 0 1) asked ≡ Some (0 ∷ 0 ∷ 0 ∷ 0 ∷ [])
  -- runs of the program `drop`, and emissions of `it.s`
  pub runs : bounds definition (runs 1) asked ≡ Some (0 ∷ 0 ∷ 0 ∷ 2 ∷ [])
  pub emissions : bounds definition (emissions (signal 1 1)) asked ≡ Some (0 ∷ 0 ∷ 0 ∷ 1 ∷ [])
