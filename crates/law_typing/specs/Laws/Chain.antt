-- A chain of handlers, each of which sets the next property twice: what setting the first one costs doubles with each link.
use Rattle.std.specs.Prelude.{◌≡◌, ℕ, suc, ◌+◌, ◌*◌, ◌^◌, ◌<◌, List, [], ◌∷◌, Some, slice_get}
use Rattle.law_typing.specs.Graph.Channels.{property}
use Rattle.law_typing.specs.Graph.{Graph, Raised, nothing, raises, Stretch, graph}
use Rattle.law_typing.specs.Graph.Tables.{entry, Tables}
use Rattle.law_typing.specs.Graph.Costs.{SolvesCosts}
use Rattle.law_typing.specs.Graph.Depths.{raised_of}
use Rattle.law_typing.specs.Examples.Chain as chain

-- a property of the one object at which these programs run
abbrev pub at_property : ℕ → List ℕ → Raised
at_property slot programs =
    record { channel = property 0 slot; class_handler = []; stages = 1; handlers = programs; connectable = []; targets = [] }

-- a program that reads a property, sets the next one twice, and returns
abbrev pub sets_next : ℕ → List Stretch
sets_next slot = record {
  starts = nothing ∷ raises (property 0 (suc slot) ∷ []) ∷ raises (property 0 (suc slot) ∷ []) ∷ nothing
      ∷ [];
  passes = 1;
  next = [];
} ∷ []

-- a chain of so many links
pub record IsChain (g : Graph) (links : ℕ) : Type 0 where
  pub handlers : (slot : ℕ) → slot < links → raised_of g (property 0 slot) ≡ Some (at_property slot (slot ∷ []))
  pub last : raised_of g (property 0 links) ≡ Some (at_property links [])
  pub programs : (slot : ℕ) → slot < links → slice_get g.programs slot ≡ Some (sets_next slot)
  pub pairs : g.pairs ≡ []

-- the property that has so many links in front of it
abbrev pub ChainsDouble : Type 0
ChainsDouble =
    (g : Graph) (t : Tables) (links : ℕ) → IsChain g links → SolvesCosts g t →
    (left slot : ℕ) → slot + left ≡ links → entry t.channels (property 0 slot) + 5 ≡ 6 * 2 ^ left

-- the chain of three is one
abbrev pub ThreeLinks : Type 0
ThreeLinks = IsChain (graph chain.definition) 3
