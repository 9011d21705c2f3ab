-- Worked pools for a definition whose prototype names the peer `t`, and whose object `i` names `o`, both of the shape `Tally`.
use Rattle.std.specs.Prelude.{◌≡◌, true, ℕ, List, [], ◌∷◌, codes, map, None, Some}
use Rattle.std.specs.List.{flat_map, list_all}
use Rattle.ui_machine.specs.Definition.Names.{same_name}
use Rattle.ui_machine.specs.Definition.Places.{Place}
use Rattle.ui_machine.specs.Definition.{Definition}
use Rattle.ui_machine.specs.Definition.Signals.{Method}
use Rattle.ui_machine.specs.Definition.Kinds as kinds
use Rattle.ui_machine.specs.State.Peers.{Peer, closed_peer}
use Rattle.ui_machine.specs.Words.{method, object, prototype, peer}
use Rattle.law_typing.specs.Laws.StepsKeepGood.{PoolReady}
use Rattle.law_typing.specs.Examples.LastReference as last_reference
use Rattle.law_peers.specs.Needs.{Need, missing, closed, misshapen, unused, needs_of, mismatch}
use Rattle.law_peers.specs.MatchedPools.{AllFree}
use Rattle.law_peers.specs.NamesApart.{is_plain}
use Rattle.law_typing.specs.Laws.WellRead.{no_two}
use Rattle.law_peers.specs.PeerLaws.{IsNamedApart}

-- the one with a peer, and one object more, which has a peer of its own
abbrev pub definition : Definition
definition = record last_reference.definition {
  places =
      object (codes "h") 3 None [] [] []
      ∷ object (codes "i") 2 None [] (codes "o" ∷ []) []
      ∷ prototype (codes "it") 2 [] (codes "t" ∷ [])
      ∷ [];
}

abbrev pub add : Method
add = method (codes "add") (kinds.whole kinds.int64 ∷ []) (kinds.whole kinds.int64)

abbrev pub reads : Method
reads = method (codes "read") [] (kinds.whole kinds.int64)

-- a peer of the shape under a name
abbrev pub tally : List ℕ → Peer
tally name = peer name (add ∷ reads ∷ []) []

-- the same methods the other way round
abbrev pub turned : List ℕ → Peer
turned name = peer name (reads ∷ add ∷ []) []

abbrev pub pool : List Peer
pool = tally (codes "o") ∷ tally (codes "t") ∷ []

pub record WorkedPools : Type 0 where
  -- the prototype's peer comes first, though its place is the last one
  pub needs : map (λ (n : Need). n.name) (needs_of definition) ≡ codes "t" ∷ codes "o" ∷ []
  -- this one matches, in whatever order its peers are, and is ready
  pub matches : mismatch definition pool ≡ None
  pub free : AllFree pool
  pub ready : PoolReady definition pool
  -- its names are plain, no two are one, and so the names of its peers are apart
  pub plain : list_all is_plain (flat_map (λ (p : Place). p.peers) definition.places) ≡ true
  pub two : no_two same_name (map (λ (p : Peer). p.name) pool) ≡ true
  pub apart : IsNamedApart pool 1
  -- nothing is there
  pub empty : mismatch definition [] ≡ Some (missing (codes "t"))
  pub without : mismatch definition (tally (codes "t") ∷ []) ≡ Some (missing (codes "o"))
  -- one is closed
  pub shut : mismatch definition (closed_peer (tally (codes "o")) ∷ tally (codes "t") ∷ []) ≡ Some (closed (codes "o"))
  -- one has the same methods in another order
  pub shaped : mismatch definition (tally (codes "o") ∷ turned (codes "t") ∷ []) ≡ Some (misshapen (codes "t"))
  -- one is not needed
  pub more : mismatch definition (tally (codes "u") ∷ pool) ≡ Some (unused (codes "u"))
  -- the first need with any of these is the one that counts, and needs come before what is unused
  pub first : mismatch definition (tally (codes "u") ∷ turned (codes "t") ∷ []) ≡ Some (misshapen (codes "t"))
