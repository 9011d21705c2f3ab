-- What is to be short beside values, so that the lines of a run are: the details of emissions, and what peers are called by and given.
-- Here is what a definition, an event and a pool give, and what a configuration holds.
use Rattle.std.specs.List.{find}
use Rattle.std.specs.Prelude.{◌≡◌, ℕ, ◌≤◌, length, List, Option, Some, IfSome, ⊤}
use Rattle.ui_machine.specs.Definition.{Definition}
use Rattle.ui_machine.specs.Definition.Lookups.{place_at}
use Rattle.ui_machine.specs.Definition.Names.{same_name}
use Rattle.ui_machine.specs.Definition.Places.{Place}
use Rattle.ui_machine.specs.Definition.Programs.{Block, Instruction, Program}
use Rattle.ui_machine.specs.Definition.Programs as words
use Rattle.ui_machine.specs.Definition.Signals.{Method}
use Rattle.ui_machine.specs.State.Config.{Config, World}
use Rattle.ui_machine.specs.State.Objects.{Object, living}
use Rattle.ui_machine.specs.State.Peers.{Peer}
use Rattle.ui_machine.specs.State.Tasks.{Beginning, Calling, Event, Handling, Request, Task}
use Rattle.ui_machine.specs.State.Tasks as config
use Rattle.law_typing.specs.Verdict.Accepted.{Each}
use Rattle.law_peers.specs.PeerLaws.{peer_in}
use Rattle.law_short_texts.specs.ShortValues.{AllShort, IsShortEvent, IsShortWorld}
use Rattle.law_line_lengths.specs.LineLengths.{IsLikeNameOf, detail_length, most_arguments}

-- ** details

-- a detail, if there is one, has 64 bytes at most
abbrev pub IsShortDetail : Option (List ℕ) → Type 0
IsShortDetail detail = IfSome detail (λ (s : List ℕ). length s ≤ detail_length)

-- an instruction that emits says a short detail, or none
abbrev pub SaysShortDetail : Instruction → Type 0
SaysShortDetail (words.emit into object signal detail args) = IsShortDetail detail
SaysShortDetail _ = ⊤

-- and so does each instruction of a definition
abbrev pub HasShortDetails : Definition → Type 0
HasShortDetails d = Each (λ (p : Program). Each (λ (b : Block). Each SaysShortDetail b.code) p.blocks) d.programs

-- a request for an emission brings a short detail, or none
abbrev pub HasShortDetail : Request → Type 0
HasShortDetail (config.emit place signal args detail) = IsShortDetail detail
HasShortDetail _ = ⊤

-- the values and the detail of an event are short
abbrev pub IsShortAll : Event → Type 0
IsShortAll (config.request r) = IsShortEvent (config.request r) × HasShortDetail r
IsShortAll (config.turn moment) = ⊤

-- ** peers

-- a method's name is no longer than the definition's longest, and it has no more arguments than a signal or a method of the definition
abbrev pub IsShortMethod : Definition → Method → Type 0
IsShortMethod d m = IsLikeNameOf d m.name × (length m.params ≤ most_arguments d)

-- a peer's name is no longer either, and it has such methods
abbrev pub IsShortPeer : Definition → Peer → Type 0
IsShortPeer d p = IsLikeNameOf d p.name × Each (IsShortMethod d) p.state.shape

-- so is the peer of this number
abbrev pub IsShortPeerAt : Definition → List Peer → ℕ → Type 0
IsShortPeerAt d peers number = IsShortPeer d (peer_in peers number)

-- the first peer of this name, if there is one, is short
abbrev pub FindsShort : Definition → List Peer → List ℕ → Type 0
FindsShort d peers name = IfSome (find (λ (p : Peer). same_name p.name name) peers) (IsShortPeer d)

-- and so is each that a place names; a peer of another name may be as it is
abbrev pub HasShortPool : Definition → List Peer → Type 0
HasShortPool d peers = (place : ℕ) (p : Place) → place_at d place ≡ Some p → Each (FindsShort d peers) p.peers

-- ** what a configuration holds

-- the peers of a world that places name are short, and so are those that objects have
pub record HasShortPeers (d : Definition) (w : World) : Type 0 where
  pub pool : HasShortPool d w.peers
  pub objects : (id number : ℕ) (o : Object) → living w.objects id ≡ Some o → o.peer ≡ Some number → IsShortPeerAt d w.peers number

-- values and peers of a world are short
abbrev pub IsShortWhole : Definition → World → Type 0
IsShortWhole d w = IsShortWorld w × HasShortPeers d w

-- An emission that is due, and a request for one, has a short detail. A call is of a short peer, and has no more arguments than a signal
-- or a method of the definition.
abbrev pub IsShortDue : Definition → List Peer → Task → Type 0
IsShortDue d peers (Beginning e) = IsShortDetail e.detail
IsShortDue d peers (Calling call) = IsShortPeerAt d peers call.peer × (length call.args ≤ most_arguments d)
IsShortDue d peers (Handling r) = HasShortDetail r
IsShortDue d peers _ = ⊤

-- All that lines are made of is short, and all that it comes from.
pub record HasAllShort (d : Definition) (c : Config) : Type 0 where
  pub values : AllShort c
  pub peers : HasShortPeers d c.world
  pub tasks : Each (IsShortDue d c.world.peers) c.agenda
