-- Prototypes while they are read, with the names of their peers by themselves, so that a further name is looked up among them at once.
use Rattle.std.specs.Prelude.{ℕ, Bool, true, List, [], ◌∷◌, ◌++◌, codes, if◌then◌else◌, Option, None, Some, Result, Ok, Err}
use Rattle.std.specs.Str.{bytes_eq}
use Rattle.serde_json.specs.Data.{Data}
use Rattle.serde_json.specs.Find.{get, as_array}
use Rattle.ui_machine.specs.Outcome.{◌>>=◌}
use Rattle.ui_machine.specs.Definition.Places.{Place}
use Rattle.ui_machine.specs.Definition.Properties.{Spec}
use Rattle.ui_machine.specs.Definition.Types.{GType}
use Rattle.definition_format.specs.Meaning.{prototype_with}
use Rattle.definition_format.specs.Refusals.{Refusal, shape, or_refused}
use Rattle.definition_format.specs.Document.{under, members_at, text_at, is_among, only_at, each, at_entry}
use Rattle.definition_format.specs.Denoted.Enums.{name_at, unless_there}
use Rattle.definition_format.specs.Denoted.Objects.{new_id, class_at_key}
use Rattle.definition_format.specs.Denoted.Peers.{peers_of}
use Rattle.definition_format.specs.Denoted.Prototypes.{all_plain_at, keys_of_prototype, room_for_prototype}

-- one name more
abbrev pub with_name : (List ℕ → Bool) → List ℕ → List ℕ → Bool
with_name is_named name other = if bytes_eq name other then true else is_named other

-- ** the peers of one prototype

-- the peers so far, and which names are taken
pub record OwnPeers : Type 0 where
  pub peers : List (List ℕ)
  pub is_named : List ℕ → Bool

-- no peers, where names are taken
abbrev pub no_peers : (List ℕ → Bool) → OwnPeers
no_peers is_named = record { peers = []; is_named = is_named }

-- these peers, behind those of the prototypes before
abbrev pub own_behind : List (List ℕ) → List (List ℕ) → OwnPeers
own_behind before peers = record { peers = peers; is_named = is_among (before ++ peers) }

-- the peers so far, with the one that an entry names
unfoldable pub own_peer_at : List ℕ → OwnPeers → Data → Result OwnPeers Refusal
own_peer_at path own d = do
  name ← name_at path d
  new ← unless_there path (own.is_named name)
  Ok (record { peers = own.peers ++ name ∷ []; is_named = with_name own.is_named name })

unfoldable pub own_peers_at : List ℕ → (List ℕ → Bool) → Data → Result OwnPeers Refusal
own_peers_at path is_named d = do
  list ← or_refused (shape path) (as_array d)
  each (at_entry own_peer_at path) 0 (no_peers is_named) list

-- the peers of a prototype
abbrev pub own_peers_or : List ℕ → Bool → (List ℕ → Bool) → Option Data → Result OwnPeers Refusal
own_peers_or path has_shape is_named None = Ok (no_peers is_named)
own_peers_or path has_shape is_named (Some d) = if has_shape then own_peers_at path is_named d else Err (shape path)

-- ** prototypes

-- the prototypes so far, and which names of peers are taken
pub record Stock : Type 0 where
  pub places : List Place
  pub is_named : List ℕ → Bool

-- these prototypes
abbrev pub stocked : List Place → Stock
stocked places = record { places = places; is_named = is_among (peers_of places) }

-- a further prototype, and which names are taken then
pub record NewStock : Type 0 where
  pub place : Place
  pub is_named : List ℕ → Bool

-- the prototype that an entry gives beside these
unfoldable pub stock_in : List ℕ → List GType → (ℕ → List Spec) → (ℕ → Bool) → Stock → Data → Result NewStock Refusal
stock_in path types specs has_shape stock d = do
  members ← members_at path d
  room ← room_for_prototype stock.places
  id ← text_at path d (codes "id")
  new ← new_id (under path (codes "id")) stock.places id
  class ← class_at_key path types d
  given ← all_plain_at path types (specs class) d
  own ← own_peers_or (under path (codes "peers")) (has_shape class) stock.is_named (get (codes "peers") d)
  only ← only_at path members keys_of_prototype
  Ok (record { place = prototype_with id class own.peers given; is_named = own.is_named })

-- these prototypes, with the one that an entry gives
unfoldable pub stock_at : List ℕ → List GType → (ℕ → List Spec) → (ℕ → Bool) → Stock → Data → Result Stock Refusal
stock_at path types specs has_shape stock d = do
  new ← stock_in path types specs has_shape stock d
  Ok (record { places = stock.places ++ new.place ∷ []; is_named = new.is_named })
