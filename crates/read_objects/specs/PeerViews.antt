-- What the code keeps of the peers that are named.
use Rattle.std.specs.Prelude.{ℕ, Bool, List, map}
use Rattle.std.specs.BTreeSet.{contains_text}
use Rattle.definition_format.specs.Meaning.{name_bytes, plain_prototype}
use Rattle.read_objects.specs.declared.peer_names.PeerNames.{PeerNames}
use Rattle.read_objects.specs.declared.peer_names.OwnPeers as code
use Rattle.read_objects.specs.declared.prototypes.NewPrototype.{NewPrototype}
use Rattle.read_objects.specs.declared.prototypes.PrototypeDraft.{PrototypeDraft}
use Rattle.read_objects.specs.PeerDrafts.{NewStock, OwnPeers, Stock}

-- whether a name is among them
abbrev pub is_named_in : PeerNames → List ℕ → Bool
is_named_in names name = contains_text names.names name

abbrev pub own_seen : code.OwnPeers → OwnPeers
own_seen own = record { peers = name_bytes own.peers.items; is_named = is_named_in own.named }

abbrev pub stock_seen : PrototypeDraft → Stock
stock_seen draft = record { places = map plain_prototype draft.prototypes.entries; is_named = is_named_in draft.named }

abbrev pub new_seen : NewPrototype → NewStock
new_seen new = record { place = plain_prototype (new.id, new.body); is_named = is_named_in new.named }
