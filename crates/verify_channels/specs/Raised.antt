-- What runs at channels, put together.
use Rattle.std.specs.Prelude.{◌≡◌, ℕ, true, List, [], length, Some, slice_get}
use Rattle.std.specs.List.{filter_map, flat_map}
use Rattle.ui_machine.specs.Seq.{read}
use Rattle.ui_machine.specs.Definition.{Definition}
use Rattle.law_typing.specs.Graph.{class_handler_for, connections, handlers_for, place_of_channel, raised_at, stages_at, targets_from}
use Rattle.law_typing.specs.Graph.Channels.{Channel, is_channel, of_class}
use Rattle.law_typing.specs.Rules.RegisterKinds.{class_at}
use Rattle.law_typing.specs.Rules.Sites.{sites}
use Rattle.verify_sketches.specs.Sketches.{SamePrograms, SketchedChannel, emits_at}
use Rattle.verify_graph.specs.Numbers.{numbers_of}
use Rattle.verify_graph.specs.declared.pairs_by_number.PairedNumbers.{PairedNumbers}
use Rattle.verify_channels.specs.Attached.{AreAttached}
use Rattle.verify_channels.specs.Connected.{AreConnected, groups_for}
use Rattle.verify_channels.specs.ConnectedCode.{connections_if}
use Rattle.verify_channels.specs.Transfers.{AreTargets, list_at}
use Rattle.verify_channels.specs.declared.channels.ChannelParts.{ChannelParts}

-- ** by the parts

-- the parts are those of a definition
pub record AreParts (d : Definition) (all : List Channel) (parts : ChannelParts) : Type 0 where
  pub attached : AreAttached d parts.attached.items
  pub transfers_count : length parts.transfers.items ≡ length all
  pub transfers : AreTargets all parts.transfers.items d.bindings
  pub connects : AreConnected d parts.connects (connections_if d)

-- what runs at the channel of a number
pub record RunsAt (d : Definition) (paired : PairedNumbers) (parts : ChannelParts) (n : ℕ) (c : Channel) (k : SketchedChannel) : Type 0 where
  pub emits : k.emits ≡ emits_at c
  pub class_handler : is_channel d c ≡ true → k.class_handler ≡ of_class (class_handler_for d c) (class_at d (place_of_channel c))
  pub stages : k.stages ≡ stages_at d c
  pub handlers : k.handlers ≡ handlers_for d c
  pub groups : k.groups ≡ groups_for parts.connects.at.items c
  pub transfers : k.transfers ≡ length (list_at parts.transfers.items n)
  pub targets : k.targets ≡ filter_map (λ o. o) (list_at parts.transfers.items n)
  pub first : Some k.first ≡ slice_get paired.firsts.items n
  pub other : Some k.other ≡ slice_get paired.others.items n

-- at whatever channel has the number
abbrev pub IsRaised : Definition → List Channel → PairedNumbers → ChannelParts → ℕ → SketchedChannel → Type 0
IsRaised d all paired parts n k = (c : Channel) → slice_get all n ≡ Some c → RunsAt d paired parts n c k

-- at all channels
pub record AreRaised (d : Definition) (all : List Channel) (paired : PairedNumbers) (parts : ChannelParts) (ks : List SketchedChannel) : Type 0 where
  pub count : length ks ≡ length all
  pub each : (n : ℕ) (k : SketchedChannel) → slice_get ks n ≡ Some k → IsRaised d all paired parts n k

-- ** by the definition

-- what runs at a channel is sketched, where groups of programs are these
pub record IsSketchedAt (d : Definition) (all : List Channel) (paired : PairedNumbers) (groups : List (List ℕ)) (n : ℕ) (c : Channel) (k : SketchedChannel) : Type 0 where
  pub emits : k.emits ≡ emits_at c
  pub class_handler : is_channel d c ≡ true → k.class_handler ≡ of_class (class_handler_for d c) (class_at d (place_of_channel c))
  pub stages : k.stages ≡ stages_at d c
  pub handlers : k.handlers ≡ handlers_for d c
  pub connectable : SamePrograms (flat_map (read [] groups) k.groups) (raised_at d (connections d (sites d)) c).connectable
  pub transfers : k.transfers ≡ length (targets_from d c)
  pub targets : k.targets ≡ numbers_of all (targets_from d c)
  pub first : Some k.first ≡ slice_get paired.firsts.items n
  pub other : Some k.other ≡ slice_get paired.others.items n

-- at all channels
pub record AreSketched (d : Definition) (all : List Channel) (paired : PairedNumbers) (groups : List (List ℕ)) (ks : List SketchedChannel) : Type 0 where
  pub count : length ks ≡ length all
  pub each : (n : ℕ) (c : Channel) (k : SketchedChannel) → slice_get all n ≡ Some c → slice_get ks n ≡ Some k → IsSketchedAt d all paired groups n c k
