use Rattle.std.proofs.Common.{◌≡◌, drop, map}
use Rattle.definition_format.specs.Document.{is_among}
use Rattle.definition_format.specs.Denoted.Peers.{peers_of}
use Rattle.definition_format.specs.Meaning.{plain_object}
use Rattle.read_objects.proofs.objects.has_peer.Given as goal

abbrev pub invariant-objects : goal.invariant-objects
invariant-objects l =
    is_among (peers_of (map plain_object l.objects.entries)) l.name ≡ is_among (peers_of (map plain_object (drop l.number l.objects.entries))) l.name
