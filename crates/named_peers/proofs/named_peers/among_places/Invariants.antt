use Rattle.std.proofs.Common.{◌≡◌, ◌+◌, drop, length, slice_get}
use Rattle.std.specs.List.{flat_map}
use Rattle.named_peers.specs.NamedPeers.{named_of_kind}
use Rattle.named_peers.proofs.named_peers.among_places.Given as goal

abbrev pub invariant-places : goal.invariant-places
invariant-places l = record {
  same : slice_get (flat_map (named_of_kind l.definition l.is_prototype) (drop l.place l.definition.places)) l.left ≡ slice_get (flat_map (named_of_kind l.definition l.is_prototype) l.definition.places) l.number;
  past : l.number + length (flat_map (named_of_kind l.definition l.is_prototype) (drop l.place l.definition.places)) ≡ length (flat_map (named_of_kind l.definition l.is_prototype) l.definition.places) + l.left;
}
