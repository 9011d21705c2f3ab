use Rattle.std.proofs.Common.{◌≡◌, drop, map}
use Rattle.native_peers.specs.Matching.{need_view}
use Rattle.needed_peers.specs.Needing.{shape_needed}
use Rattle.needed_peers.proofs.seats.first_shape.Given as goal

abbrev pub invariant-needs : goal.invariant-needs
invariant-needs l = shape_needed (map need_view (drop l.need-index l.needs)) l.name ≡ shape_needed (map need_view l.needs) l.name
