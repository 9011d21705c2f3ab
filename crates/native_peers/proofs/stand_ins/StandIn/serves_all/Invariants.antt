use Rattle.std.proofs.Common.{◌≡◌, ◌∷◌, [], drop, map}
use Rattle.law_peers.specs.Needs.{first_wrong}
use Rattle.native_peers.specs.Matching.{as_peer, need_view}
use Rattle.native_peers.specs.StandIns.{seen_of}
use Rattle.native_peers.proofs.stand_ins.StandIn.serves_all.Given as goal

abbrev pub invariant-needs : goal.invariant-needs
invariant-needs l = let pool = as_peer (seen_of l.self) ∷ [] in first_wrong pool (map need_view (drop l.need-index l.needs)) ≡ first_wrong pool (map need_view l.needs)
