use Rattle.std.proofs.Common.{◌∙◌, sym}
use Rattle.native_peers.specs.Matching.{as_peer}
use Rattle.native_peers.specs.StandIns.{seen_of}
use Rattle.native_peers.proofs.Needing.{needed, not_needed}
use Rattle.native_peers.proofs.stand_ins.StandIn.used.Goals as goal

pub returns-then-is_needed : goal.returns-then-is_needed
returns-then-is_needed c =
    needed c.args.needs.now (as_peer (seen_of c.args.self.now)) c.as_str-name.result.now c.as_str-name.ensures.value (sym c.is_needed.ensures ∙ c.if-is_needed.true)

pub returns-else-is_needed : goal.returns-else-is_needed
returns-else-is_needed c =
    not_needed c.args.needs.now (as_peer (seen_of c.args.self.now)) c.as_str-name.result.now c.as_str-name.ensures.value (sym c.is_needed.ensures ∙ c.if-is_needed.false)
