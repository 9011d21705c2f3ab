use Rattle.std.proofs.Common.{◌∙◌, sym}
use Rattle.native_peers.specs.Matching.{need_view}
use Rattle.native_peers.proofs.Alone.{missing}
use Rattle.native_peers.proofs.stand_ins.StandIn.serves.Goals as goal

pub returns-then-not-has_name : goal.returns-then-not-has_name
returns-then-not-has_name c = missing (need_view c.args.need.now) c.args.self.now (sym c.has_name.ensures ∙ c.if-not-has_name.true)
