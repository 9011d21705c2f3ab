use Rattle.std.proofs.Common.{ap, map, refl}
use Rattle.g_values.specs.View.{value_view}
use Rattle.native_peers.specs.StandIns.{seen_of, stand_ins}
use Rattle.native_peers.proofs.Alone.{asked}
use Rattle.native_peers.proofs.lone_peers.OptionStandInPeers.invoke.Goals as goal

pub returns-clause-asks : goal.returns-clause-asks
returns-clause-asks c =
    asked (seen_of c.in-Some.peer) _ c.args._method (map value_view c.args._args.now) (record { shape = refl; openness = refl; calls = refl; faults = refl; value = tt }) _ c.args._k
    (stand_ins c.args.self.now) (ap stand_ins c.in-Some.is) c.requires.open
