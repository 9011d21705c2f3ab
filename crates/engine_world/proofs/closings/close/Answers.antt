use Rattle.std.proofs.Common.{◌<◌, ℕ, Option, length, subst, sym}
use Rattle.std.specs.Prelude.{IfSome}
use Rattle.engine_world.specs.PeerPlaces.{AreAlike}
use Rattle.engine_world.proofs.GotPeers.{alike_closed}
use Rattle.engine_world.proofs.closings.close.Goals as goal

pub returns-clause-left : goal.returns-clause-left
returns-clause-left c =
    let peers = c.args.engine.now.world.seats in
    let within = subst (λ (o : Option ℕ). IfSome o (λ n. n < length peers)) c.in-Some.is c.requires in
    subst (AreAlike peers) (sym c.close.ensures) (alike_closed peers c.in-Some.number within)
