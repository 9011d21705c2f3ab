use Rattle.std.proofs.Common.{ap, subst, sym, ◌∙◌}
use Rattle.std.specs.Prelude.{option_map}
use Rattle.engine_world.specs.PeerPlaces.{AreAlike}
use Rattle.engine_world.specs.View.{with_lines, world_of}
use Rattle.engine_world.specs.declared.closings.Closing.{Closing}
use Rattle.engine_world.specs.declared.engine.Engine.{Engine}
use Rattle.engine_world.specs.declared.world.World.{World}
use Rattle.engine_world.proofs.Dispose.{said_and_closed}
use Rattle.engine_world.proofs.closings.say_and_close.Goals as goal
use Rattle.engine_world.proofs.closings.say_and_close.Goals.{in-Some, in-None}

pub returns-clause-left : goal.returns-clause-left
returns-clause-left c = subst (λ (w : World). AreAlike w.seats c.close.new.engine.world.seats) c.say_all.ensures.beside c.close.ensures.left

pub returns-clause-ok : goal.returns-clause-ok
returns-clause-ok c =
    let old = world_of c.args.engine.now.world in
    let done =
    said_and_closed c.args.first c.args.last c.args.closed old (world_of c.say_all.new.self) (world_of c.close.new.engine.world) c.match-closed.peer.0 c.match-closed.peer.1
    (c.in_ok-say_all.ensures.ok ∙ ap (λ ls. with_lines ls old) c.in_ok-lines.ensures) (ap (λ (e : Engine). world_of e.world) c.close.ensures.closed) in
    elim c.match-closed.branch [
      | in-Some w ↦ done (ap (λ p. p.0) w.peer-is ∙ ap (λ o. option_map (λ (x : Closing). x.peer) o) (sym w.in-Some.is)) (ap (λ p. p.1) w.peer-is ∙ ap (λ o. option_map (λ (x : Closing). x.line) o) (sym w.in-Some.is))
      | in-None w ↦ done (ap (λ p. p.0) w.peer-is ∙ ap (λ o. option_map (λ (x : Closing). x.peer) o) (sym w.in-None.is)) (ap (λ p. p.1) w.peer-is ∙ ap (λ o. option_map (λ (x : Closing). x.line) o) (sym w.in-None.is))
    ]
