use Rattle.c_sessions.proofs.Streams.{left_after, place_after}
use Rattle.c_sessions.proofs.hosted_session.HostedSession.advance.Goals as goal

pub invariant_of-self : goal.invariant_of-self
invariant_of-self c = record {
  place = place_after c.args.self.now.running.core.world.transcript c.advance.new.self.core.world.transcript c.args.self.now.line c.args.self.now.byte c.args.self.now.place c.advance.ensures.grows;
}

pub returns-clause-unread : goal.returns-clause-unread
returns-clause-unread c =
    let old = c.args.self.now in left_after old.running.core.world.transcript c.advance.new.self.core.world.transcript old.line old.byte old.place c.advance.ensures.grows
