use Rattle.std.proofs.Common.{◌≡◌, true, ap, sym, ◌∙◌}
use Rattle.native_peers.specs.StandIns.{stand_ins}
use Rattle.c_sessions.specs.RunStates.{RunState, is_under_way}
use Rattle.c_sessions.proofs.Parts.{course_stops}
use Rattle.c_sessions.proofs.running.Running.is_under_way.Goals as goal

pub returns-clause-stops : goal.returns-clause-stops
returns-clause-stops c under_way =
    let inside = c.self.inside in
    sym (ap (λ (r : RunState). r.core.stopped) c.self.view_is)
    ∙ course_stops inside.course (stand_ins inside.session.pool) inside.session.core c.self.invariant (ap is_under_way c.self.view_is ∙ under_way)
