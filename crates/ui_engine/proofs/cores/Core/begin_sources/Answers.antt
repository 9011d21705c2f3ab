use Rattle.std.proofs.Common.{[], None, Ok, ap, subst, sym, ◌∙◌}
use Rattle.ui_machine.specs.Definition.{Definition}
use Rattle.engine_world.specs.View.{world_of}
use Rattle.engine_dispatches.specs.Courses.{HasCome, nothing_yet}
use Rattle.engine_dispatches.specs.Dispatched.{IsAtRest}
use Rattle.engine_dispatches.specs.PoolView.{world_at}
use Rattle.ui_engine.specs.SessionView.{ComesOn, SessionState}
use Rattle.ui_engine.proofs.Ending.{session_at}
use Rattle.ui_engine.proofs.InParts.{kept_at_rest, kept_begun, sources_begin, room_for_one}
use Rattle.ui_engine.proofs.Served.{knows_inside}
use Rattle.ui_engine.proofs.cores.Core.begin_sources.Goals as goal

pub begin_next-progress-requires : goal.begin_next-progress-requires
begin_next-progress-requires g c =
    let d = c.self.inside.verified in
    let kept = kept_at_rest d c.self.inside.engine c.self.inside.phase (ap (λ (s : SessionState). s.stopped) c.self.view_is ∙ c.requires.goes_on) c.self.invariant in
    record {
      rests = subst (λ (x : Definition). IsAtRest x c.self.inside.engine) (sym c.definition-definition.ensures.same) kept.0;
      room = room_for_one d c.self.inside.engine c.definition-definition.ensures.accepted kept.2;
    }

pub invariant_of-self : goal.invariant_of-self
invariant_of-self g c =
    let d = c.self.inside.verified in
    let kept = kept_at_rest d c.self.inside.engine c.self.inside.phase (ap (λ (s : SessionState). s.stopped) c.self.view_is ∙ c.requires.goes_on) c.self.invariant in
    kept_begun d c.definition-definition.result.now c.definition-definition.ensures.same c.self.inside.engine c.begin_next-progress.new.engine c.begin_next-progress.ensures.room kept c.begin_next-progress.result c.begin_next-progress.ensures.counted c.begin_next-progress.ensures.still _ c.phase_at-self-inside.ensures

pub returns-clause-comes : goal.returns-clause-comes
returns-clause-comes g c event v h =
    let may = g.P.Peers.relations c.args.pool.now in
    let pool = g.P.Peers.seen c.args.pool.now in
    let d = c.self.inside.verified in
    let e = c.definition-definition.result.now in
    let same = c.definition-definition.ensures.same in
    let engine = c.self.inside.engine in
    let w = world_of engine.world in
    let knows = knows_inside pool c.self.view_is c.requires.knows in
    let here = subst (λ (s : SessionState). HasCome s.definition may event v c.args.batch nothing_yet (world_at pool s.world)) (sym c.self.view_is) h in
    subst (λ (s : SessionState). ComesOn (Ok c.begin_next-progress.result) may s.definition event v [] pool (session_at d c.begin_next-progress.new.engine c.phase_at-self-inside.result)) c.self.view_is
    (sources_begin may d e same pool engine c.begin_next-progress.new.engine knows event v c.args.batch c.none-so_far.result None c.none-so_far.ensures here c.begin_next-progress.result c.begin_next-progress.ensures.still c.begin_next-progress.ensures.begins
    c.phase_at-self-inside.result c.phase_at-self-inside.ensures)
