use Rattle.std.proofs.Common.{◌≡◌, false, Err, ap, sym, subst, refl, ◌∙◌, Ok}
use Rattle.ui_machine.specs.Definition.{Definition}
use Rattle.ui_machine.specs.Rules.Events.{refusal}
use Rattle.ui_machine.specs.Rules.MainLoop.{is_back}
use Rattle.ui_machine.specs.State.Config.{World}
use Rattle.ui_machine.specs.State.Tasks as config
use Rattle.engine_world.specs.View.{world_of}
use Rattle.engine_world.specs.declared.engine.Engine.{Engine}
use Rattle.engine_dispatches.specs.Dispatched.{IsAtRest}
use Rattle.engine_dispatches.specs.PoolView.{world_at}
use Rattle.engine_dispatches.specs.Promises.{Rests}
use Rattle.engine_dispatches.specs.TurnView.{TurnBegins}
use Rattle.engine_dispatches.proofs.Points.{seen_so}
use Rattle.engine_dispatches.proofs.UnderWay.{turn_begins}
use Rattle.ui_engine.specs.declared.cores.Phase.TheVariants as phases
use Rattle.ui_engine.specs.declared.faults.SessionFault.TheVariants as faults
use Rattle.ui_engine.specs.Phases.{IsKept}
use Rattle.ui_engine.specs.SessionView.{BeginsBy, SessionState}
use Rattle.ui_engine.proofs.Ending.{session_at}
use Rattle.ui_engine.proofs.InParts.{begin_back, begin_goes, begins_beside, goes_forwards, is_before, kept_at_rest, kept_on, not_back, turn_stops, room_on}
use Rattle.ui_engine.proofs.Served.{kept_as, knows_inside, turn_kept, turn_may_begin, turned_rests}
use Rattle.ui_engine.proofs.cores.Core.begin_turn.Goals as goal

pub begin_turn-requires : goal.begin_turn-requires
begin_turn-requires g c =
    let d = c.self.inside.verified in
    let kept = kept_at_rest d c.self.inside.engine c.self.inside.phase (ap (λ (s : SessionState). s.stopped) c.self.view_is ∙ c.requires.goes_on) c.self.invariant in
    record { rests = subst (λ (x : Definition). IsAtRest x c.self.inside.engine) (sym c.definition-definition.ensures.same) kept.0 }

pub invariant_of-self : goal.invariant_of-self
invariant_of-self g c =
    let d = c.self.inside.verified in
    let same = c.definition-definition.ensures.same in
    let engine = c.self.inside.engine in
    let w = world_of engine.world in
    let goes_on = ap (λ (s : SessionState). s.stopped) c.self.view_is ∙ c.requires.goes_on in
    let kept = kept_at_rest d engine c.self.inside.phase goes_on c.self.invariant in
    let begins = subst (λ (x : Definition). TurnBegins x c.args.moment w c.in-Ok.batch (world_of c.begin_turn.new.engine.world)) same c.in-Ok.ensures.begins in
    kept_on d c.begin_turn.new.engine c.self.inside.phase goes_on (
      subst (λ (x : Definition). IsAtRest x c.begin_turn.new.engine) same c.in-Ok.ensures.rests,
      subst (λ (v : World). Rests d v) (sym begins.world) (turned_rests d c.definition-definition.result.now same c.types-types.ensures.denoted w c.args.moment kept.1),
      room_on d engine c.begin_turn.new.engine c.begin_turn.ensures.room kept.2,
    )

pub invariant_of-self-in-Err-ClockBack : goal.invariant_of-self-in-Err-ClockBack
invariant_of-self-in-Err-ClockBack g c =
    let same = c.begin_turn.ensures.back (c.in-Err-ClockBack.is ∙ ap Err c.in-Err-ClockBack.field-0-is) in
    subst (λ (x : Engine). IsKept c.self.inside.verified x c.self.inside.phase) (sym same) c.self.invariant

pub returns-in-Ok-clause-begins : goal.returns-in-Ok-clause-begins
returns-in-Ok-clause-begins g c =
    let may = g.P.Peers.relations c.args.pool.now in
    let pool = g.P.Peers.seen c.args.pool.now in
    let d = c.self.inside.verified in
    let e = c.definition-definition.result.now in
    let same = c.definition-definition.ensures.same in
    let from = c.types-types.ensures.denoted in
    let engine = c.self.inside.engine in
    let w = world_of engine.world in
    let m = c.args.moment in
    let goes_on = ap (λ (s : SessionState). s.stopped) c.self.view_is ∙ c.requires.goes_on in
    let kept = kept_at_rest d engine c.self.inside.phase goes_on c.self.invariant in
    let knows = knows_inside pool c.self.view_is c.requires.knows in
    let now = world_of c.begin_turn.new.engine.world in
    let forwards : is_back w m ≡ false = not_back m w.moment (λ less. cc (c.in-Ok.ensures.clock_back.1 less)) in
    let none = goes_forwards w m forwards in
    let begins = begins_beside m pool w c.in-Ok.batch now same c.in-Ok.ensures.begins in
    let come = turn_begins d may m (world_at pool w) c.in-Ok.batch (world_at pool now) (turn_may_begin d e same from pool w knows kept.1 m none) begins in
    subst (λ (s : SessionState). BeginsBy may (refusal s.world (config.turn m)) (Ok c.begin_sources.result) pool s (config.turn m) c.begin_sources.new.self) c.self.view_is
    (begin_goes may pool (session_at d engine c.self.inside.phase) (config.turn m) none (Ok c.begin_sources.result) c.begin_sources.new.self (c.begin_sources.ensures.comes (config.turn m) (world_at pool w) come))

pub returns-in-Err-OutOfMemory-clause-begins : goal.returns-in-Err-OutOfMemory-clause-begins
returns-in-Err-OutOfMemory-clause-begins g c =
    let may = g.P.Peers.relations c.args.pool.now in
    let pool = g.P.Peers.seen c.args.pool.now in
    let d = c.self.inside.verified in
    let e = c.definition-definition.result.now in
    let same = c.definition-definition.ensures.same in
    let from = c.types-types.ensures.denoted in
    let engine = c.self.inside.engine in
    let w = world_of engine.world in
    let m = c.args.moment in
    let goes_on = ap (λ (s : SessionState). s.stopped) c.self.view_is ∙ c.requires.goes_on in
    let kept = kept_at_rest d engine c.self.inside.phase goes_on c.self.invariant in
    let knows = knows_inside pool c.self.view_is c.requires.knows in
    let now = world_of c.begin_turn.new.engine.world in
    let forwards : is_back w m ≡ false = not_back m w.moment (λ less. cc (c.in-Err-OutOfMemory.ensures.clock_back.1 less, c.in-Err-OutOfMemory.is, c.in-Err-OutOfMemory.field-0-is)) in
    subst (λ (s : SessionState). BeginsBy may (refusal s.world (config.turn m)) (Err faults.OutOfMemory) pool s (config.turn m) (session_at d c.begin_turn.new.engine phases.Stopped)) c.self.view_is
    (turn_stops may pool (session_at d engine c.self.inside.phase) m forwards (session_at d c.begin_turn.new.engine phases.Stopped) (sym c.in-Err-OutOfMemory.ensures.quiet.0)
    (seen_so pool w.peers now.peers c.in-Err-OutOfMemory.ensures.quiet.1) refl refl)

pub returns-in-Err-ClockBack-clause-begins : goal.returns-in-Err-ClockBack-clause-begins
returns-in-Err-ClockBack-clause-begins g c =
    let may = g.P.Peers.relations c.args.pool.now in
    let pool = g.P.Peers.seen c.args.pool.now in
    let d = c.self.inside.verified in
    let engine = c.self.inside.engine in
    let phase = c.self.inside.phase in
    let m = c.args.moment in
    let fault = c.in-Err-ClockBack.is ∙ ap Err c.in-Err-ClockBack.field-0-is in
    subst (λ (s : SessionState). BeginsBy may (refusal s.world (config.turn m)) (Err faults.ClockBack) pool s (config.turn m) (session_at d c.begin_turn.new.engine phase)) c.self.view_is
    (subst (λ (x : Engine). BeginsBy may (refusal (world_of engine.world) (config.turn m)) (Err faults.ClockBack) pool (session_at d engine phase) (config.turn m) (session_at d x phase)) (sym (c.begin_turn.ensures.back fault))
    (begin_back may pool (session_at d engine phase) m (is_before m (world_of engine.world).moment (c.begin_turn.ensures.clock_back.0 fault))))

pub returns-in-Ok-clause-keeps : goal.returns-in-Ok-clause-keeps
returns-in-Ok-clause-keeps g c =
    let may = g.P.Peers.relations c.args.pool.now in
    let pool = g.P.Peers.seen c.args.pool.now in
    let d = c.self.inside.verified in
    let e = c.definition-definition.result.now in
    let same = c.definition-definition.ensures.same in
    let from = c.types-types.ensures.denoted in
    let engine = c.self.inside.engine in
    let w = world_of engine.world in
    let goes_on = ap (λ (s : SessionState). s.stopped) c.self.view_is ∙ c.requires.goes_on in
    let kept = kept_at_rest d engine c.self.inside.phase goes_on c.self.invariant in
    let knows = knows_inside pool c.self.view_is c.requires.knows in
    kept_as pool (config.turn c.args.moment) c.self.view_is (λ _. turn_kept d e same from pool w knows kept.1 c.args.moment)

pub returns-in-Err-OutOfMemory-clause-keeps : goal.returns-in-Err-OutOfMemory-clause-keeps
returns-in-Err-OutOfMemory-clause-keeps g c =
    let may = g.P.Peers.relations c.args.pool.now in
    let pool = g.P.Peers.seen c.args.pool.now in
    let d = c.self.inside.verified in
    let e = c.definition-definition.result.now in
    let same = c.definition-definition.ensures.same in
    let from = c.types-types.ensures.denoted in
    let engine = c.self.inside.engine in
    let w = world_of engine.world in
    let goes_on = ap (λ (s : SessionState). s.stopped) c.self.view_is ∙ c.requires.goes_on in
    let kept = kept_at_rest d engine c.self.inside.phase goes_on c.self.invariant in
    let knows = knows_inside pool c.self.view_is c.requires.knows in
    kept_as pool (config.turn c.args.moment) c.self.view_is (λ _. turn_kept d e same from pool w knows kept.1 c.args.moment)
