use Rattle.std.proofs.Common.{◌≡◌, [], None, Ok, Err, ap, subst, sym, ◌∙◌}
use Rattle.ui_machine.specs.Definition.{Definition}
use Rattle.ui_machine.specs.Rules.Events.{refusal}
use Rattle.ui_machine.specs.State.Tasks as config
use Rattle.definition_format.specs.Meaning.{request_of}
use Rattle.law_typing.specs.Good.Requests.{RequestRead}
use Rattle.engine_world.specs.Counting.{Counts, nothing}
use Rattle.engine_world.specs.TaskView.{agenda_of}
use Rattle.engine_world.specs.View.{world_of}
use Rattle.engine_dispatches.specs.declared.courses.Progress.TheVariants as progress
use Rattle.engine_dispatches.specs.Dispatched.{IsAtRest}
use Rattle.ui_engine.specs.declared.cores.Phase.TheVariants as phases
use Rattle.ui_engine.specs.declared.faults.SessionFault.TheVariants as faults
use Rattle.ui_engine.specs.SessionView.{BeginsBy, SessionState}
use Rattle.ui_engine.proofs.Ending.{session_at}
use Rattle.ui_engine.proofs.InParts.{begin_goes, begin_released, goes_where_none, kept_at_rest, request_so_far, room_for_one, room_on}
use Rattle.ui_engine.proofs.Served.{kept_as, knows_inside, request_kept, request_may_begin}
use Rattle.ui_engine.proofs.cores.Core.begin_request.Goals as goal

pub begin_dispatch-requires-clause-idle : goal.begin_dispatch-requires-clause-idle
begin_dispatch-requires-clause-idle g c =
    let d = c.self.inside.verified in
    let kept = kept_at_rest d c.self.inside.engine c.self.inside.phase (ap (λ (s : SessionState). s.stopped) c.self.view_is ∙ c.requires.goes_on) c.self.invariant in
    subst (λ (x : Definition). agenda_of x c.self.inside.engine ≡ []) (sym c.definition-definition.ensures.same) kept.0.idle

pub begin_dispatch-requires-clause-room : goal.begin_dispatch-requires-clause-room
begin_dispatch-requires-clause-room g c =
    let d = c.self.inside.verified in
    let kept = kept_at_rest d c.self.inside.engine c.self.inside.phase (ap (λ (s : SessionState). s.stopped) c.self.view_is ∙ c.requires.goes_on) c.self.invariant in
    room_for_one d c.self.inside.engine c.definition-definition.ensures.accepted kept.2

pub invariant_of-self : goal.invariant_of-self
invariant_of-self g c =
    let d = c.self.inside.verified in
    let same = c.definition-definition.ensures.same in
    let kept = kept_at_rest d c.self.inside.engine c.self.inside.phase (ap (λ (s : SessionState). s.stopped) c.self.view_is ∙ c.requires.goes_on) c.self.invariant in
    let rests = subst (λ (x : Definition). IsAtRest x c.self.inside.engine) (sym same) kept.0 in (
      subst (λ (x : Definition). Counts x nothing c.begin_dispatch.new.engine) same (c.begin_dispatch.ensures.counted.at nothing rests.counts),
      room_on d c.self.inside.engine c.begin_dispatch.new.engine c.begin_dispatch.ensures.room kept.2,
    )

pub returns-then-names_released-clause-begins : goal.returns-then-names_released-clause-begins
returns-then-names_released-clause-begins g c =
    let may = g.P.Peers.relations c.args.pool.now in
    let pool = g.P.Peers.seen c.args.pool.now in
    let r = request_of c.args.request in
    let d = c.self.inside.verified in
    subst (λ (s : SessionState). BeginsBy may (refusal s.world (config.request r)) (Err faults.Released) pool s (config.request r) s) c.self.view_is
    (begin_released may pool (session_at d c.self.inside.engine c.self.inside.phase) r (sym c.names_released.ensures ∙ c.if-names_released.true))

pub returns-clause-begins : goal.returns-clause-begins
returns-clause-begins g c =
    let may = g.P.Peers.relations c.args.pool.now in
    let pool = g.P.Peers.seen c.args.pool.now in
    let d = c.self.inside.verified in
    let e = c.definition-definition.result.now in
    let same = c.definition-definition.ensures.same in
    let from = c.types-types.ensures.denoted in
    let engine = c.self.inside.engine in
    let w = world_of engine.world in
    let kept = kept_at_rest d engine c.self.inside.phase (ap (λ (s : SessionState). s.stopped) c.self.view_is ∙ c.requires.goes_on) c.self.invariant in
    let knows = knows_inside pool c.self.view_is c.requires.knows in
    let r = request_of c.args.request in
    let read = subst (λ (s : SessionState). RequestRead s.definition r) (sym c.self.view_is) c.requires.read in
    let none = goes_where_none w r (sym c.if-names_released.ensures) in
    let begins = request_may_begin d e same from pool w knows kept.1 r read none in
    subst (λ (s : SessionState). BeginsBy may (refusal s.world (config.request r)) (Ok (progress.UnderWay (record { left = None; so_far = c.none-so_far.result; asked = c.kind_of_request-asked.result }))) pool s (config.request r) (session_at d c.begin_dispatch.new.engine phases.UnderWay)) c.self.view_is
    (begin_goes may pool (session_at d engine c.self.inside.phase) (config.request r) none _ (session_at d c.begin_dispatch.new.engine phases.UnderWay)
    (request_so_far may d e same pool engine c.begin_dispatch.new.engine knows c.kind_of_request-asked.result r begins c.begin_dispatch.ensures.ok c.none-so_far.result c.none-so_far.ensures))

pub returns-clause-keeps : goal.returns-clause-keeps
returns-clause-keeps g c =
    let pool = g.P.Peers.seen c.args.pool.now in
    let d = c.self.inside.verified in
    let kept = kept_at_rest d c.self.inside.engine c.self.inside.phase (ap (λ (s : SessionState). s.stopped) c.self.view_is ∙ c.requires.goes_on) c.self.invariant in
    let knows = knows_inside pool c.self.view_is c.requires.knows in
    let r = request_of c.args.request in
    let read = subst (λ (s : SessionState). RequestRead s.definition r) (sym c.self.view_is) c.requires.read in
    kept_as pool (config.request r) c.self.view_is (request_kept d c.definition-definition.result.now c.definition-definition.ensures.same c.types-types.ensures.denoted pool (world_of c.self.inside.engine.world) knows kept.1 r read)
