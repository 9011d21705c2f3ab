use Rattle.std.proofs.Common.{◌≡◌, ◌+◌, ℕ, Option, refl, sym, ap, subst, arith, ◌∙◌, vec_capacity}
use Rattle.std.proofs.lemmas.Result.{err_from_is_err_and}
use Rattle.ui_machine.proofs.Prefixes.{prefix_on, prefix_same}
use Rattle.engine_world.specs.EngineView.{config_of}
use Rattle.engine_world.specs.View.{world_of}
use Rattle.engine_world.specs.declared.engine.Engine.{Engine}
use Rattle.engine_dispatches.specs.declared.courses.Course.{Course}
use Rattle.engine_dispatches.specs.declared.dispatches.Reply.{Reply}
use Rattle.engine_dispatches.specs.Courses.{sources_left, steps_left}
use Rattle.engine_dispatches.specs.PoolView.{world_at}
use Rattle.engine_dispatches.specs.Promises.{Rests}
use Rattle.engine_dispatches.proofs.Answers.{answers_as, asked_on, ended_with}
use Rattle.engine_dispatches.proofs.Points.{breaks_before, cut_off, follows_before, same_here, same_on, safe_in}
use Rattle.engine_dispatches.proofs.StepProofs.{ran_as}
use Rattle.engine_dispatches.proofs.UnderWay.{ended_knows, ended_on, ended_rests, ends_longer, if_ended, if_under_way, next_fewer, next_steps, proceeds_as, under_way_breaks, under_way_on, under_way_safe}
use Rattle.engine_dispatches.proofs.courses.advance.Goals as goal

pub dispatches-init : goal.dispatches-init
dispatches-init g c = record {
  so = λ event w front u. u;
  same = same_here _;
  counts = c.requires.counted;
  room = refl;
  grows = prefix_same (world_of c.args.engine.now.world).transcript;
  asked = refl;
  made = refl;
}

pub run_for-requires-clause-safe : goal.run_for-requires-clause-safe
run_for-requires-clause-safe g c =
    let r = c.requires.goes_on in
    safe_in c.args.definition.now c.dispatches.invariant.room
    (under_way_safe c.args.definition.now _ r.event r.from r.front c.dispatches.course _ (c.dispatches.invariant.so r.event r.from r.front r.under_way) (vec_capacity c.args.engine.now.stack.tasks) c.requires.roomy c.requires.well c.requires.accepted)

pub begin_next-requires-clause-room : goal.begin_next-requires-clause-room
begin_next-requires-clause-room g c =
    let enough = c.requires.roomy c.requires.accepted in
    let same = c.end_dispatch.ensures.room ∙ c.run_for.ensures.room ∙ c.dispatches.invariant.room in
    omega (arith, enough, same)

pub returns-in_err-rest-clause-proceeds : goal.returns-in_err-rest-clause-proceeds
returns-in_err-rest-clause-proceeds g c event w front u =
    let d = c.args.definition.now in
    let p = err_from_is_err_and c.from_residual.result c.from_residual.ensures.1 in
    rw p.1
    (under_way_breaks d _ event w front c.dispatches.course _ (c.dispatches.invariant.so event w front u) _ _ (breaks_before d c.dispatches.invariant.same c.in_err-rest.ensures.ran))

pub returns-in_err-rest-clause-same : goal.returns-in_err-rest-clause-same
returns-in_err-rest-clause-same g c = same_on c.dispatches.invariant.same c.run_for.ensures.same

pub returns-in-None-clause-proceeds : goal.returns-in-None-clause-proceeds
returns-in-None-clause-proceeds g c event w front u =
    let d = c.args.definition.now in
    let now = c.dispatches.invariant.so event w front u in
    under_way_on d _ event w front c.dispatches.course _ now _ (follows_before d c.dispatches.invariant.same (ran_as d _ _ _ c.in-None.is c.in_ok-rest.ensures.ran)) (c.in_ok-rest.ensures.few now.counted)

pub returns-in-None-clause-same : goal.returns-in-None-clause-same
returns-in-None-clause-same g c = same_on c.dispatches.invariant.same c.run_for.ensures.same

pub returns-in_err-one-clause-proceeds : goal.returns-in_err-one-clause-proceeds
returns-in_err-one-clause-proceeds g c event w front u =
    let d = c.args.definition.now in
    let p = err_from_is_err_and c.from_residual-in_err-one.result c.from_residual-in_err-one.ensures.1 in
    let now = c.dispatches.invariant.so event w front u in
    let ran = ran_as d _ _ _ c.in-Some.is c.in_ok-rest.ensures.ran in
    let later = under_way_on d _ event w front c.dispatches.course _ now _ (follows_before d c.dispatches.invariant.same ran.0) (c.in_ok-rest.ensures.few now.counted) in
    rw p.1 (under_way_breaks d _ event w front c.dispatches.course _ later _ _ (cut_off d _ _ _ (world_of c.end_dispatch.new.engine.world) refl c.in_err-one.ensures.quiet))

pub returns-in_err-one-clause-same : goal.returns-in_err-one-clause-same
returns-in_err-one-clause-same g c = same_on c.dispatches.invariant.same c.run_for.ensures.same

pub after-requires-clause-few : goal.after-requires-clause-few
after-requires-clause-few g c =
    let r = c.requires.goes_on in
    let now = c.dispatches.invariant.so r.event r.from r.front r.under_way in
    omega (arith, now.dispatches)

pub after-requires-clause-steps : goal.after-requires-clause-steps
after-requires-clause-steps g c =
    let r = c.requires.goes_on in
    let now = c.dispatches.invariant.so r.event r.from r.front r.under_way in
    omega (arith, now.dispatches, now.steps, c.in_ok-rest.ensures.few now.counted, c.in_ok-one.ensures.says.steps)

pub dispatches-smaller : goal.dispatches-smaller
dispatches-smaller g c =
    next_fewer c.dispatches.course c.after.result (world_of c.end_dispatch.new.engine.world) (config_of c.args.definition.now c.begin_next.new.engine) c.in-UnderWay.is
    (ap (λ (x : Course). sources_left x.left) c.after.ensures) c.begin_next.ensures.begins

pub dispatches-preserved : goal.dispatches-preserved
dispatches-preserved g c =
    let d = c.args.definition.now in
    let ran = ran_as d _ _ _ c.in-Some.is c.in_ok-rest.ensures.ran in
    let steps = next_steps c.after.result (world_of c.end_dispatch.new.engine.world) (config_of d c.begin_next.new.engine) c.in-UnderWay.is c.begin_next.ensures.begins in
    let sum : c.after.result.so_far.steps ≡ c.dispatches.course.so_far.steps + c.in_ok-one.one.steps = ap (λ (x : Course). x.so_far.steps) c.after.ensures in
    let rest : steps_left c.in_ok-rest.field-0 ≡ c.in-Some.rest = ap (λ (o : Option ℕ). steps_left o) c.in-Some.is in
    record {
      so = λ event w front u.
          let now = c.dispatches.invariant.so event w front u in
          let later = under_way_on d _ event w front c.dispatches.course _ now _ (follows_before d c.dispatches.invariant.same ran.0) (c.in_ok-rest.ensures.few now.counted) in
          proceeds_as d _ event w front _ c.in-UnderWay.is
          (ended_on d _ event w front c.dispatches.course _ later ran.1 c.in_ok-one.one c.end_dispatch.new.engine c.in_ok-one.ensures.says c.after.result c.after.ensures c.begin_next.result c.begin_next.new.engine
          c.begin_next.ensures.still c.begin_next.ensures.begins);
      same = same_on c.dispatches.invariant.same c.run_for.ensures.same;
      room = c.begin_next.ensures.room ∙ c.end_dispatch.ensures.room ∙ c.run_for.ensures.room ∙ c.dispatches.invariant.room;
      counts = if_under_way c.in-UnderWay.is c.begin_next.ensures.counted;
      grows = prefix_on c.dispatches.invariant.grows (prefix_on c.run_for.ensures.grows (prefix_on
          (ends_longer d c.in_ok-one.one (config_of d c.run_for.new.engine) (world_of c.end_dispatch.new.engine.world) c.in_ok-one.ensures.says) c.begin_next.ensures.grows));
      asked = asked_on c.in-UnderWay.is c.begin_next.ensures.asked ∙ ap (λ (x : Course). x.asked) c.after.ensures ∙ c.dispatches.invariant.asked;
      made = omega (arith, c.dispatches.invariant.made, c.in_ok-rest.ensures.made, rest, steps.0, steps.1, sum, c.in_ok-one.ensures.says.steps);
    }

pub returns-in-Ended-clause-knows : goal.returns-in-Ended-clause-knows
returns-in-Ended-clause-knows g c =
    let d = c.args.definition.now in
    let r = c.requires.goes_on in
    let now = c.dispatches.invariant.so r.event r.from r.front r.under_way in
    let ran = ran_as d _ _ _ c.in-Some.is c.in_ok-rest.ensures.ran in
    let later = under_way_on d _ r.event r.from r.front c.dispatches.course _ now _ (follows_before d c.dispatches.invariant.same ran.0) (c.in_ok-rest.ensures.few now.counted) in
    let still = if_ended c.in-Ended.is c.begin_next.ensures.still in
    rw still (ended_knows d _ r.event r.from r.front c.dispatches.course _ later ran.1 c.in_ok-one.one c.end_dispatch.new.engine c.in_ok-one.ensures.says c.after.result c.after.ensures)

pub returns-in-Ended-clause-resting : goal.returns-in-Ended-clause-resting
returns-in-Ended-clause-resting g c =
    let d = c.args.definition.now in
    let r = c.requires.goes_on in
    let now = c.dispatches.invariant.so r.event r.from r.front r.under_way in
    let ran = ran_as d _ _ _ c.in-Some.is c.in_ok-rest.ensures.ran in
    let later = under_way_on d _ r.event r.from r.front c.dispatches.course _ now _ (follows_before d c.dispatches.invariant.same ran.0) (c.in_ok-rest.ensures.few now.counted) in
    let still = if_ended c.in-Ended.is c.begin_next.ensures.still in
    let rests = ended_rests d _ r.event r.from r.front c.dispatches.course _ later ran.1 c.in_ok-one.one c.end_dispatch.new.engine c.in_ok-one.ensures.says c.after.result c.after.ensures c.requires.well in
    subst (λ (e : Engine). Rests d (world_at (g.P.Peers.seen c.run_for.new.pool) (world_of e.world))) (sym still) rests

pub returns-in-Ended-clause-proceeds : goal.returns-in-Ended-clause-proceeds
returns-in-Ended-clause-proceeds g c event w front u =
    let d = c.args.definition.now in
    let now = c.dispatches.invariant.so event w front u in
    let ran = ran_as d _ _ _ c.in-Some.is c.in_ok-rest.ensures.ran in
    let later = under_way_on d _ event w front c.dispatches.course _ now _ (follows_before d c.dispatches.invariant.same ran.0) (c.in_ok-rest.ensures.few now.counted) in
    proceeds_as d _ event w front _ c.in-Ended.is
    (ended_on d _ event w front c.dispatches.course _ later ran.1 c.in_ok-one.one c.end_dispatch.new.engine c.in_ok-one.ensures.says c.after.result c.after.ensures c.begin_next.result c.begin_next.new.engine
    c.begin_next.ensures.still c.begin_next.ensures.begins)

pub returns-in-Ended-clause-same : goal.returns-in-Ended-clause-same
returns-in-Ended-clause-same g c = same_on c.dispatches.invariant.same c.run_for.ensures.same

pub returns-in-Ended-clause-kind : goal.returns-in-Ended-clause-kind
returns-in-Ended-clause-kind g c =
    answers_as c.dispatches.invariant.asked
    (ap (λ (x : Reply). x.result) (ended_with c.in-Ended.is _ _ _ c.begin_next.ensures.begins) ∙ ap (λ (x : Course). x.so_far.result) c.after.ensures) c.in_ok-one.ensures.kind
