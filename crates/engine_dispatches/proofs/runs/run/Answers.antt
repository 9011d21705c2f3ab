use Rattle.std.proofs.Common.{refl, ◌∙◌}
use Rattle.std.proofs.lemmas.Result.{err_from_is_err_and}
use Rattle.ui_machine.proofs.Prefixes.{prefix_on, prefix_same}
use Rattle.engine_world.specs.View.{world_of}
use Rattle.engine_dispatches.proofs.Points.{breaks_before, breaks_on, follows_before, follows_here, follows_on, safe_in, safe_on, same_here, same_on}
use Rattle.engine_dispatches.proofs.StepProofs.{advanced_as}
use Rattle.engine_dispatches.proofs.runs.run.Goals as goal

pub loop-init : goal.loop-init
loop-init g c = record { follows = follows_here c.args.definition.now _ _; safe = c.requires.safe; room = refl; same = same_here _; counts = c.requires.counted; grows = prefix_same (world_of c.args.engine.now.world).transcript; few = λ h. h }

pub returns-in_err-advance-clause-ran : goal.returns-in_err-advance-clause-ran
returns-in_err-advance-clause-ran g c =
    let d = c.args.definition.now in
    let r = err_from_is_err_and c.from_residual.result c.from_residual.ensures.1 in
    rw r.1 (breaks_on d c.loop.invariant.follows (breaks_before d c.loop.invariant.same c.in_err-advance.ensures.advanced))

pub returns-in_err-advance-clause-same : goal.returns-in_err-advance-clause-same
returns-in_err-advance-clause-same g c = same_on c.loop.invariant.same c.advance.ensures.same

pub returns-then-not-branch-clause-ran : goal.returns-then-not-branch-clause-ran
returns-then-not-branch-clause-ran g c =
    let d = c.args.definition.now in
    let a = advanced_as d _ _ _ c.if-not-branch.true c.in_ok-advance.ensures.advanced in
    (follows_on d c.loop.invariant.follows (follows_before d c.loop.invariant.same a.0), a.1)

pub returns-then-not-branch-clause-same : goal.returns-then-not-branch-clause-same
returns-then-not-branch-clause-same g c = same_on c.loop.invariant.same c.advance.ensures.same

pub loop-preserved : goal.loop-preserved
loop-preserved g c =
    let d = c.args.definition.now in
    let a = advanced_as d _ _ _ c.if-not-branch.false c.in_ok-advance.ensures.advanced in
    record {
      follows = follows_on d c.loop.invariant.follows (follows_before d c.loop.invariant.same a.0);
      safe = safe_in d c.advance.ensures.room (safe_on d c.loop.invariant.safe a.0);
      room = c.advance.ensures.room ∙ c.loop.invariant.room;
      same = same_on c.loop.invariant.same c.advance.ensures.same;
      counts = c.in_ok-advance.ensures.counted;
      grows = prefix_on c.loop.invariant.grows c.advance.ensures.grows;
      few = λ h. c.in_ok-advance.ensures.few (c.loop.invariant.few h);
    }
