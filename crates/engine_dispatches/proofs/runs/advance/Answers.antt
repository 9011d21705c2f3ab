use Rattle.std.proofs.Common.{refl, ◌∙◌}
use Rattle.std.proofs.lemmas.Result.{err_from_is_err_and}
use Rattle.ui_machine.proofs.Prefixes.{prefix_on, prefix_same}
use Rattle.engine_world.specs.View.{world_of}
use Rattle.engine_dispatches.proofs.Points.{breaks_before, breaks_on, follows_before, follows_here, follows_on, safe_in, safe_on, same_here, same_on}
use Rattle.engine_dispatches.proofs.StepProofs.{counts_so, nothing_left, stepped_as}
use Rattle.engine_dispatches.proofs.runs.advance.Goals as goal

pub loop-init : goal.loop-init
loop-init g c = record { follows = follows_here c.args.definition.now _ _; safe = c.requires.safe; room = refl; same = same_here _; counts = c.requires.counted; grows = prefix_same (world_of c.args.engine.now.world).transcript; counted = refl }

pub loop-preserved : goal.loop-preserved
loop-preserved g c =
    let d = c.args.definition.now in
    let s = stepped_as d _ _ _ c.in-Uncounted.is c.in_ok-step.ensures.stepped in
    record {
      follows = follows_on d c.loop.invariant.follows (follows_before d c.loop.invariant.same s.0);
      safe = safe_in d c.step.ensures.room (safe_on d c.loop.invariant.safe s.0);
      room = c.step.ensures.room ∙ c.loop.invariant.room;
      same = same_on c.loop.invariant.same c.step.ensures.same;
      counts = c.in_ok-step.ensures.counted;
      grows = prefix_on c.loop.invariant.grows c.step.ensures.grows;
      counted = s.2 ∙ c.loop.invariant.counted;
    }

pub returns-in-Counted-clause-advanced : goal.returns-in-Counted-clause-advanced
returns-in-Counted-clause-advanced g c =
    let d = c.args.definition.now in
    let s = stepped_as d _ _ _ c.in-Counted.is c.in_ok-step.ensures.stepped in
    let counts = counts_so c.loop.invariant.counted (s.1, s.2) in
    (follows_on d c.loop.invariant.follows (follows_before d c.loop.invariant.same s.0), counts.0, counts.1)

pub returns-in_err-step-clause-advanced : goal.returns-in_err-step-clause-advanced
returns-in_err-step-clause-advanced g c =
    let d = c.args.definition.now in
    let r = err_from_is_err_and c.from_residual.result c.from_residual.ensures.1 in
    rw r.1 (breaks_on d c.loop.invariant.follows (breaks_before d c.loop.invariant.same c.in_err-step.ensures.stepped))

pub returns-in_err-step-clause-same : goal.returns-in_err-step-clause-same
returns-in_err-step-clause-same g c = same_on c.loop.invariant.same c.step.ensures.same

pub returns-in-Nothing-clause-same : goal.returns-in-Nothing-clause-same
returns-in-Nothing-clause-same g c = same_on c.loop.invariant.same c.step.ensures.same

pub returns-in-Counted-clause-same : goal.returns-in-Counted-clause-same
returns-in-Counted-clause-same g c = same_on c.loop.invariant.same c.step.ensures.same

pub returns-in-Nothing-clause-advanced : goal.returns-in-Nothing-clause-advanced
returns-in-Nothing-clause-advanced g c =
    let d = c.args.definition.now in
    let s = stepped_as d _ _ _ c.in-Nothing.is c.in_ok-step.ensures.stepped in
    let f = c.loop.invariant.follows in
    nothing_left d s f c.loop.invariant.counted
