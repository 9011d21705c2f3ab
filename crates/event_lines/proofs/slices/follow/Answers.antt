use Rattle.std.proofs.Common.{◌<◌, Ok, Err, refl, ap, sym, subst, arith}
use Rattle.std.proofs.lemmas.Result.{err_from_is_err_and}
use Rattle.engine_dispatches.specs.declared.courses.Progress.{Progress}
use Rattle.engine_dispatches.specs.declared.courses.Progress.TheVariants as progress
use Rattle.engine_dispatches.proofs.Points.{same_here, same_on}
use Rattle.ui_engine.specs.SessionView.{SessionState}
use Rattle.event_lines.specs.Slices.{most_left}
use Rattle.event_lines.proofs.SliceLemmas.{comes_to, far_as, far_begins, far_ended, far_on, far_said, far_stopped, far_torn, fewer_steps, has_course}
use Rattle.event_lines.proofs.slices.follow.Goals as goal

pub slices-init : goal.slices-init
slices-init g c = record {
  so = λ event w comes. far_begins _ _ event w _ _ _ c.args.begun c.args.known _ c.args.session.now.core refl comes;
  known = c.requires.known;
  works = c.requires.works;
  same = same_here _;
}

pub returns-in_err-put_new-clause-follows : goal.returns-in_err-put_new-clause-follows
returns-in_err-put_new-clause-follows g c event w comes =
    let p = err_from_is_err_and c.from_residual.result c.from_residual.ensures.1 in
    rw (p.1, c.put_new.ensures.pool)
    (far_torn _ _ event w _ _ _ c.slices.progress c.slices.known _ _ _ _ _ c.slices.session.core c.put_new.new.session.core c.args.number p.0 (c.slices.invariant.so event w comes) c.in_err-put_new.ensures.puts c.put_new.ensures.forgets)

pub returns-in_err-put_new-clause-same : goal.returns-in_err-put_new-clause-same
returns-in_err-put_new-clause-same g c = rw c.put_new.ensures.pool c.slices.invariant.same

pub returns-in-Ended-clause-same : goal.returns-in-Ended-clause-same
returns-in-Ended-clause-same g c = rw c.put_new.ensures.pool c.slices.invariant.same

pub returns-in-Ended-clause-follows : goal.returns-in-Ended-clause-follows
returns-in-Ended-clause-follows g c event w comes =
    let said = far_said _ _ event w _ _ _ c.slices.progress c.slices.known _ _ _ _ _ c.slices.session.core c.put_new.new.session.core (c.slices.invariant.so event w comes) c.in_ok-put_new.ensures.puts c.put_new.ensures.forgets in
    let empty = ap (λ (s : SessionState). s.world.transcript) c.put_new.ensures.forgets in
    rw c.put_new.ensures.pool
    (far_ended _ _ event w _ _ _ _ _ _ c.put_new.new.session.core empty c.in-Ended.field-0 c.args.number (far_as _ _ event w _ _ _ 0 _ _ _ c.put_new.new.session.core c.in-Ended.is said))

pub advance-requires : goal.advance-requires
advance-requires g c =
    let r = c.requires.begun in
    let said = far_said _ _ r.event r.from _ _ _ c.slices.progress c.slices.known _ _ _ _ _ c.slices.session.core c.put_new.new.session.core (c.slices.invariant.so r.event r.from r.so_far) c.in_ok-put_new.ensures.puts c.put_new.ensures.forgets in
    let far = far_as _ _ r.event r.from _ _ _ 0 _ _ _ c.put_new.new.session.core c.in-UnderWay.is said in
    record { in_course = rw c.put_new.ensures.pool (has_course _ _ r.event r.from _ _ _ _ c.slices.invariant.same c.in-UnderWay.course _ _ _ c.put_new.new.session.core far) }

pub slices-smaller : goal.slices-smaller
slices-smaller g c =
    let r = c.requires.begun in
    let said = far_said _ _ r.event r.from _ _ _ c.slices.progress c.slices.known _ _ _ _ _ c.slices.session.core c.put_new.new.session.core (c.slices.invariant.so r.event r.from r.so_far) c.in_ok-put_new.ensures.puts c.put_new.ensures.forgets in
    let far = far_as _ _ r.event r.from _ _ _ 0 _ _ _ c.put_new.new.session.core c.in-UnderWay.is said in
    let comes = comes_to _ _ r.event r.from _ _ _ _ c.slices.invariant.same c.in-UnderWay.course _ _ _ c.put_new.new.session.core far _ c.advance.new.self.core (Ok c.in-Ok.next)
    (rw c.put_new.ensures.pool at c.in-Ok.ensures.comes) in
    let fewer = fewer_steps _ _ r.event r.from _ _ _ _ c.slices.invariant.same c.in-UnderWay.course _ _ _ c.put_new.new.session.core far _ c.advance.new.self.core c.in-Ok.next comes c.in-Ok.ensures.made in
    let counted = ap (λ (s : SessionState). s.counted) c.put_new.ensures.forgets in
    subst (λ (p : Progress). most_left c.in-Ok.next c.advance.new.self.core.counted < most_left p c.slices.session.core.counted) (sym c.in-UnderWay.is)
    (subst (λ n. most_left c.in-Ok.next c.advance.new.self.core.counted < most_left (progress.UnderWay c.in-UnderWay.course) n) counted fewer)

pub slices-preserved : goal.slices-preserved
slices-preserved g c = record {
  so = λ event w comes.
      let said = far_said _ _ event w _ _ _ c.slices.progress c.slices.known _ _ _ _ _ c.slices.session.core c.put_new.new.session.core (c.slices.invariant.so event w comes) c.in_ok-put_new.ensures.puts c.put_new.ensures.forgets in
      let far = far_as _ _ event w _ _ _ 0 _ _ _ c.put_new.new.session.core c.in-UnderWay.is said in
      let on = comes_to _ _ event w _ _ _ _ c.slices.invariant.same c.in-UnderWay.course _ _ _ c.put_new.new.session.core far _ c.advance.new.self.core (Ok c.in-Ok.next)
      (rw c.put_new.ensures.pool at c.in-Ok.ensures.comes) in
      let empty = ap (λ (s : SessionState). s.world.transcript) c.put_new.ensures.forgets in
      far_on _ _ event w _ _ _ _ _ _ c.put_new.new.session.core empty (progress.UnderWay c.in-UnderWay.course) c.in-Ok.next _ c.advance.new.self.core far on;
  known = omega arith;
  works = c.in_ok-put_new.ensures.marks;
  same = same_on c.slices.invariant.same (rw c.put_new.ensures.pool at c.in-Ok.ensures.same);
}

pub returns-in-Err-clause-follows : goal.returns-in-Err-clause-follows
returns-in-Err-clause-follows g c event w comes =
    let said = far_said _ _ event w _ _ _ c.slices.progress c.slices.known _ _ _ _ _ c.slices.session.core c.put_new.new.session.core (c.slices.invariant.so event w comes) c.in_ok-put_new.ensures.puts c.put_new.ensures.forgets in
    let far = far_as _ _ event w _ _ _ 0 _ _ _ c.put_new.new.session.core c.in-UnderWay.is said in
    let on = comes_to _ _ event w _ _ _ _ c.slices.invariant.same c.in-UnderWay.course _ _ _ c.put_new.new.session.core far _ c.advance.new.self.core (Err c.in-Err.field-0)
    (rw c.put_new.ensures.pool at c.in-Err.ensures.comes) in
    let empty = ap (λ (s : SessionState). s.world.transcript) c.put_new.ensures.forgets in
    rw c.stop.ensures.pool
    (far_stopped _ _ event w _ _ _ _ _ _ c.put_new.new.session.core empty (progress.UnderWay c.in-UnderWay.course) c.in-Err.field-0 c.args.number c.stop.result _ c.advance.new.self.core c.stop.new.session.core _ _ far on
    c.stop.ensures.puts c.stop.ensures.forgets c.stop.ensures.is)

pub returns-in-Err-clause-same : goal.returns-in-Err-clause-same
returns-in-Err-clause-same g c = rw c.stop.ensures.pool (same_on c.slices.invariant.same (rw c.put_new.ensures.pool at c.in-Err.ensures.same))
