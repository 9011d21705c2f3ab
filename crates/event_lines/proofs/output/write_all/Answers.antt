use Rattle.std.proofs.Common.{arith, length-take, length-drop}
use Rattle.event_lines.proofs.Pieces.{stops_before, goes_on, writes_once, writes_not}
use Rattle.event_lines.proofs.output.write_all.Goals as goal

pub returns-in_default-clause-writes : goal.returns-in_default-clause-writes
returns-in_default-clause-writes g c = stops_before _ _ _ c.loop-done.done c.args.bytes.now c.loop-done.invariant.appends c.in_default.ensures.bytes

pub returns-in_default-clause-once : goal.returns-in_default-clause-once
returns-in_default-clause-once g c = omega (arith, c.in_default.ensures.counts, c.loop-done.invariant.partly c.loop-done-test.true)

pub loop-done-preserved : goal.loop-done-preserved
loop-done-preserved g c =
    let same = c.loop-done.invariant.partly c.loop-done-test.true in
    let bound = simp (length-take, length-drop) at c.in-Ok.ensures.bound in
    record {
      within = omega (arith, bound);
      appends = goes_on _ _ _ c.args.bytes.now c.loop-done.done c.in-Ok.count c.loop-done.invariant.appends c.in-Ok.ensures.bytes;
      once = writes_once _ _ _ _ _ c.in-Ok.ensures.counts same;
      partly = λ lt. writes_not _ _ _ _ _ c.in-Ok.ensures.counts same (simp (length-take, length-drop) (omega (arith, lt)));
      works = c.in-Ok.ensures.marks;
    }
