use Rattle.std.proofs.Common.{arith, length-take, length-drop}
use Rattle.verified.proofs.Pieces.{goes_on, stops_before}
use Rattle.verified.proofs.writing.write_all.Goals as goal

pub returns-in_default-clause-writes : goal.returns-in_default-clause-writes
returns-in_default-clause-writes g c =
    stops_before _ _ _ c.loop-done.done c.args.bytes.now c.loop-done.invariant.appends c.in_default.ensures.bytes

pub loop-done-preserved : goal.loop-done-preserved
loop-done-preserved g c =
    let bound = simp (length-take, length-drop) at c.in-Ok.ensures.bound in
    record {
      within = omega (arith, bound);
      appends = goes_on _ _ _ c.args.bytes.now c.loop-done.done c.in-Ok.count c.loop-done.invariant.appends c.in-Ok.ensures.bytes;
      works = c.in-Ok.ensures.marks;
    }
