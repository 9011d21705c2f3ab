use Rattle.std.proofs.Common.{arith, length-take, length-drop}
use Rattle.event_lines.proofs.Pieces.{passes_on, tears_before}
use Rattle.event_lines.proofs.output_buffer.Gather.put.Goals as goal

pub returns-in_default-clause-puts : goal.returns-in_default-clause-puts
returns-in_default-clause-puts g c = tears_before _ _ _ _ _ c.args.bytes.now c.loop-done.done c.loop-done.invariant.passes c.in_default.ensures.puts

pub loop-done-preserved : goal.loop-done-preserved
loop-done-preserved g c = record {
  within = omega (arith, simp (length-take, length-drop) at c.in-Ok.ensures.bound.1);
  passes = passes_on _ _ _ _ _ _ c.args.bytes.now c.loop-done.done c.in-Ok.count c.loop-done.invariant.passes c.in-Ok.ensures.puts;
  works = c.in-Ok.ensures.marks;
}
