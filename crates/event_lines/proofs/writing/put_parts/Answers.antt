use Rattle.std.proofs.Common.{refl, []}
use Rattle.event_lines.proofs.Pieces.{tears_in, passes_in}
use Rattle.event_lines.proofs.writing.put_parts.Goals as goal

pub returns-in_default-clause-puts : goal.returns-in_default-clause-puts
returns-in_default-clause-puts g c =
    tears_in (λ part. part.now) c.args.parts.now c.loop-part.part-index _ (record { ref_ptr = (0, 0); now = [] }) c.loop-part-test.true refl
    c.loop-part.invariant.passes c.in_default.ensures.puts

pub loop-part-preserved : goal.loop-part-preserved
loop-part-preserved g c = record {
  passes = passes_in (λ part. part.now) c.args.parts.now c.loop-part.part-index _ (record { ref_ptr = (0, 0); now = [] }) c.loop-part-test.true refl
      c.loop-part.invariant.passes c.in-Ok.ensures.puts;
  works = c.in-Ok.ensures.marks;
}
