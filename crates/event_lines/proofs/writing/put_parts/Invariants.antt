use Rattle.std.proofs.Common.{take, ◌≡◌, false}
use Rattle.std.specs.Prelude.{flat_map}
use Rattle.event_lines.specs.Writing.{Passes}
use Rattle.event_lines.proofs.writing.put_parts.Given as goal

abbrev pub invariant-loop-part : goal.invariant-loop-part
invariant-loop-part g l = record {
  passes : Passes (g.W.Writer.sent l.fn.writer) l.fn.gather (g.W.Writer.sent l.writer) l.gather (flat_map (λ part. part.now) (take l.part-index l.parts));
  works : g.W.Writer.failed l.writer ≡ false;
}
