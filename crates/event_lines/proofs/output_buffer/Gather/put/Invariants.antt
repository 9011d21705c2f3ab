use Rattle.std.proofs.Common.{length, take, ◌-◌, ◌≡◌, ◌≤◌, false}
use Rattle.event_lines.specs.Writing.{Passes}
use Rattle.event_lines.proofs.output_buffer.Gather.put.Given as goal

abbrev pub invariant-loop-done : goal.invariant-loop-done
invariant-loop-done g l = record {
  within : l.done ≤ length l.bytes;
  passes : Passes (g.W.Writer.sent l.fn.writer) l.fn.self (g.W.Writer.sent l.writer) l.self (take l.done l.bytes);
  works : g.W.Writer.failed l.writer ≡ false;
}

abbrev pub decreases-loop-done : goal.decreases-loop-done
decreases-loop-done g l = length l.bytes - l.done
