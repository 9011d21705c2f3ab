use Rattle.std.proofs.Common.{length, take, ◌-◌, ◌+◌, ◌≡◌, ◌≤◌, ◌<◌, false}
use Rattle.std.specs.Io.KnownBytes.{Appends}
use Rattle.event_lines.proofs.output.write_all.Given as goal

abbrev pub invariant-loop-done : goal.invariant-loop-done
invariant-loop-done g l = record {
  within : l.done ≤ length l.bytes;
  appends : Appends (g.W.Writer.sent l.fn.writer).bytes (g.W.Writer.sent l.writer).bytes (take l.done l.bytes);
  once : (g.W.Writer.sent l.writer).writes ≤ (g.W.Writer.sent l.fn.writer).writes + 1;
  partly : l.done < length l.bytes → (g.W.Writer.sent l.writer).writes ≡ (g.W.Writer.sent l.fn.writer).writes;
  works : g.W.Writer.failed l.writer ≡ false;
}

abbrev pub decreases-loop-done : goal.decreases-loop-done
decreases-loop-done g l = length l.bytes - l.done
