use Rattle.std.proofs.Common.{length, take, ◌-◌, ◌≡◌, ◌≤◌, false}
use Rattle.std.specs.Io.KnownBytes.{Appends}
use Rattle.verified.proofs.writing.write_all.Given as goal

abbrev pub invariant-loop-done : goal.invariant-loop-done
invariant-loop-done g l = record {
  within : l.done ≤ length l.bytes;
  appends : Appends (g.W.Sink.taken l.fn.writer) (g.W.Sink.taken l.writer) (take l.done l.bytes);
  works : g.W.Sink.failed l.writer ≡ false;
}

abbrev pub decreases-loop-done : goal.decreases-loop-done
decreases-loop-done g l = length l.bytes - l.done
