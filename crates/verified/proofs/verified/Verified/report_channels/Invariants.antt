use Rattle.std.proofs.Common.{◌≡◌, false}
use Rattle.std.specs.Io.KnownBytes.{Appends}
use Rattle.law_typing.specs.Verdict.Accepted.{Accepted}
use Rattle.verified.specs.Writing.{lines_text}
use Rattle.verified.proofs.ReportLines.{first_places}
use Rattle.verified.proofs.verified.Verified.report_channels.Given as goal

abbrev pub invariant-loop-place : goal.invariant-loop-place
invariant-loop-place g l = record {
  came : (a : Accepted l.self) → Appends (g.W.Sink.taken l.fn.writer) (g.W.Sink.taken l.writer) (lines_text (first_places l.self a l.place));
  works : g.W.Sink.failed l.writer ≡ false;
}
