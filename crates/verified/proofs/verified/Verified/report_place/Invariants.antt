use Rattle.std.proofs.Common.{◌≡◌, ◌<◌, ℕ, false, length, take}
use Rattle.std.specs.Io.KnownBytes.{Appends}
use Rattle.law_typing.specs.Graph.Channels.{channels_at}
use Rattle.law_typing.specs.Verdict.Accepted.{Accepted}
use Rattle.verify_graph.specs.ChannelView.{channels_of}
use Rattle.verified.specs.Lines.{place_lines}
use Rattle.verified.specs.Writing.{lines_text}
use Rattle.verified.proofs.verified.Verified.report_place.Given as goal

abbrev pub invariant-loop-number : goal.invariant-loop-number
invariant-loop-number g l = record {
  came : (place : ℕ) (a : Accepted l.self) → place < length l.self.places → channels_of l.channels ≡ channels_at l.self place →
      Appends (g.W.Sink.taken l.fn.writer) (g.W.Sink.taken l.writer) (lines_text (take l.number (place_lines l.self a place)));
  works : g.W.Sink.failed l.writer ≡ false;
}
