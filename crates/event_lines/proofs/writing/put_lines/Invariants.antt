use Rattle.std.proofs.Common.{take, ◌≡◌, map, false}
use Rattle.std.specs.Prelude.{string_bytes}
use Rattle.event_lines.specs.Writing.{Passes}
use Rattle.event_lines.specs.Texts.{lines_text}
use Rattle.event_lines.proofs.writing.put_lines.Given as goal

abbrev pub invariant-loop-line : goal.invariant-loop-line
invariant-loop-line g l = record {
  passes : Passes (g.W.Writer.sent l.fn.writer) l.fn.gather (g.W.Writer.sent l.writer) l.gather (lines_text (map string_bytes (take l.line-index l.lines)));
  works : g.W.Writer.failed l.writer ≡ false;
}
