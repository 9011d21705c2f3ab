use Rattle.std.proofs.Common.{false, ◌≡◌, ◌≤◌, ◌-◌, length, vec_len}
use Rattle.std.specs.Prelude.{◌⊎◌}
use Rattle.std.specs.Io.KnownBytes.{Consumes, prepend_known}
use Rattle.ui_machine.specs.Limits.{most_line_bytes}
use Rattle.event_lines.specs.Lines.{has_end}
use Rattle.event_lines.specs.Reading.{WhereKnown}
use Rattle.event_lines.specs.Writing.{Waits}
use Rattle.event_lines.proofs.Late.{IsLateSo}
use Rattle.event_lines.proofs.line_reader.LineReader.next_line.Given as goal

abbrev pub invariant-loop-byte : goal.invariant-loop-byte
invariant-loop-byte g l = record {
  consumed : Consumes (prepend_known l.fn.self.chunk (g.R.Reader.left l.fn.reader)) (prepend_known l.self.chunk (g.R.Reader.left l.reader)) l.self.line.items;
  within : length l.self.line.items ≤ most_line_bytes;
  no_end : has_end l.self.line.items ≡ false;
  late : (l.reader ≡ l.fn.reader) ⊎ WhereKnown (prepend_known l.fn.self.chunk (g.R.Reader.left l.fn.reader)) (g.R.Reader.left l.reader) (λ xs ys. IsLateSo l.self.chunk xs ys);
  reader_works : g.R.Reader.failed l.reader ≡ false;
  writer_works : g.W.Writer.failed l.writer ≡ false;
  waits : Waits (l.reader ≡ l.fn.reader) (g.R.Reader.reads l.fn.reader) (g.R.Reader.reads l.reader) false (g.W.Writer.sent l.fn.writer) l.fn.gather (g.W.Writer.sent l.writer) l.gather;
}

abbrev pub decreases-loop-byte : goal.decreases-loop-byte
decreases-loop-byte g l = most_line_bytes - vec_len l.self.line
