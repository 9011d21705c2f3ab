use Rattle.std.proofs.Common.{◌≡◌, ◌≤◌, ◌+◌, ◌-◌, length, vec_len, false}
use Rattle.std.specs.Io.KnownBytes.{Consumes}
use Rattle.ui_machine.specs.Limits.{most_definition_bytes}
use Rattle.event_lines.proofs.definition_file.definition_bytes.Given as goal

abbrev pub invariant-loop-piece : goal.invariant-loop-piece
invariant-loop-piece g l = record {
  consumed : Consumes (g.R.Feed.left l.fn.reader) (g.R.Feed.left l.reader) l.bytes.items;
  within : length l.bytes.items ≤ most_definition_bytes + 1;
  works : g.R.Feed.failed l.reader ≡ false;
}

abbrev pub decreases-loop-piece : goal.decreases-loop-piece
decreases-loop-piece g l = (most_definition_bytes + 1) - vec_len l.bytes
