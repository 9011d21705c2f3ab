use Rattle.std.proofs.Common.{◌≡◌, ◌+◌, ◌*◌, ◌≤◌}
use Rattle.signal_core.specs.Table.{line_count}
use Rattle.signal_core.proofs.table.SignalTable.line_count.Given as goal

abbrev pub invariant-line : goal.invariant-line
invariant-line l =
    record {
      counted : l.count + line_count l.tree l.self.signals l.class ≡ line_count l.tree l.self.signals l.fn.t;
      few : l.count + 64 * l.class ≤ 64 * l.fn.t;
    }

abbrev pub decreases-line : goal.decreases-line
decreases-line l = l.class
