use Rattle.std.proofs.Common.{◌≡◌, ◌≢◌, ◌≤◌, ◌+◌, ◌-◌, List, ℕ, false}
use Rattle.std.specs.Io.KnownBytes.{prepend_known}
use Rattle.ui_machine.specs.Limits.{most_lines}
use Rattle.native_peers.specs.Seen.{SameRelations}
use Rattle.ui_engine.specs.SessionView.{state_at, without_lines}
use Rattle.event_lines.specs.Events.{event_replies}
use Rattle.event_lines.specs.Reading.{WhereKnown}
use Rattle.event_lines.specs.EventFileRun.{Outcome}
use Rattle.event_lines.proofs.Runs.{Came, IsAt}
use Rattle.event_lines.proofs.event_file.handle_lines.Given as goal

abbrev pub invariant-loop-next : goal.invariant-loop-next
invariant-loop-next g l =
    let old = state_at (g.P.Peers.seen l.fn.session.pool) l.fn.session.core in
    let now = state_at (g.P.Peers.seen l.session.pool) l.session.core in
    let may = (g.P.Peers.relations l.fn.session.pool) in
    record {
      came : (done : List (List ℕ)) × (outcomes : List Outcome)
          × Came (event_replies may) without_lines old l.fn.gather now l.number l.status false (l.reader ≡ l.fn.reader)
          (g.R.Reader.left l.fn.reader) (g.R.Reader.left l.reader) (g.R.Reader.reads l.fn.reader) (g.R.Reader.reads l.reader) (g.W.Writer.sent l.fn.writer) (g.W.Writer.sent l.writer) 0 l.gather done outcomes
          × WhereKnown (g.R.Reader.left l.fn.reader) (prepend_known l.lines.chunk (g.R.Reader.left l.reader)) (λ xs ys. IsAt done xs ys);
      same : SameRelations may (g.P.Peers.relations l.session.pool);
      reader_works : g.R.Reader.failed l.reader ≡ false;
      writer_works : g.W.Writer.failed l.writer ≡ false;
      works : l.status ≢ 4;
      within : l.number ≤ most_lines + 1;
    }

abbrev pub decreases-loop-next : goal.decreases-loop-next
decreases-loop-next g l = most_lines + 1 - l.number
