use Rattle.event_lines.proofs.Pieces.{said_and_out, said_and_torn}
use Rattle.event_lines.proofs.exit_status.Ending.write.Goals as goal

pub returns-in_default-clause-writes : goal.returns-in_default-clause-writes
returns-in_default-clause-writes g c =
    let puts = rw c.new-gather.ensures at c.in_default.ensures.puts in
    said_and_torn _ _ _ puts

pub returns-clause-writes : goal.returns-clause-writes
returns-clause-writes g c =
    let puts = rw c.new-gather.ensures at c.in-Ok.ensures.puts in
    said_and_out _ _ _ _ _ _ puts c.flush.ensures.writes
