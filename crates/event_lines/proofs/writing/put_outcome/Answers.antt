use Rattle.event_lines.proofs.Pieces.{tears_early, puts_after}
use Rattle.event_lines.proofs.writing.put_outcome.Goals as goal

pub returns-in_default-clause-puts : goal.returns-in_default-clause-puts
returns-in_default-clause-puts g c = rw c.in-Stopped.is (tears_early _ c.in_default.ensures.puts)

pub returns-in-Ok-clause-puts : goal.returns-in-Ok-clause-puts
returns-in-Ok-clause-puts g c = rw c.in-Stopped.is (puts_after _ _ _ _ _ _ _ _ _ c.in-Ok.ensures.puts c.put_stopped.ensures.puts)
