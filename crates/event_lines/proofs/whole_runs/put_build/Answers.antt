use Rattle.event_lines.proofs.Pieces.{puts_after, tears_early}
use Rattle.event_lines.proofs.whole_runs.put_build.Goals as goal

pub returns-clause-puts : goal.returns-clause-puts
returns-clause-puts g c = puts_after _ _ _ _ _ _ _ _ _ c.in-Ok.ensures.puts c.put.ensures.puts

pub returns-in_default-clause-puts : goal.returns-in_default-clause-puts
returns-in_default-clause-puts g c = tears_early _ c.in_default.ensures.puts
