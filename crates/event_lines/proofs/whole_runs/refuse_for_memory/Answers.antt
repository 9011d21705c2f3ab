use Rattle.event_lines.proofs.Openings.{concludes, concludes_torn}
use Rattle.event_lines.proofs.whole_runs.refuse_for_memory.Goals as goal

pub returns-in_default-clause-concludes : goal.returns-in_default-clause-concludes
returns-in_default-clause-concludes g c = concludes_torn _ _ _ _ _ 3 c.new-gather.ensures c.in_default.ensures.marks c.in_default.ensures.puts

pub returns-clause-concludes : goal.returns-clause-concludes
returns-clause-concludes g c = concludes _ _ _ _ _ _ _ _ _ c.new-gather.ensures c.in-Ok.ensures.puts c.finish.ensures.finishes
