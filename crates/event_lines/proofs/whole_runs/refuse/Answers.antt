use Rattle.event_lines.proofs.Openings.{concludes, concludes_torn}
use Rattle.event_lines.proofs.whole_runs.refuse.Goals as goal

pub returns-in_default-clause-concludes : goal.returns-in_default-clause-concludes
returns-in_default-clause-concludes g c =
    let puts = rw c.as_bytes.ensures.value at c.in_default.ensures.puts in
    concludes_torn _ _ _ _ _ 1 c.new-gather.ensures c.in_default.ensures.marks puts

pub returns-clause-concludes : goal.returns-clause-concludes
returns-clause-concludes g c =
    let puts = rw c.as_bytes.ensures.value at c.in-Ok.ensures.puts in
    concludes _ _ _ _ _ _ _ _ _ c.new-gather.ensures puts c.finish.ensures.finishes
