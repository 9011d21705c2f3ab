use Rattle.event_lines.proofs.whole_runs.run.Goals as goal

pub returns-clause-ran : goal.returns-clause-ran
returns-clause-ran g c = rw c.replace-taken.ensures.value at c.run_with-status.ensures.ran

pub returns-clause-same : goal.returns-clause-same
returns-clause-same g c = rw c.replace-taken.ensures.value at c.run_with-status.ensures.same
