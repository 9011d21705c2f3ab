use Rattle.event_lines.proofs.whole_runs.run_with.Goals as goal

pub returns-clause-ran : goal.returns-clause-ran
returns-clause-ran g c = c.run_judged.ensures.ran c.args.definition.now c.judge.ensures

pub returns-clause-unread : goal.returns-clause-unread
returns-clause-unread g c = c.run_judged.ensures.unread c.args.definition.now c.judge.ensures
