use Rattle.c_sessions.proofs.starts.start.Goals as goal

pub returns : goal.returns
returns c = c.begin.ensures c.args.definition.now c.judge.ensures
