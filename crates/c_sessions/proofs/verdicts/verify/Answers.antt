use Rattle.c_sessions.proofs.verdicts.verify.Goals as goal

pub returns : goal.returns
returns c = let told = c.tell_verdict.ensures in (told.0, told.1, told.2)
