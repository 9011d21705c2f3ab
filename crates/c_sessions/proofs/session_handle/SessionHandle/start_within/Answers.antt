use Rattle.std.proofs.Common.{inl, inr, refl}
use Rattle.c_sessions.proofs.session_handle.SessionHandle.start_within.Goals as goal

pub returns-in-Within : goal.returns-in-Within
returns-in-Within c = inl (c.keep_started.ensures.starts c.args.definition.now c.in-Within.ensures.0, c.keep_started.ensures.within c.args.definition.now c.args.most c.in-Within.ensures.1)
