use Rattle.std.proofs.Common.{◌∙◌, sym}
use Rattle.c_sessions.proofs.KeptSome.{kept_some}
use Rattle.c_sessions.proofs.session_handle.SessionHandle.into_session.Goals as goal

pub into_box-requires : goal.into_box-requires
into_box-requires c = kept_some c.args.self.kept.session (sym c.args.self.agrees ∙ c.if-is_open.true)
