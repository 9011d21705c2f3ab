use Rattle.std.proofs.Common.{length, subst}
use Rattle.c_sessions.specs.Starting.{StartsAs}
use Rattle.c_sessions.specs.Limited.{BeginsWithin}
use Rattle.c_sessions.proofs.Handling.{starts_built, starts_stopped}
use Rattle.c_sessions.proofs.Limits.{ended_unbegun, ended_within}
use Rattle.c_sessions.specs.declared.status.Status.TheVariants as statuses
use Rattle.c_sessions.proofs.session_handle.SessionHandle.keep_started.Goals as goal

pub returns-in-Built-clause-starts : goal.returns-in-Built-clause-starts
returns-in-Built-clause-starts c bytes starts =
    starts_built bytes c.args.refusal.now c.in-Built.session c.keep.result c.keep.new.self.kept.session c.write_text.new.buffer c.write_text.ensures
    (subst (StartsAs bytes) c.in-Built.is starts) c.keep.ensures

pub returns-in-Stopped-clause-starts : goal.returns-in-Stopped-clause-starts
returns-in-Stopped-clause-starts c bytes starts =
    starts_stopped bytes c.args.refusal.now c.in-Stopped.session c.keep-in-Stopped.result c.keep-in-Stopped.new.self.kept.session c.write_text-in-Stopped.new.buffer c.write_text-in-Stopped.ensures
    (subst (StartsAs bytes) c.in-Stopped.is starts) c.keep-in-Stopped.ensures

pub returns-in-Built-clause-within : goal.returns-in-Built-clause-within
returns-in-Built-clause-within c bytes most begins =
    ended_within bytes most c.keep.result c.keep.new.self.kept.session (subst (BeginsWithin bytes most) c.in-Built.is begins)

pub returns-in-Stopped-clause-within : goal.returns-in-Stopped-clause-within
returns-in-Stopped-clause-within c bytes most begins =
    ended_within bytes most c.keep-in-Stopped.result c.keep-in-Stopped.new.self.kept.session (subst (BeginsWithin bytes most) c.in-Stopped.is begins)

pub returns-in-Refused-clause-within : goal.returns-in-Refused-clause-within
returns-in-Refused-clause-within c bytes most begins = ended_within bytes most statuses.DefinitionRefused c.args.self.now.kept.session (subst (BeginsWithin bytes most) c.in-Refused.is begins)

pub returns-in-Unbegun-clause-within : goal.returns-in-Unbegun-clause-within
returns-in-Unbegun-clause-within c bytes most begins = ended_unbegun bytes most _ c.requires
