-- What a limit says of a start.
use Rattle.std.proofs.Common.{◌≡◌, ◌⊎◌, inl, inr, ◌∙◌, List, None, Some, Option, Ok, sym, subst, true, ℕ}
use Rattle.ui_machine.specs.Definition.{Definition}
use Rattle.law_typing.specs.Graph.{graph, Graph}
use Rattle.law_typing.specs.Rules.Faults.{Fault}
use Rattle.law_typing.specs.Verdict.{Verdict, verdict}
use Rattle.law_typing.specs.Verdict as verdicts
use Rattle.law_typing.specs.Verdict.Accepted.{Accepted}
use Rattle.law_typing.specs.Verdict.Judges.{Answers, Judges}
use Rattle.builder_defs.specs.Denoted.{denoted}
use Rattle.event_lines.specs.CheckView.{IsRejected, IsUnread}
use Rattle.verified_limits.specs.Limits.{is_within}
use Rattle.c_sessions.specs.Handles.{KeepsAs}
use Rattle.c_sessions.specs.Limited.{AreWithin, BeginsWithin, EndedWithin}
use Rattle.c_sessions.specs.declared.hosted_session.HostedSession.{HostedSession}
use Rattle.c_sessions.specs.declared.starts.Started.{Started}
use Rattle.c_sessions.specs.declared.starts.Started.TheVariants as started
use Rattle.c_sessions.specs.declared.status.Status.{Status}
use Rattle.c_sessions.specs.declared.status.Status.TheVariants as statuses

-- the bytes denote one definition
pub are_within : (bytes : List ℕ) (most : ℕ) (d : Definition) → denoted bytes ≡ Ok d → ((a : Accepted d) → is_within d a most ≡ true) → AreWithin bytes most
are_within bytes most d denotes within e other accepted =
    let same : d ≡ e = cc (sym denotes ∙ other) in
    subst (λ (x : Definition). (a : Accepted x) → is_within x a most ≡ true) same within

-- a definition that is refused is not accepted
not_both : (g : Graph) (v : Verdict) (fault : Fault) → Answers g v (Some fault) → Answers g v None → ⊥
not_both g (verdicts.accepted report) fault refused accepted = absurd (cc refused)
not_both g (verdicts.refused other) fault refused accepted = absurd (cc accepted)
not_both g verdicts.has_cycle fault refused accepted = absurd (cc accepted.1)

-- what is refused has no steps at all
pub refused_within : (bytes : List ℕ) (most : ℕ) (text : List ℕ) → IsUnread bytes text ⊎ IsRejected bytes text → AreWithin bytes most
refused_within bytes most text (inl unread) d denotes accepted = absurd (cc (sym unread.1 ∙ denotes))
refused_within bytes most text (inr rejected) d denotes accepted =
    let same : rejected.0 ≡ d = cc (sym rejected.2 ∙ denotes) in
    absurd (not_both (graph d) (verdict d) rejected.1 (subst (λ (x : Definition). Judges x (Some rejected.1)) same rejected.3) accepted)

pub begins_within : (bytes : List ℕ) (most : ℕ) (s : Started) → AreWithin bytes most → BeginsWithin bytes most s
begins_within bytes most (started.Built h) within = within
begins_within bytes most (started.Stopped h) within = within
begins_within bytes most (started.Refused text) within = within
begins_within bytes most started.Unbegun within = tt

-- a call within the limit ended so
pub ended_within : (bytes : List ℕ) (most : ℕ) (status : Status) (kept : Option HostedSession) → AreWithin bytes most → EndedWithin bytes most status kept
ended_within bytes most statuses.Done kept within = within
ended_within bytes most statuses.DefinitionRefused kept within = within
ended_within bytes most statuses.LineRefused kept within = within
ended_within bytes most statuses.Stopped None within = tt
ended_within bytes most statuses.Stopped (Some session) within = within
ended_within bytes most statuses.NoSession kept within = within
ended_within bytes most statuses.UnderWay kept within = within
ended_within bytes most statuses.Busy kept within = within
ended_within bytes most statuses.NoMemory kept within = within
ended_within bytes most statuses.AtRest kept within = within

-- no memory was found before there was a session
pub ended_unbegun : (bytes : List ℕ) (most : ℕ) (kept : Option HostedSession) → kept ≡ None → EndedWithin bytes most statuses.Stopped kept
ended_unbegun bytes most kept none = subst (EndedWithin bytes most statuses.Stopped) (sym none) tt
