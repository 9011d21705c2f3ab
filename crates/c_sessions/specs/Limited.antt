-- How sessions start whose dispatches have a limit on their steps.
use Rattle.std.specs.Prelude.{◌≡◌, ◌⊎◌, ℕ, List, Option, None, Some, Ok, codes, false, true}
use Rattle.ui_machine.specs.Definition.{Definition}
use Rattle.law_typing.specs.Verdict.Accepted.{Accepted}
use Rattle.law_typing.specs.Verdict.Judges.{Judges}
use Rattle.builder_defs.specs.Denoted.{denoted}
use Rattle.verified_limits.specs.Limits.{is_within}
use Rattle.c_sessions.specs.Buffers.{with_text}
use Rattle.c_sessions.specs.Handles.{Starts}
use Rattle.c_sessions.specs.Starting.{StartsAs}
use Rattle.c_sessions.specs.declared.hosted_session.HostedSession.{HostedSession}
use Rattle.c_sessions.specs.declared.starts.LimitedStart.{LimitedStart}
use Rattle.c_sessions.specs.declared.starts.LimitedStart.TheVariants as code
use Rattle.c_sessions.specs.declared.starts.Started.{Started}
use Rattle.c_sessions.specs.declared.starts.Started.TheVariants as started
use Rattle.c_sessions.specs.declared.status.Status.{Status}
use Rattle.c_sessions.specs.declared.status.Status.TheVariants as statuses

-- if the bytes denote an accepted definition, no dispatch of it counts more steps
abbrev pub AreWithin : List ℕ → (most : ℕ) → Type 0
AreWithin bytes most = (d : Definition) → denoted bytes ≡ Ok d → Judges d None → (a : Accepted d) → is_within d a most ≡ true

-- the bytes denote an accepted definition of which a dispatch may count more
abbrev pub AreBeyond : List ℕ → (most : ℕ) → Type 0
AreBeyond bytes most = (d : Definition) × (denoted bytes ≡ Ok d) × Judges d None × ((a : Accepted d) → is_within d a most ≡ false)

-- such a start came to its end only within the limit, but for want of memory
abbrev pub BeginsWithin : List ℕ → (most : ℕ) → Started → Type 0
BeginsWithin bytes most (started.Built h) = AreWithin bytes most
BeginsWithin bytes most (started.Stopped h) = AreWithin bytes most
BeginsWithin bytes most (started.Refused text) = AreWithin bytes most
BeginsWithin bytes most started.Unbegun = Unit {0}

-- what the bytes of a definition may come to with a limit
abbrev pub StartsWithin : List ℕ → (most : ℕ) → LimitedStart → Type 0
StartsWithin bytes most (code.Within s) = StartsAs bytes s × BeginsWithin bytes most s
StartsWithin bytes most code.Beyond = AreBeyond bytes most

-- A call that ended with this status and this session did so within the limit: it looked at nothing else before. Only where memory was refused,
-- and no session is kept, the limit may not have been looked at.
abbrev pub EndedWithin : List ℕ → (most : ℕ) → Status → Option HostedSession → Type 0
EndedWithin bytes most statuses.Stopped None = Unit {0}
EndedWithin bytes most status kept = AreWithin bytes most

-- how such a start ends: within the limit as a start without one, or else it is refused for the limit and nothing is kept
abbrev pub EndsWithin : List ℕ → (most : ℕ) → List ℕ → Status → Option HostedSession → List ℕ → Type 0
EndsWithin bytes most buffer status kept written =
    (Starts bytes buffer status kept written × EndedWithin bytes most status kept)
    ⊎ (AreBeyond bytes most × (status ≡ statuses.DefinitionRefused) × (kept ≡ None) × (written ≡ with_text buffer (codes "StepLimit")))
