-- What calls with a handle come to.
use Rattle.std.specs.Prelude.{◌≡◌, ◌⊎◌, ◌<◌, ℕ, Bool, true, false, List, [], ◌++◌, Option, None, Some, Result, Ok, Err, drop, length, min, take}
use Rattle.event_lines.specs.EventFileRun.{Outcome, said}
use Rattle.event_lines.specs.Events.{event_replies}
use Rattle.event_lines.specs.Texts.{lines_text, name_of}
use Rattle.event_lines.specs.declared.refusal.LineRefusal.{LineRefusal}
use Rattle.ui_engine.specs.SessionView.{without_lines}
use Rattle.ui_engine.specs.declared.faults.SessionFault.{SessionFault}
use Rattle.c_sessions.specs.Buffers.{with_text}
use Rattle.c_sessions.specs.Courses.{Advances, FromWherever, HasComeStill}
use Rattle.c_sessions.specs.Faults.{outcome_here}
use Rattle.c_sessions.specs.LineBeginnings.{Begins, LeavesBy}
use Rattle.c_sessions.specs.Nobody.{nobody}
use Rattle.c_sessions.specs.Reached.{held}
use Rattle.c_sessions.specs.RunStates.{is_under_way}
use Rattle.c_sessions.specs.Starting.{IsBuilt, IsRefused, IsStopped}
use Rattle.c_sessions.specs.Since.{lines_since}
use Rattle.c_sessions.specs.Unread.{unread}
use Rattle.c_sessions.specs.declared.faults.HostedFault.{HostedFault}
use Rattle.c_sessions.specs.declared.faults.HostedFault.TheVariants as hosted
use Rattle.c_sessions.specs.declared.hosted_session.HostedSession.{HostedSession}
use Rattle.c_sessions.specs.declared.status.Status.{Status}
use Rattle.c_sessions.specs.declared.status.Status.TheVariants as statuses

-- ** a start

-- a session that started with a status is kept, or no memory was found for it
abbrev pub KeepsAs : HostedSession → Status → Status → Option HostedSession → Type 0
KeepsAs session status result kept =
    ((kept ≡ Some session) × (result ≡ status)) ⊎ ((kept ≡ None) × (result ≡ statuses.Stopped))

-- a session is kept of which P holds
abbrev pub Keeps : (HostedSession → Type 0) → Option HostedSession → Type 0
Keeps P kept = (session : HostedSession) × (kept ≡ Some session) × P session

-- how a start with these bytes of a definition ends: by its status, what is kept, and what a buffer holds that held this before
abbrev pub Starts : List ℕ → List ℕ → Status → Option HostedSession → List ℕ → Type 0
Starts bytes buffer statuses.Done kept written = Keeps (IsBuilt bytes) kept × (written ≡ with_text buffer [])
Starts bytes buffer statuses.Stopped kept written = (Keeps (IsStopped bytes) kept ⊎ (kept ≡ None)) × (written ≡ with_text buffer [])
Starts bytes buffer statuses.DefinitionRefused kept written =
    (kept ≡ None) × (text : List ℕ) × IsRefused bytes text × (written ≡ with_text buffer text)
Starts bytes buffer statuses.NoSession kept written = ⊥
Starts bytes buffer statuses.LineRefused kept written = ⊥
Starts bytes buffer statuses.UnderWay kept written = ⊥
Starts bytes buffer statuses.Busy kept written = ⊥
Starts bytes buffer statuses.NoMemory kept written = ⊥
Starts bytes buffer statuses.AtRest kept written = ⊥

-- ** a line

-- a session hears a line that comes to this outcome, by the lines that are said of it, and these come behind those that were not taken; one
-- that has stopped stays as it is
abbrev pub Hears : List ℕ → (List (List ℕ) → Outcome) → HostedSession → HostedSession → Type 0
Hears line outcome old new =
    event_replies nobody (held old) line (outcome (lines_since (held old) (held new))) (held new)
    × (unread new ≡ unread old ++ lines_text (lines_since (held old) (held new)))
    × ((held old).stopped ≡ true → held new ≡ held old)

-- a session that is kept does, with no event under way, and this holds of it before and after
abbrev pub KeepsHearing : List ℕ → (List (List ℕ) → Outcome) → (HostedSession → HostedSession → Type 0) → Option HostedSession → Option HostedSession → Type 0
KeepsHearing line outcome P old new =
    (before : HostedSession) × (old ≡ Some before) × (is_under_way before.running ≡ false)
    × (after : HostedSession) × (new ≡ Some after) × (is_under_way after.running ≡ false) × Hears line outcome before after × P before after

-- it carries out the line
abbrev pub Carries : List ℕ → Option HostedSession → Option HostedSession → Type 0
Carries line old new = KeepsHearing line said (λ before after. Unit {0}) old new

-- it fails with this fault
abbrev pub Fails : List ℕ → HostedFault → Option HostedSession → Option HostedSession → Type 0
Fails line fault old new = KeepsHearing line (outcome_here (Err fault)) (λ before after. LeavesBy fault before.running after.running) old new

-- an event is under way there already
abbrev pub IsBusy : Option HostedSession → Option HostedSession → Type 0
IsBusy old new = (before : HostedSession) × (old ≡ Some before) × (is_under_way before.running ≡ true) × (new ≡ old)

-- how the dispatch of a line ends
abbrev pub Dispatches : List ℕ → List ℕ → Option HostedSession → Status → Option HostedSession → List ℕ → Type 0
Dispatches line buffer old statuses.Done new written = Carries line old new × (written ≡ with_text buffer [])
Dispatches line buffer old statuses.Stopped new written = Fails line hosted.Stopped old new × (written ≡ with_text buffer [])
Dispatches line buffer old statuses.NoMemory new written = Fails line hosted.NoMemory old new × (written ≡ with_text buffer [])
Dispatches line buffer old statuses.LineRefused new written = (why : LineRefusal) × Fails line (hosted.Refused why) old new × (written ≡ with_text buffer (name_of why))
Dispatches line buffer old statuses.NoSession new written = (old ≡ None) × (new ≡ None) × (written ≡ with_text buffer [])
Dispatches line buffer old statuses.Busy new written = IsBusy old new × (written ≡ with_text buffer [])
Dispatches line buffer old statuses.UnderWay new written = ⊥
Dispatches line buffer old statuses.AtRest new written = ⊥
Dispatches line buffer old statuses.DefinitionRefused new written = ⊥

-- how a line fails: by its status, and what a buffer holds that held this before
abbrev pub FailsAs : HostedFault → List ℕ → Status → List ℕ → Type 0
FailsAs (hosted.Refused why) buffer status written = (status ≡ statuses.LineRefused) × (written ≡ with_text buffer (name_of why))
FailsAs hosted.NoMemory buffer status written = (status ≡ statuses.NoMemory) × (written ≡ with_text buffer [])
FailsAs hosted.Stopped buffer status written = (status ≡ statuses.Stopped) × (written ≡ with_text buffer [])

-- ** events in parts

-- a session that is kept begins the event of a line, which is under way then
abbrev pub KeepsBeginning : List ℕ → Option HostedSession → Option HostedSession → Type 0
KeepsBeginning line old new =
    (before : HostedSession) × (old ≡ Some before) × (is_under_way before.running ≡ false)
    × (after : HostedSession) × (new ≡ Some after) × (is_under_way after.running ≡ true) × Begins line before.running after.running
    × (unread after ≡ unread before ++ lines_text (lines_since (held before) (held after)))

-- how the beginning of the event of a line ends: it is under way, or it is as the dispatch of the line ends
abbrev pub BeginsAs : List ℕ → List ℕ → Option HostedSession → Status → Option HostedSession → List ℕ → Type 0
BeginsAs line buffer old statuses.UnderWay new written = KeepsBeginning line old new × (written ≡ with_text buffer [])
BeginsAs line buffer old status new written = Dispatches line buffer old status new written

-- the status of a part, by what it came to and whether the event goes on
abbrev pub status_of_part : Result (Unit {0}) SessionFault → Bool → Status
status_of_part (Ok _) true = statuses.UnderWay
status_of_part (Ok _) false = statuses.Done
status_of_part (Err fault) goes_on = statuses.Stopped

-- how going on for so many counted steps ends, with an event under way or without
abbrev pub AdvancesFrom : Bool → ℕ → HostedSession → Status → Option HostedSession → Type 0
AdvancesFrom false most before status new = (status ≡ statuses.AtRest) × (new ≡ Some before)
AdvancesFrom true most before status new =
    (after : HostedSession) × (new ≡ Some after) × (result : Result (Unit {0}) SessionFault) × Advances true result most before.running after.running
    × (status ≡ status_of_part result (is_under_way after.running)) × (unread after ≡ unread before ++ lines_text (lines_since (held before) (held after)))

-- in the session that is kept, if one is
abbrev pub AdvancesAs : ℕ → Option HostedSession → Status → Option HostedSession → Type 0
AdvancesAs most None status new = (status ≡ statuses.NoSession) × (new ≡ None)
AdvancesAs most (Some before) status new = AdvancesFrom (is_under_way before.running) most before status new

-- ** lines

-- so many bytes are taken of a session's lines, into a buffer that held others; where there is room left, no line is kept
abbrev pub TakesFrom : List ℕ → ℕ → List ℕ → HostedSession → HostedSession → Type 0
TakesFrom before count after old new =
    (count ≡ min (length before) (length (unread old)))
    × (after ≡ take count (unread old) ++ drop count before)
    × (unread new ≡ drop count (unread old))
    × (without_lines (held new) ≡ without_lines (held old))
    × (count < length before → held new ≡ without_lines (held old))
    × (new.running.course ≡ old.running.course)
    × FromWherever old.running (λ event w front steps. HasComeStill event w front steps old.running new.running)

-- bytes are taken of the lines of the session that is kept, if one is
abbrev pub Takes : List ℕ → Option HostedSession → ℕ → Option HostedSession → List ℕ → Type 0
Takes before None count new after = (count ≡ 0) × (new ≡ None) × (after ≡ before)
Takes before (Some old) count new after = (session : HostedSession) × (new ≡ Some session) × TakesFrom before count after old session
