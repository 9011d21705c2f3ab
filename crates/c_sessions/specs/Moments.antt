-- What C is told of when something is due.
use Rattle.std.specs.Prelude.{◌≡◌, ℕ, Option, None, Some}
use Rattle.ui_engine.specs.Due.{IsNextDue}
use Rattle.ui_engine.specs.declared.next_due.NextDue.{NextDue}
use Rattle.ui_engine.specs.declared.next_due.NextDue.TheVariants as due
use Rattle.c_sessions.specs.declared.hosted_session.HostedSession.{HostedSession}

-- the number of when something is due, if there is a session
abbrev pub code_of_due : Option NextDue → ℕ
code_of_due None = 0
code_of_due (Some due.Never) = 0
code_of_due (Some due.Now) = 1
code_of_due (Some (due.At first)) = 2

-- what a moment is after that, which was this
abbrev pub moment_told : Option NextDue → ℕ → ℕ
moment_told None before = before
moment_told (Some due.Never) before = before
moment_told (Some due.Now) before = before
moment_told (Some (due.At first)) before = first

-- when something is due in the session that is kept, if one is; it stays as it was
abbrev pub TellsNext : Option HostedSession → Option NextDue → Option HostedSession → Type 0
TellsNext None next new = (next ≡ None) × (new ≡ None)
TellsNext (Some session) next new = (is : NextDue) × (next ≡ Some is) × IsNextDue session.running.core.world is × (new ≡ Some session)
