-- What is promised of the events of lines that sessions without peers hear.
use Rattle.std.proofs.Common.{◌≡◌, ℕ, Bool, true, false, List, [], Option, None, Some, Result, Ok, Err, sym, subst, ◌∙◌}
use Rattle.ui_machine.specs.State.Tasks.{Event}
use Rattle.builder_defs.specs.EventMeaning.{Fails, event_denoted}
use Rattle.definition_format.specs.declared.event_faults.EventError.{EventError}
use Rattle.definition_format.specs.declared.event_faults.EventError.TheVariants as errors
use Rattle.ui_engine.specs.SessionView.{SessionState}
use Rattle.ui_engine.specs.declared.faults.SessionFault.{SessionFault}
use Rattle.ui_engine.specs.declared.faults.SessionFault.TheVariants as ends
use Rattle.c_sessions.specs.Faults.{dispatch_fault, reading_fault}
use Rattle.c_sessions.specs.Handles.{FailsAs, status_of_part}
use Rattle.c_sessions.specs.Keeping.{KeepsEnding, KeepsBy, KeepsEvent, KeepsLine}
use Rattle.c_sessions.specs.Reached.{held}
use Rattle.c_sessions.specs.declared.faults.HostedFault.{HostedFault}
use Rattle.c_sessions.specs.declared.faults.HostedFault.TheVariants as hosted
use Rattle.c_sessions.specs.declared.hosted_session.HostedSession.{HostedSession}
use Rattle.c_sessions.specs.declared.status.Status.{Status}
use Rattle.c_sessions.specs.declared.status.Status.TheVariants as statuses

module _ (line : List ℕ) (s : SessionState) where
  -- a session that has stopped takes no event
  pub keeps_stopped : s.stopped ≡ true → KeepsLine line s
  keeps_stopped stopped event denotes goes none = absurd (cc (sym stopped ∙ goes))

  -- the line is this event
  pub keeps_line : (event : Event) → event_denoted s.definition line ≡ Ok event → KeepsEvent event s → KeepsLine line s
  keeps_line event denotes keeps other is = let same : event ≡ other = cc (sym denotes ∙ is) in subst (λ (e : Event). KeepsEvent e s) same keeps

  -- the line is none, or no memory was found for reading it
  pub keeps_unread : (error : EventError) → Fails error (event_denoted s.definition line) → KeepsBy (Err (reading_fault error)) line s
  keeps_unread errors.OutOfMemory fails = tt
  keeps_unread (errors.Refused fault) fails = λ event is goes none. absurd (cc (sym fails ∙ is))

  -- its event ended by this fault
  pub keeps_unserved : (fault : SessionFault) → KeepsLine line s → KeepsBy (Err (dispatch_fault fault)) line s
  keeps_unserved ends.OutOfMemory keeps = keeps
  keeps_unserved ends.Stopped keeps = keeps
  keeps_unserved ends.ClockBack keeps = keeps
  keeps_unserved ends.Released keeps = keeps

module _ (line : List ℕ) (before : Option HostedSession) (session lent : HostedSession) (same : lent ≡ session) (taken : Some session ≡ before) where
  there : (status : Status) → KeepsEnding line (Some lent) status → KeepsEnding line before status
  there status keeps = subst (λ (b : Option HostedSession). KeepsEnding line b status) taken (subst (λ (h : HostedSession). KeepsEnding line (Some h) status) same keeps)

  -- the line was carried out, or its event was begun
  pub keeps_done : (result : Result (Unit {0}) HostedFault) → result ≡ Ok tt → KeepsBy result line (held lent) → KeepsEnding line before statuses.Done
  keeps_done result is keeps = there statuses.Done (subst (λ (r : Result (Unit {0}) HostedFault). KeepsBy r line (held lent)) is keeps)

  pub keeps_started : (result : Result (Unit {0}) HostedFault) → result ≡ Ok tt → KeepsBy result line (held lent)
      → (status : Status) (goes : Bool) → status ≡ status_of_part (Ok tt) goes → KeepsEnding line before status
  keeps_started result is keeps status goes how = subst (KeepsEnding line before) (sym how) (by goes)
    where
      so : KeepsLine line (held lent)
      so = subst (λ (r : Result (Unit {0}) HostedFault). KeepsBy r line (held lent)) is keeps

      by : (b : Bool) → KeepsEnding line before (status_of_part (Ok tt) b)
      by true = there statuses.UnderWay so
      by false = there statuses.Done so

  -- it failed
  pub keeps_failed : (buffer written : List ℕ) (result : Result (Unit {0}) HostedFault) (fault : HostedFault) → result ≡ Err fault → KeepsBy result line (held lent)
      → (status : Status) → FailsAs fault buffer status written → KeepsEnding line before status
  keeps_failed buffer written result fault is keeps status how = by fault (subst (λ (r : Result (Unit {0}) HostedFault). KeepsBy r line (held lent)) is keeps) how
    where
      by : (f : HostedFault) → KeepsBy (Err f) line (held lent) → FailsAs f buffer status written → KeepsEnding line before status
      by (hosted.Refused why) keeps how = subst (KeepsEnding line before) (sym how.0) (there statuses.LineRefused keeps)
      by hosted.NoMemory keeps how = subst (KeepsEnding line before) (sym how.0) (there statuses.NoMemory tt)
      by hosted.Stopped keeps how = subst (KeepsEnding line before) (sym how.0) (there statuses.Stopped keeps)

-- an event is under way there already
pub keeps_busy : (line : List ℕ) (before : Option HostedSession) (session : HostedSession) → Some session ≡ before → KeepsEnding line before statuses.Busy
keeps_busy line before session taken = subst (λ (b : Option HostedSession). KeepsEnding line b statuses.Busy) taken tt
