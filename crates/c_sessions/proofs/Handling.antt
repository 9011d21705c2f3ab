-- How calls with a handle end, by how its session is kept.
use Rattle.std.proofs.Common.{◌≡◌, ◌++◌, ℕ, Bool, true, false, List, [], Option, None, Some, Result, Ok, Err, refl, sym, ap, ◌∙◌, subst, inl, inr}
use Rattle.std.specs.Prelude.{is_some}
use Rattle.ui_machine.specs.Prefix.{IsPrefix}
use Rattle.engine_dispatches.specs.declared.courses.Course.{Course}
use Rattle.event_lines.specs.EventFileRun.{Outcome, said}
use Rattle.event_lines.specs.Events.{event_replies}
use Rattle.event_lines.specs.Texts.{lines_text}
use Rattle.c_sessions.specs.Buffers.{with_text}
use Rattle.ui_engine.specs.declared.faults.SessionFault.{SessionFault}
use Rattle.c_sessions.specs.Courses.{Advances}
use Rattle.c_sessions.specs.Faults.{outcome_here}
use Rattle.c_sessions.specs.Handles.{AdvancesAs, AdvancesFrom, BeginsAs, Dispatches, Fails, FailsAs, Hears, IsBusy, KeepsAs, KeepsBeginning, KeepsHearing, Starts, Takes, TakesFrom, status_of_part}
use Rattle.c_sessions.specs.LineBeginnings.{Begins, BeginsLine, LeavesBy}
use Rattle.c_sessions.specs.Nobody.{nobody}
use Rattle.c_sessions.specs.Reached.{held}
use Rattle.c_sessions.specs.RunStates.{is_under_way}
use Rattle.c_sessions.specs.Starting.{IsBuilt, IsStopped}
use Rattle.c_sessions.specs.Since.{lines_since}
use Rattle.c_sessions.specs.Unread.{unread}
use Rattle.c_sessions.specs.declared.faults.HostedFault.{HostedFault}
use Rattle.c_sessions.specs.declared.faults.HostedFault.TheVariants as hosted
use Rattle.c_sessions.specs.declared.hosted_session.HostedSession.{HostedSession}
use Rattle.c_sessions.specs.declared.status.Status.{Status}
use Rattle.c_sessions.specs.declared.status.Status.TheVariants as statuses
use Rattle.c_sessions.proofs.LineParts.{ended_line}

module _ (bytes : List ℕ) (buffer : List ℕ) (session : HostedSession) (result : Status) (kept : Option HostedSession) (written : List ℕ) (blank : written ≡ with_text buffer []) where
  abbrev Ends : Status → Type 0
  Ends status = Starts bytes buffer status kept written

  pub starts_built : IsBuilt bytes session → KeepsAs session statuses.Done result kept → Ends result
  starts_built is (inl (keeps, so)) = subst Ends (sym so) ((session, keeps, is), blank)
  starts_built is (inr (keeps, so)) = subst Ends (sym so) (inr keeps, blank)

  pub starts_stopped : IsStopped bytes session → KeepsAs session statuses.Stopped result kept → Ends result
  starts_stopped is (inl (keeps, so)) = subst Ends (sym so) (inl (session, keeps, is), blank)
  starts_stopped is (inr (keeps, so)) = subst Ends (sym so) (inr keeps, blank)

-- how a session that is kept hears a line, where it is lent as it was held
pub keeps_hearing : (line : List ℕ) (outcome : List (List ℕ) → Outcome) (P : HostedSession → HostedSession → Type 0) (before after : Option HostedSession) (session lent new : HostedSession) → lent ≡ session → Some session ≡ before → after ≡ Some new
    → is_under_way lent.running ≡ false → is_under_way new.running ≡ false → Hears line outcome lent new → P lent new → KeepsHearing line outcome P before after
keeps_hearing line outcome P before after session lent new same taken put rests still hears is = (
  session,
  sym taken,
  subst (λ (h : HostedSession). is_under_way h.running ≡ false) same rests,
  new,
  put,
  still,
  subst (λ (h : HostedSession). Hears line outcome h new) same hears,
  subst (λ (h : HostedSession). P h new) same is,
)

-- how it hears one by the answer of the code
pub hears_by : (line : List ℕ) (result answer : Result (Unit {0}) HostedFault) (old new : HostedSession) → result ≡ answer
    → event_replies nobody (held old) line (outcome_here result (lines_since (held old) (held new))) (held new)
    → unread new ≡ unread old ++ lines_text (lines_since (held old) (held new))
    → ((held old).stopped ≡ true → held new ≡ held old)
    → Hears line (outcome_here answer) old new
hears_by line result answer old new same replies left stays =
    (subst (λ (r : Result (Unit {0}) HostedFault). event_replies nobody (held old) line (outcome_here r (lines_since (held old) (held new))) (held new)) same replies, left, stays)

-- how the dispatch of a line ends that fails
pub dispatches_failed : (line : List ℕ) (buffer : List ℕ) (fault : HostedFault) (before after : Option HostedSession) (status : Status) (written : List ℕ)
    → Fails line fault before after → FailsAs fault buffer status written → Dispatches line buffer before status after written
dispatches_failed line buffer (hosted.Refused why) before after status written fails how =
    subst (λ (s : Status). Dispatches line buffer before s after written) (sym how.0) (why, fails, how.1)
dispatches_failed line buffer hosted.NoMemory before after status written fails how = subst (λ (s : Status). Dispatches line buffer before s after written) (sym how.0) (fails, how.1)
dispatches_failed line buffer hosted.Stopped before after status written fails how = subst (λ (s : Status). Dispatches line buffer before s after written) (sym how.0) (fails, how.1)

-- and so the beginning of one
pub begins_failed : (line : List ℕ) (buffer : List ℕ) (fault : HostedFault) (before after : Option HostedSession) (status : Status) (written : List ℕ)
    → Fails line fault before after → FailsAs fault buffer status written → BeginsAs line buffer before status after written
begins_failed line buffer (hosted.Refused why) before after status written fails how =
    subst (λ (s : Status). BeginsAs line buffer before s after written) (sym how.0) (why, fails, how.1)
begins_failed line buffer hosted.NoMemory before after status written fails how = subst (λ (s : Status). BeginsAs line buffer before s after written) (sym how.0) (fails, how.1)
begins_failed line buffer hosted.Stopped before after status written fails how = subst (λ (s : Status). BeginsAs line buffer before s after written) (sym how.0) (fails, how.1)

-- how bytes are taken of it
pub keeps_taking : (bytes : List ℕ) (before after : Option HostedSession) (session lent new : HostedSession) (count : ℕ) (written : List ℕ) → lent ≡ session → Some session ≡ before → after ≡ Some new
    → TakesFrom bytes count written lent new → Takes bytes before count after written
keeps_taking bytes before after session lent new count written same taken put takes =
    subst (λ (b : Option HostedSession). Takes bytes b count after written) taken (new, put, subst (λ (h : HostedSession). TakesFrom bytes count written h new) same takes)

-- ** events in parts

module _ (before after : Option HostedSession) (session lent : HostedSession) (same : lent ≡ session) (taken : Some session ≡ before) where
  -- an event is under way there already, and the session is put back
  pub is_busy : after ≡ Some session → is_under_way lent.running ≡ true → IsBusy before after
  is_busy put busy = (session, sym taken, subst (λ (h : HostedSession). is_under_way h.running ≡ true) same busy, put ∙ taken)

  -- how the event of a line is begun there, and is under way then
  pub keeps_beginning : (line : List ℕ) (new : HostedSession) → after ≡ Some new → is_under_way lent.running ≡ false → is_under_way new.running ≡ true → Begins line lent.running new.running
      → unread new ≡ unread lent ++ lines_text (lines_since (held lent) (held new)) → KeepsBeginning line before after
  keeps_beginning line new put rests goes begins left = (
    session,
    sym taken,
    subst (λ (h : HostedSession). is_under_way h.running ≡ false) same rests,
    new,
    put,
    goes,
    subst (λ (h : HostedSession). Begins line h.running new.running) same begins,
    subst (λ (h : HostedSession). unread new ≡ unread h ++ lines_text (lines_since (held h) (held new))) same left,
  )

  -- how it goes on there
  pub keeps_advancing : (most : ℕ) (result : Result (Unit {0}) SessionFault) (status : Status) (new : HostedSession) → after ≡ Some new → is_under_way lent.running ≡ true → Advances true result most lent.running new.running
      → status ≡ status_of_part result (is_under_way new.running) → unread new ≡ unread lent ++ lines_text (lines_since (held lent) (held new)) → AdvancesAs most before status after
  keeps_advancing most result status new put goes advances is left =
      subst (λ (b : Option HostedSession). AdvancesAs most b status after) taken
      (subst (λ (b : Bool). AdvancesFrom b most session status after) (sym (ap (λ (h : HostedSession). is_under_way h.running) (sym same) ∙ goes)) (
        new,
        put,
        result,
        subst (λ (h : HostedSession). Advances true result most h.running new.running) same advances,
        is,
        subst (λ (h : HostedSession). unread new ≡ unread h ++ lines_text (lines_since (held h) (held new))) same left,
      ))

  -- where nothing is under way nothing is done
  pub rests_still : (most : ℕ) (status : Status) → after ≡ Some session → is_under_way lent.running ≡ false → status ≡ statuses.AtRest → AdvancesAs most before status after
  rests_still most status put rests is =
      subst (λ (b : Option HostedSession). AdvancesAs most b status after) taken
      (subst (λ (b : Bool). AdvancesFrom b most session status after) (sym (ap (λ (h : HostedSession). is_under_way h.running) (sym same) ∙ rests)) (is, put))

  -- how the event of a line has begun there that was not refused
  pub begins_done : (line buffer written : List ℕ) (new : HostedSession) → after ≡ Some new → is_under_way lent.running ≡ false → BeginsLine (is_under_way lent.running) (Ok tt) line lent.running new.running
      → IsPrefix (held lent).world.transcript (held new).world.transcript → unread new ≡ unread lent ++ lines_text (lines_since (held lent) (held new))
      → ((held lent).stopped ≡ true → held new ≡ held lent) → written ≡ with_text buffer [] → (goes : Bool) → goes ≡ is_under_way new.running → (status : Status) → status ≡ status_of_part (Ok tt) goes
      → BeginsAs line buffer before status after written
  begins_done line buffer written new put rests begins longer left stays blank goes is status how =
      subst (λ (s : Status). BeginsAs line buffer before s after written) (sym how) (by goes (sym is))
    where
      so : Begins line lent.running new.running
      so = subst (λ (b : Bool). BeginsLine b (Ok tt) line lent.running new.running) rests begins

      by : (b : Bool) → is_under_way new.running ≡ b → BeginsAs line buffer before (status_of_part (Ok tt) b) after written
      by true still = (keeps_beginning line new put rests still so left, blank)
      by false still = (keeps_hearing line said (λ old new. Unit {0}) before after session lent new same taken put rests still (ended_line lent.running new.running line longer so still, left, stays) tt, blank)

  -- how it has not, for this fault
  pub begins_not : (line buffer written : List ℕ) (new : HostedSession) (fault : HostedFault) → after ≡ Some new → is_under_way lent.running ≡ false → BeginsLine (is_under_way lent.running) (Err fault) line lent.running new.running
      → unread new ≡ unread lent ++ lines_text (lines_since (held lent) (held new)) → ((held lent).stopped ≡ true → held new ≡ held lent) → LeavesBy fault lent.running new.running
      → (status : Status) → FailsAs fault buffer status written → BeginsAs line buffer before status after written
  begins_not line buffer written new fault put rests begins left stays leaves status how =
      let so = subst (λ (b : Bool). BeginsLine b (Err fault) line lent.running new.running) rests begins in
      begins_failed line buffer fault before after status written
      (keeps_hearing line (outcome_here (Err fault)) (λ old new. LeavesBy fault old.running new.running) before after session lent new same taken put rests (ap (λ (o : Option Course). is_some o) so.1) (so.0, left, stays) leaves)
      how

-- ** reading

-- what holds of the session as it is lent holds of it as it is kept
pub as_lent : (P : HostedSession → Type 0) (session lent : HostedSession) → lent ≡ session → P lent → P session
as_lent P session lent same is = subst P same is
