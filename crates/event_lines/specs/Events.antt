-- What an event line may come to in a session.
use Rattle.std.specs.Prelude.{◌≡◌, ◌⊎◌, ℕ, true, false, List, [], ◌++◌, Some, Ok, Err}
use Rattle.ui_machine.specs.State.Tasks.{Event}
use Rattle.ui_machine.specs.Rules.Events.{Refusal, refusal}
use Rattle.ui_machine.specs.Runs.{Tally, Serves}
use Rattle.builder_defs.specs.EventMeaning.{EventRefusal, event_denoted}
use Rattle.native_peers.specs.Seen.{Relations}
use Rattle.engine_dispatches.specs.PoolView.{Replied}
use Rattle.engine_dispatches.specs.Ways.{CutOff}
use Rattle.ui_engine.specs.SessionView.{SessionState}
use Rattle.event_lines.specs.Texts.{line_refusal, refusal_of_event}
use Rattle.event_lines.specs.declared.refusal.LineRefusal.{LineRefusal}
use Rattle.event_lines.specs.EventFileRun.{Replies, said, refused, cut_off, stopped}

-- the line is an event, which the machine serves by some replies of the pool, and these lines are said
pub record Says (may : Relations) (old : SessionState) (line : List ℕ) (lines : List (List ℕ)) (new : SessionState) : Type 0 where
  pub event : Event
  pub tally : Tally
  pub denotes : event_denoted old.definition line ≡ Ok event
  pub serves : Replied may (λ replies. Serves old.definition event replies old.world tally new.world)
  pub shows : new.world.transcript ≡ old.world.transcript ++ lines
  pub definition : new.definition ≡ old.definition
  pub goes_on : new.stopped ≡ false

-- The line is an event, whose dispatch says these lines, and then no memory is found, and the session stops with it. The peers are as their
-- replies left them, of which the last may have no line, and each is whose it was in the machine.
pub record BrokenOff (may : Relations) (old : SessionState) (line : List ℕ) (lines : List (List ℕ)) (new : SessionState) : Type 0 where
  pub event : Event
  pub denotes : event_denoted old.definition line ≡ Ok event
  pub breaks_off : Replied may (λ replies. CutOff old.definition may event replies old.world new.world.peers new.world.transcript)
  pub shows : new.world.transcript ≡ old.world.transcript ++ lines
  pub definition : new.definition ≡ old.definition
  pub stops : new.stopped ≡ true

-- the line is an event that the machine refuses
pub record RefusesEvent (old : SessionState) (line : List ℕ) : Type 0 where
  pub event : Event
  pub why : Refusal
  pub denotes : event_denoted old.definition line ≡ Ok event
  pub refuses : refusal old.world event ≡ Some why

-- the line is no event
pub record Refuses (old : SessionState) (line : List ℕ) : Type 0 where
  pub refusal : EventRefusal
  pub denotes : event_denoted old.definition line ≡ Err refusal

-- a line is refused where it is no event, or where the machine refuses the event
abbrev pub IsRefused : SessionState → List ℕ → LineRefusal → Type 0
IsRefused old line r = ((no : Refuses old line) × (r ≡ line_refusal no.refusal)) ⊎ ((event : RefusesEvent old line) × (r ≡ refusal_of_event event.why))

-- What a session answers whose peers may do this. No memory for the reading of a line is want of memory with nothing said.
abbrev pub event_replies : Relations → Replies SessionState
event_replies may old line (said lines) new = Says may old line lines new
event_replies may old line (refused r) new = IsRefused old line r × (new ≡ old)
event_replies may old line (cut_off r) new = ⊥
event_replies may old line (stopped lines) new = BrokenOff may old line lines new ⊎ ((lines ≡ []) × (new ≡ old))
