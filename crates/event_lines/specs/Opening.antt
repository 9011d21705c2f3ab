-- How a run opens, before it comes to the event lines, and the whole run.
use Rattle.std.specs.Prelude.{◌≡◌, ◌⊎◌, ℕ, Bool, true, false, List, ◌++◌, codes, map, Option, None, Some, Ok, Err}
use Rattle.ui_machine.specs.Definition.{Definition}
use Rattle.ui_machine.specs.Prefix.{IsPrefix}
use Rattle.ui_machine.specs.Runs.{Tally, Carries, of_build}
use Rattle.ui_machine.specs.State.Config.{World}
use Rattle.ui_machine.specs.State.Peers.{Peer}
use Rattle.law_peers.specs.Needs.{Mismatch, mismatch}
use Rattle.law_typing.specs.Rules.Faults.{Fault}
use Rattle.law_typing.specs.Laws.StepsKeepGood.{PoolReady}
use Rattle.law_typing.specs.Verdict.Accepted.{Accepted}
use Rattle.law_typing.specs.Verdict.FaultText.{refused_line}
use Rattle.law_typing.specs.Verdict.Judges.{Judges}
use Rattle.builder_defs.specs.Refusals.{Refusal}
use Rattle.builder_defs.specs.Denoted.{denoted}
use Rattle.native_peers.specs.Seen.{Relations, Seen}
use Rattle.ui_engine.specs.Endings.{taken_closed}
use Rattle.engine_dispatches.specs.Following.{Halting}
use Rattle.engine_dispatches.specs.PoolView.{Replied, seen_of}
use Rattle.ui_engine.specs.SessionView.{SessionState, without_lines}
use Rattle.event_lines.specs.Texts.{lines_text, definition_mismatched, definition_refused, nothing_begun, build_stopped}
use Rattle.event_lines.specs.EventFileRun.{EventFileRun}
use Rattle.event_lines.specs.Events.{event_replies}
use Rattle.event_lines.specs.RunOver.{RunsOver}

pub data Opening : Type 0 where
  refused : Refusal → Opening  -- the definition's bytes denote none
  rejected : Definition → Fault → Opening  -- the definition, for this fault
  mismatched : Definition → Mismatch → Opening  -- the definition, since the pool does not match it
  unbegun : Opening  -- for want of memory before the build
  stopped : SessionState → Opening  -- for want of memory in the build
  built : SessionState → Opening

-- the one line of a definition that is not accepted
abbrev pub rejected_text : Definition → Fault → List ℕ
rejected_text d fault = refused_line d fault ++ codes "\n"

-- what is written of an opening
abbrev pub opening_text : Opening → List ℕ
opening_text (refused refusal) = definition_refused refusal
opening_text (rejected d fault) = rejected_text d fault
opening_text (mismatched d m) = definition_mismatched m
opening_text unbegun = nothing_begun
opening_text (stopped s) = lines_text s.world.transcript ++ build_stopped
opening_text (built s) = lines_text s.world.transcript

-- a session has come to the end of the definition's build with these peers, each of which has replied as it may
pub record IsBuilt (may : Relations) (peers : List Peer) (s : SessionState) : Type 0 where
  pub tally : Tally
  pub carries : Replied may (λ replies. Carries s.definition (of_build s.definition peers) replies tally s.world)
  pub goes_on : s.stopped ≡ false

-- A session has stopped in the definition's build, where no memory was found. The peers are as their replies left them, of which the last may
-- have no line, and each is whose it was in the machine.
pub record IsBrokenOff (may : Relations) (peers : List Peer) (s : SessionState) : Type 0 where
  pub breaks_off : Replied may (λ replies. Halting s.definition may replies (of_build s.definition peers) s.world.peers s.world.transcript)
  pub stops : s.stopped ≡ true

-- the bytes denote the definition, and it is accepted; the pool has just the peers that it needs
pub record IsTaken (bytes : List ℕ) (d : Definition) (peers : List Peer) : Type 0 where
  pub denoted : denoted bytes ≡ Ok d
  pub judged : Judges d None
  pub accepted : Accepted d
  pub matches : mismatch d peers ≡ None
  pub ready : PoolReady d peers

-- how a run with these bytes of a definition and these peers may open
abbrev pub Opens : Relations → List Peer → List ℕ → Opening → Type 0
Opens may peers bytes (refused refusal) = denoted bytes ≡ Err refusal
Opens may peers bytes (rejected d fault) = (denoted bytes ≡ Ok d) × Judges d (Some fault)
Opens may peers bytes (mismatched d m) = (denoted bytes ≡ Ok d) × Judges d None × (mismatch d peers ≡ Some m)
Opens may peers bytes unbegun = Unit {0}
Opens may peers bytes (stopped s) = IsTaken bytes s.definition peers × IsBrokenOff may peers s
Opens may peers bytes (built s) = IsTaken bytes s.definition peers × IsBuilt may peers s

-- the text was written and the status answered, or the writer failed within the text
abbrev pub Concludes : List ℕ → ℕ → ℕ → Bool → List ℕ → Type 0
Concludes whole answer status torn text =
    ((status ≡ 4) × (torn ≡ true) × IsPrefix text whole) ⊎ ((status ≡ answer) × (torn ≡ false) × (text ≡ whole))

-- the pool that a session leaves which ends in this world: each peer is closed that an object has got
abbrev pub left_by : World → List Seen
left_by w = taken_closed w.peers (map seen_of w.peers)

-- the lines of the build were said, and then the event lines handled; and this pool is left
pub record Plays (may : Relations) (peers : List Peer) (left : List Seen) (s : SessionState) (lines : List (List ℕ)) (status : ℕ) (torn : Bool) (unread : Type 0) (first last : Option (List ℕ)) (text : List ℕ) : Type 0 where
  pub new : SessionState
  pub file_run : EventFileRun (event_replies may) without_lines (without_lines s) (lines_text s.world.transcript) lines status torn unread first last text new
  -- what was carried out is a run of the machine
  pub run : (bytes : List ℕ) → IsTaken bytes s.definition peers → IsBuilt may peers s → RunsOver may s peers lines file_run.outcomes new
  pub leaves : left ≡ left_by new.world

-- What a run comes to after its opening: 1 where the definition is refused or the pool does not match it, 3 for want of memory. Nothing is
-- read unless the definition is built; and unless its build has begun the pool is left as it was.
abbrev pub Proceeds : Relations → List Peer → List Seen → Opening → List (List ℕ) → ℕ → Bool → Type 0 → Option (List ℕ) → Option (List ℕ) → List ℕ → Type 0
Proceeds may peers left (refused refusal) lines status torn unread first last text =
    unread × (left ≡ map seen_of peers) × Concludes (definition_refused refusal) 1 status torn text
Proceeds may peers left (rejected d fault) lines status torn unread first last text =
    unread × (left ≡ map seen_of peers) × Concludes (rejected_text d fault) 1 status torn text
Proceeds may peers left (mismatched d m) lines status torn unread first last text =
    unread × (left ≡ map seen_of peers) × Concludes (definition_mismatched m) 1 status torn text
Proceeds may peers left unbegun lines status torn unread first last text = unread × (left ≡ map seen_of peers) × Concludes nothing_begun 3 status torn text
Proceeds may peers left (stopped s) lines status torn unread first last text =
    unread × (left ≡ left_by s.world) × Concludes (lines_text s.world.transcript ++ build_stopped) 3 status torn text
Proceeds may peers left (built s) lines status torn unread first last text = Plays may peers left s lines status torn unread first last text

-- A run with these bytes of a definition, these peers, which may do this, and these event lines, whose writer failed or not, and whose reader
-- went from the first bytes to the last or was not read; and this pool is left.
pub record Ran (may : Relations) (peers : List Peer) (left : List Seen) (bytes : List ℕ) (lines : List (List ℕ)) (status : ℕ) (torn : Bool) (unread : Type 0) (first last : Option (List ℕ)) (text : List ℕ) : Type 0 where
  pub opening : Opening
  pub opens : Opens may peers bytes opening
  pub proceeds : Proceeds may peers left opening lines status torn unread first last text
