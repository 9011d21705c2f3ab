-- A session that began without peers.
use Rattle.std.proofs.Common.{◌≡◌, ℕ, List, [], Ok, Err, String, Global, sym, ap, subst, ◌∙◌, inl, inr}
use Rattle.std.specs.Prelude.{string_bytes}
use Rattle.ui_machine.specs.Prefix.{IsPrefix}
use Rattle.ui_machine.specs.State.Tasks.{Event}
use Rattle.builder_defs.specs.EventMeaning.{event_denoted}
use Rattle.native_peers.specs.Seen.{Seen}
use Rattle.native_peers.specs.declared.pooled_peers.Peers.{Ghosts}
use Rattle.engine_dispatches.specs.declared.dispatches.Reply.{Reply}
use Rattle.ui_engine.specs.declared.faults.SessionFault.{SessionFault}
use Rattle.ui_engine.specs.declared.session.Session.{Session}
use Rattle.ui_engine.specs.SessionView.{AnswersEvent, SessionState, state_at}
use Rattle.event_lines.specs.Events.{event_replies}
use Rattle.event_lines.specs.Opening as openings
use Rattle.event_lines.specs.Opening.{Opening, Opens}
use Rattle.event_lines.specs.LineOutcome.{dispatch_fault, outcome_of}
use Rattle.event_lines.specs.OpeningView.{IsOpening, Opened}
use Rattle.event_lines.specs.Texts.{lines_text}
use Rattle.event_lines.specs.declared.session_start.Opening.TheVariants as code
use Rattle.event_lines.proofs.EventLemmas.{answers_fault, answers_reply}
use Rattle.c_sessions.specs.Nobody.{nobody}
use Rattle.c_sessions.specs.Reached.{held}
use Rattle.c_sessions.specs.Starting.{IsBuilt, IsRefused, IsStopped}
use Rattle.c_sessions.specs.Since.{lines_since}
use Rattle.c_sessions.specs.Unread.{unread}
use Rattle.c_sessions.specs.declared.hosted_session.HostedSession.{HostedSession}

-- ** a start

module _ {P : Type 0} {g : Ghosts P} (see : P → List Seen) (bytes : List ℕ) (session : Session P g) where
  pub built_here : (o : Opening) → IsOpening see (code.Built session) o → Opens nobody [] bytes o → Opens nobody [] bytes (openings.built (state_at (see session.pool) session.core))
  built_here (openings.built s) is opens = subst (λ (t : SessionState). Opens nobody [] bytes (openings.built t)) (sym is) opens
  built_here (openings.refused r) is opens = absurd is
  built_here (openings.rejected d f) is opens = absurd is
  built_here (openings.mismatched d m) is opens = absurd is
  built_here openings.unbegun is opens = absurd is
  built_here (openings.stopped s) is opens = absurd is

  pub stopped_here : (o : Opening) → IsOpening see (code.Stopped session) o → Opens nobody [] bytes o → Opens nobody [] bytes (openings.stopped (state_at (see session.pool) session.core))
  stopped_here (openings.stopped s) is opens = subst (λ (t : SessionState). Opens nobody [] bytes (openings.stopped t)) (sym is) opens
  stopped_here (openings.refused r) is opens = absurd is
  stopped_here (openings.rejected d f) is opens = absurd is
  stopped_here (openings.mismatched d m) is opens = absurd is
  stopped_here openings.unbegun is opens = absurd is
  stopped_here (openings.built s) is opens = absurd is

pub refused_alone : {P : Type 0} {g : Ghosts P} {see : P → List Seen} {old : P} (bytes : List ℕ) (text : String Global) (pool : P) → Opened {g = g} see nobody [] old bytes (code.Refused text pool)
    → IsRefused bytes (string_bytes text)
refused_alone {P} {g} {see} {old} bytes text pool opened = by opened.opening opened.is opened.opens
  where
    by : (o : Opening) → IsOpening {g = g} see (code.Refused text pool) o → Opens nobody [] bytes o → IsRefused bytes (string_bytes text)
    by (openings.refused refusal) is opens = inl (inl (refusal, opens, is))
    by (openings.rejected d fault) is opens = inl (inr (d, fault, opens.0, opens.1, is))
    by (openings.mismatched d m) is opens = inr (d, m, opens.0, opens.1, opens.2, is)
    by openings.unbegun is opens = absurd is
    by (openings.stopped s) is opens = absurd is
    by (openings.built s) is opens = absurd is

-- ** an event

module _ (old new : SessionState) (line : List ℕ) (event : Event) (denotes : event_denoted old.definition line ≡ Ok event) (longer : IsPrefix old.world.transcript new.world.transcript) where
  pub says : (reply : Reply) → AnswersEvent nobody old.stopped (Ok reply) old event new → event_replies nobody old line (outcome_of {T = Unit {0}} (Ok tt) (lines_since old new)) new
  says reply answers = answers_reply nobody old line event denotes new longer reply answers

  pub halts : (fault : SessionFault) → AnswersEvent nobody old.stopped (Err fault) old event new
      → event_replies nobody old line (outcome_of {T = Unit {0}} (Err (dispatch_fault fault)) (lines_since old new)) new
  halts fault answers = answers_fault nobody old line event denotes new longer fault answers

-- ** a session that is held

module _ (bytes : List ℕ) (state : SessionState) (h : HostedSession) (is : held h ≡ state) (left : unread h ≡ lines_text state.world.transcript) where
  unread_here : unread h ≡ lines_text h.running.core.world.transcript
  unread_here = left ∙ ap (λ (s : SessionState). lines_text s.world.transcript) (sym is)

  pub is_built : Opens nobody [] bytes (openings.built state) → IsBuilt bytes h
  is_built opens = (subst (λ (s : SessionState). Opens nobody [] bytes (openings.built s)) (sym is) opens, unread_here)

  pub is_stopped : Opens nobody [] bytes (openings.stopped state) → IsStopped bytes h
  is_stopped opens = (subst (λ (s : SessionState). Opens nobody [] bytes (openings.stopped s)) (sym is) opens, unread_here)
