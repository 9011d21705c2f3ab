-- A whole run, computed: the build and a list of events, where the replies of the peers are given as a script.
use Rattle.std.specs.Prelude.{ℕ, zero, suc, Bool, true, false, ◌&&◌, List, [], ◌∷◌, Option, None, Some, Ok, Err, is_none}
use Rattle.ui_machine.specs.declared.arm.Arm.TheVariants as arms
use Rattle.ui_machine.specs.Definition.Values.{Value}
use Rattle.ui_machine.specs.Definition.{Definition}
use Rattle.ui_machine.specs.Output.Lines as lines
use Rattle.ui_machine.specs.State.Tasks as config
use Rattle.ui_machine.specs.State.Peers.{PeerState, Peer, Question, Reply}
use Rattle.ui_machine.specs.State.Sources.{Source, source_of}
use Rattle.ui_machine.specs.State.Tasks.{Due, Event}
use Rattle.ui_machine.specs.State.Config.{World, Config, said}
use Rattle.ui_machine.specs.Outcome.{Answer, ◌>>=◌}
use Rattle.ui_machine.specs.State.References.{next_unheld, mentions}
use Rattle.ui_machine.specs.Steps.{step, question}
use Rattle.ui_machine.specs.Runs.{one_more, faults_after, beginning, of_build, of_request}
use Rattle.ui_machine.specs.Rules.Events.{Refusal, refusal}
use Rattle.ui_machine.specs.Rules.MainLoop.{turned, ready_at}

-- what a peer replies, as a row says it: a value or a fault, and the values of its state from then on
pub record Scripted : Type 0 where
  pub answer : Option Value
  pub values : List Value

-- this answer, and the state that it goes to
abbrev pub scripted : Option Value → List Value → Scripted
scripted answer state = record { answer = answer; values = state }

-- something, and the script that is left
pub record Played (A : Type 0) : Type 0 where
  pub at : A
  pub script : List Scripted

abbrev pub with_script : {A : Type 0} → List Scripted → Answer A → Answer (Played A)
with_script script (Ok x) = Ok (record { at = x; script = script })
with_script script (Err arm) = Err arm

-- ** steps

-- the reply to a question that is scripted so
abbrev pub reply_to : Question → Scripted → Reply
reply_to q s = record {
  question = q;
  answer = s.answer;
  state = record q.state { calls = one_more q.state.calls; faults = faults_after s.answer q.state.faults; values = s.values };
}

-- one step, where a peer that is asked gives the first reply of the script
abbrev pub step_with : Definition → Config → List Scripted → Option Question → Answer (Played Config)
step_with d c script None = with_script script (step d None c)
step_with d c [] (Some q) = Err arms.Call
step_with d c (s ∷ script) (Some q) = with_script script (step d (Some (reply_to q s)) c)

abbrev pub played_step : Definition → Config → List Scripted → Answer (Played Config)
played_step d c script = step_with d c script (question d c)

-- ** dispatches

abbrev pub is_empty : {A : Type 0} → List A → Bool
is_empty [] = true
is_empty (x ∷ xs) = false

-- whether nothing is left to do
abbrev pub has_ended : Definition → Config → Bool
has_ended d c = is_empty c.agenda && (is_empty c.world.floating && is_none (next_unheld (mentions d c) c.world.objects))

-- the end of a dispatch that has so many steps at most, counted or not
abbrev pub played_out : ℕ → Definition → Config → List Scripted → Answer (Played Config)
played_out zero d c script = Err arms.Steps
played_out (suc n) d c script =
    elim (has_ended d c) [
      | true ↦ Ok (record {
        at =
            c;
        script = script;
      })
      | false ↦ played_step d c script >>= (λ p. played_out n d p.at p.script)
    ]

-- the most steps of a dispatch that is played
abbrev pub most_played : ℕ
most_played = 100_000

abbrev pub ended_world : Definition → Played Config → Played World
ended_world d p = record { at = said d p.at.world (lines.end p.at.counted); script = p.script }

-- the world after a dispatch
abbrev pub dispatched : Definition → Config → List Scripted → Answer (Played World)
dispatched d c script = played_out most_played d c script >>= (λ p. Ok (ended_world d p))

-- ** events

abbrev pub unplayed : World → List Scripted → Answer (Played World)
unplayed w script = Ok (record { at = w; script = script })

abbrev pub source_played : Definition → World → List Scripted → ℕ → Option Source → Answer (Played World)
source_played d w script source None = unplayed w script
source_played d w script source (Some s) = dispatched d (beginning w (Due source)) script

abbrev pub sources_played : Definition → World → List Scripted → List ℕ → Answer (Played World)
sources_played d w script [] = unplayed w script
sources_played d w script (source ∷ more) =
    source_played d w script source (source_of source w.sources) >>= (λ p. sources_played d p.at p.script more)

abbrev pub done : Definition → World → List Scripted → Event → Answer (Played World)
done d w script (config.request r) = dispatched d (of_request w r) script
done d w script (config.turn moment) = sources_played d (turned d w moment) script (ready_at w moment)

-- a refused event does nothing
abbrev pub unless_refused : Definition → World → List Scripted → Event → Option Refusal → Answer (Played World)
unless_refused d w script event (Some why) = unplayed w script
unless_refused d w script event None = done d w script event

abbrev pub event_played : Definition → World → List Scripted → Event → Answer (Played World)
event_played d w script event = unless_refused d w script event (refusal w event)

abbrev pub events_played : Definition → World → List Scripted → List Event → Answer (Played World)
events_played d w script [] = unplayed w script
events_played d w script (event ∷ events) = event_played d w script event >>= (λ p. events_played d p.at p.script events)

-- the world after the build and the events
abbrev pub played : Definition → List Peer → List Event → List Scripted → Answer (Played World)
played d peers events script = dispatched d (of_build d peers) script >>= (λ p. events_played d p.at p.script events)

-- what the run of a definition shows, over these events
abbrev pub shown : Definition → List Peer → List Event → List Scripted → Answer (List (List ℕ))
shown d peers events script = played d peers events script >>= (λ p. Ok p.at.transcript)

-- what is played comes to these lines, with the value that the last event reported
abbrev pub ends_in : Definition → List Peer → List Event → List Scripted → Answer (List (List ℕ) × Option Value)
ends_in d peers events script = played d peers events script >>= (λ p. Ok (p.at.transcript, p.at.result))
