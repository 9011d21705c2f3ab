-- The step of a due call whose peer is open: how the machine follows it.
use Rattle.std.proofs.Common.{◌≡◌, refl, ap, sym, subst, ◌∙◌, true, List, ◌∷◌, map, Option, None, Some, Ok, Err, ℕ}
use Rattle.ui_machine.specs.declared.arm.Arm.{Arm}
use Rattle.ui_machine.specs.Definition.{Definition}
use Rattle.ui_machine.specs.Definition.Values.{Value}
use Rattle.ui_machine.specs.Instructions.Peers.{calling_on}
use Rattle.ui_machine.specs.State.Config.{Config, World, is_asked, peer_state}
use Rattle.ui_machine.specs.State.Peers.{Reply}
use Rattle.ui_machine.specs.State.Tasks.{Call, Calling, Task}
use Rattle.ui_machine.specs.Steps.{act, left}
use Rattle.law_peers.specs.Forgetting.{forgotten_reply}
use Rattle.native_peers.specs.Seen.{Asks, Relations, Seen}
use Rattle.engine_world.specs.Able.{LeadsToLiving}
use Rattle.engine_world.specs.Quiet.{IsQuiet}
use Rattle.engine_world.specs.Standing.{without_gone}
use Rattle.engine_dispatches.specs.Following.{Breaks, Follows, Point}
use Rattle.engine_dispatches.specs.PoolView.{IsAskable, Knows, with_seen}
use Rattle.engine_dispatches.specs.Safety.{ComesOfSafe, NoneUnheld}
use Rattle.engine_dispatches.proofs.Asking.{asked_acts, asked_aptly, asked_names, breaks_asked, follows_asked, open_there}
use Rattle.engine_dispatches.proofs.Closings.{asked_step_stays}
use Rattle.engine_dispatches.proofs.FirstCalls.{may_be_asked, reply_known}
use Rattle.engine_dispatches.proofs.Known.{known_still, opens_alike}
use Rattle.engine_dispatches.proofs.Living.{no_seen, read_at, shut_seen}
use Rattle.engine_dispatches.proofs.Points.{safe_knows}
use Rattle.engine_dispatches.proofs.Replies.{given, known_asked}

module _ (d : Definition) (may : Relations) (p : Point) (call : Call) (rest : List Task) {room : ℕ} (safe : ComesOfSafe d room p) (none : NoneUnheld d p.view)
    (first : p.view.agenda ≡ Calling call ∷ rest) (opened : is_asked p.view.world call.peer ≡ true) where
  knows : Knows p.view.world p.pool
  knows = safe_knows d safe

  pub askable : IsAskable p.pool call.peer call.method call.args
  askable =
      let there = open_there p.pool call.peer (opens_alike p.view.world p.pool call.peer knows ∙ opened) in
      record { definition = d; may = may_be_asked d p.pool call.peer call.method call.args there.0 there.1 there.2 (asked_aptly d may p call rest there.0 None there.0.state none first there.1 there.2 safe) }

  module _ (new : List Seen) (answer : Option Value) (asked : Asks call.peer p.pool new may call.method call.args answer) where
    is_open : asked.peer.state.is_open ≡ true
    is_open =
        ap (λ (s : Seen). s.state.is_open) (sym (read_at no_seen asked.peer p.pool call.peer asked.at))
        ∙ opens_alike p.view.world p.pool call.peer knows
        ∙ opened

    -- the reply as the engine knows it
    abbrev known_reply : Reply
    known_reply = record {
      question = record { peer = call.peer; state = peer_state p.view.world call.peer; method = call.method; args = call.args };
      answer = answer;
      state = peer_state p.view.world call.peer;
    }

    acts : act d p.view.world (Some (forgotten_reply (record {
      question = record { peer = call.peer; state = asked.peer.state; method = call.method; args = call.args };
      answer = answer;
      state = asked.after;
    }))) p.view.agenda p.view.counted
        ≡ left p.view.counted (calling_on d p.view.world call rest (Some known_reply))
    acts =
        ap (λ (ts : List Task). act d p.view.world (Some (forgotten_reply (record {
          question = record { peer = call.peer; state = asked.peer.state; method = call.method; args = call.args };
          answer = answer;
          state = asked.after;
        }))) ts p.view.counted) first
        ∙ ap (λ (r : Reply). left p.view.counted (calling_on d p.view.world call rest (Some r))) (reply_known p.view.world call p.pool new may answer knows asked)

    pub call_follows : (x : Config) → left p.view.counted (calling_on d p.view.world call rest (Some known_reply)) ≡ Ok x → without_gone x ≡ x → Follows d may p (record { pool = new; view = x })
    call_follows x is whole =
        follows_asked d may p call rest asked.peer answer asked.after none first asked.at is_open (given call.peer p.pool new may call.method call.args answer asked) x (acts ∙ is)
        (record { pool = new; view = x }) whole
        (known_still p.view.world x.world new (known_asked call.peer p.pool new may call.method call.args answer asked p.view.world knows) (asked_step_stays d p.view.world rest p.view.counted call known_reply refl x is))
        (ap (λ (l : List Seen). map shut_seen l) asked.new_state)

    pub call_breaks : (w : World) → IsQuiet p.view.world w → Breaks d may p (with_seen new w.peers) w.transcript
    call_breaks w quiet =
        breaks_asked d may p call rest asked.peer answer asked.after none first asked.at is_open (given call.peer p.pool new may call.method call.args answer asked) new w asked.new_state quiet

    pub call_names : LeadsToLiving (left p.view.counted (calling_on d p.view.world call rest (Some known_reply)))
    call_names =
        subst LeadsToLiving acts
        (asked_names d may p call rest asked.peer answer asked.after none first asked.at is_open safe (given call.peer p.pool new may call.method call.args answer asked))

    pub call_can : (arm : Arm) → left p.view.counted (calling_on d p.view.world call rest (Some known_reply)) ≡ Err arm → ⊥
    call_can arm is =
        asked_acts d may p call rest asked.peer answer asked.after none first asked.at is_open safe (given call.peer p.pool new may call.method call.args answer asked) arm (acts ∙ is)
