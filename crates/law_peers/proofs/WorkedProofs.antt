-- The worked run with a peer, and the worked step.
use Rattle.std.specs.Fmt.{digits}
use Rattle.std.proofs.Common.{refl, zero, suc}
use Rattle.ui_machine.specs.Rules.Construction.{making, apply_construct_property, constructed, thawing_made}
use Rattle.ui_machine.specs.Rules.Build.{set_forward, held_data, building_child, building_forward, building_binding, building_handler, building_object}
use Rattle.ui_machine.specs.Instructions.Peers.{with_method, left_with, called, uncalled, calling}
use Rattle.ui_machine.specs.Rules.Connections.{detail_at, detail_in}
use Rattle.ui_machine.specs.Rules.Disposal.{closing, finalised}
use Rattle.ui_machine.specs.Rules.EmissionPlan.{notifying, signal_at, beginning_emission}
use Rattle.ui_machine.specs.Rules.Children.{adopted}
use Rattle.ui_machine.specs.Instructions.Registers.{moving, values_in, truth_in, text_in, whole_in, operand_in, data_in, written_to}
use Rattle.ui_machine.specs.Instructions.Arithmetic.{reckoning, comparing, sameness, negating, conjunction, disjunction, joining, converting}
use Rattle.ui_machine.specs.Instructions.Properties.{slot_at, get_property, set_from, set_property, then_goes_on, notify_from_program}
use Rattle.ui_machine.specs.Instructions.Objects.{look_up_object, made_new, creating, sinking, orphaning, disposing, adopting, freezing, thaw_notify}
use Rattle.ui_machine.specs.Instructions.Signals.{signal_in, signal_to_emit, emitting, connecting, on_handlers}
use Rattle.ui_machine.specs.Instructions.Sources.{attaching, removing}
use Rattle.ui_machine.specs.Instructions.Jumps.{jumping, branching, branching_null, block_in, given_by, returned, returning}
use Rattle.ui_machine.specs.State.Objects.{asked, changed, with_value}
use Rattle.ui_machine.specs.Rules.Programs.{beginning_program, program_before}
use Rattle.ui_machine.specs.Rules.Accumulation.{down_to_emission, down_to_source, received_by, ending, collecting, resulting}
use Rattle.ui_machine.specs.Instructions.{in_front, running}
use Rattle.ui_machine.specs.Rules.Sets.{spec_at, raising, written, setting}
use Rattle.ui_machine.specs.Rules.Events.{set_given, set_from_event, get_from_event, given_values, emit_from_event, release_from_event}
use Rattle.ui_machine.specs.Steps.{finalising, left}
use Rattle.ui_machine.specs.Rules.MainLoop.{sourcing}
use Rattle.ui_machine.specs.Rules.Transfers.{carried}
use Rattle.std.proofs.Common.{◌≡◌, ap, subst, ℕ, Bool, true, false, not, nat_eq, [], Ok, Err, None}
use Rattle.std.specs.Prelude.{◌&&◌}
use Rattle.ui_machine.specs.Outcome.{Answer, ◌>>=◌}
use Rattle.std.proofs.lemmas.Bool.{eqb-true}
use Rattle.ui_machine.specs.Runs.{of_build}
use Rattle.ui_machine.specs.State.Config.{World}
use Rattle.machine_rows.specs.Play.{Played, played}
use Rattle.machine_rows.specs.Runs.LastReference.{definition, events, replies, lines}
use Rattle.machine_rows.proofs.WorkedRuns.{lastreference_holds}
use Rattle.machine_rows.proofs.PlayLaw.{played_is_run}
use Rattle.law_peers.specs.PeerLines.{has_no_point, peer_lines}
use Rattle.law_peers.specs.PeerLaws.{Lives, peer_in}
use Rattle.law_peers.specs.WorkedPeers.{WorkedLife, WorkedBlind, pool, said_of_it}
use Rattle.law_peers.proofs.BlindProofs.{step_is_blind}
use Rattle.law_peers.proofs.LifeProofs.{each_lives}
use Rattle.law_peers.proofs.RunLives.{run_lives}

-- a world in which the peer has counted one call, and is closed
counted_and_shut : World → Bool
counted_and_shut w = nat_eq (peer_in w.peers 0).state.calls 1 && not (peer_in w.peers 0).state.is_open

ends_shut : Answer (Played World) → Bool
ends_shut (Ok p) = counted_and_shut p.at
ends_shut (Err arm) = false

shut_at_end : ends_shut (played definition pool events replies) ≡ true
unfolding ends_shut counted_and_shut digits making apply_construct_property set_forward closing finalised detail_at detail_in set_given finalising constructed thawing_made held_data building_child building_forward building_binding building_handler with_method left_with called uncalled notifying signal_at beginning_emission adopted moving reckoning comparing sameness negating conjunction disjunction joining converting slot_at get_property set_from set_property then_goes_on notify_from_program look_up_object made_new creating sinking orphaning disposing adopting freezing thaw_notify signal_in signal_to_emit emitting connecting on_handlers attaching removing calling jumping branching branching_null asked changed with_value beginning_program program_before values_in truth_in text_in whole_in operand_in data_in written_to down_to_emission down_to_source received_by ending block_in given_by returned returning in_front running spec_at raising written setting building_object set_from_event get_from_event given_values emit_from_event release_from_event sourcing left carried collecting resulting
shut_at_end = refl

calls_one : (n : ℕ) (b : Bool) → (nat_eq n 1 && not b) ≡ true → n ≡ 1
calls_one n b e = by (nat_eq n 1) refl e
  where
    by : (t : Bool) → nat_eq n 1 ≡ t → (t && not b) ≡ true → n ≡ 1
    by true h e = eqb-true n 1 h
    by false h e = absurd (cc)

is_shut : (n : ℕ) (b : Bool) → (nat_eq n 1 && not b) ≡ true → b ≡ false
is_shut n false e = refl
is_shut n true e = by (nat_eq n 1) e
  where
    by : (t : Bool) → (t && false) ≡ true → true ≡ false
    by true e = absurd (cc)
    by false e = absurd (cc)

plain : (k : ℕ) → has_no_point (peer_in pool k).name ≡ true
plain zero = refl
plain (suc k) = refl

alone : (k : ℕ) → (peer_in pool k).name ≡ (peer_in pool 0).name → k ≡ 0
alone zero e = refl
alone (suc k) e = absurd (cc)

pub worked_life : WorkedLife
unfolding ends_shut counted_and_shut
worked_life = go (played definition pool events replies) refl lastreference_holds shut_at_end
  where
    go : (a : Answer (Played World)) → played definition pool events replies ≡ a → (a >>= λ (p : Played World). Ok p.at.transcript) ≡ Ok lines → ends_shut a ≡ true → WorkedLife
    go (Err arm) e shows ends = absurd (cc)
    go (Ok p) e shows ends =
        let s = played_is_run definition pool events replies p e in
        let transcript : p.at.transcript ≡ lines = cc in
        let said : peer_lines p.at.transcript ≡ said_of_it = ap peer_lines transcript in
        let lives : Lives definition pool s.replies said_of_it p.at.peers =
        subst (λ ls. Lives definition pool s.replies ls p.at.peers) said (run_lives definition pool events s.replies s.tally p.at s.run) in
        record {
          replies = s.replies;
          tally = s.tally;
          new = p.at;
          run = s.run;
          said = said;
          lives = lives;
          by = each_lives definition 0 pool s.replies said_of_it p.at.peers lives;
          apart = record { plain = plain; alone = alone };
          called = calls_one (peer_in p.at.peers 0).state.calls (peer_in p.at.peers 0).state.is_open ends;
          closed = is_shut (peer_in p.at.peers 0).state.calls (peer_in p.at.peers 0).state.is_open ends;
        }

pub worked_blind : WorkedBlind
unfolding making building_object digits
worked_blind = record {
  meets_none = refl;
  leads = refl;
  same = step_is_blind definition None (of_build definition pool) [] refl;
}
