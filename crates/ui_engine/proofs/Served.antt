-- What a session asks of a dispatch, and what it keeps after it. The definition is named twice, as the code has it and as the session does.
use Rattle.std.proofs.Common.{◌≡◌, ◌≤◌, ℕ, List, None, Ok, length, sym, subst, arith}
use Rattle.ui_machine.specs.Definition.{Definition}
use Rattle.ui_machine.specs.Rules.Events.{refusal}
use Rattle.ui_machine.specs.Rules.MainLoop.{turned}
use Rattle.ui_machine.specs.Runs.{of_build}
use Rattle.ui_machine.specs.State.Config.{World}
use Rattle.ui_machine.specs.State.Tasks.{Event, Request}
use Rattle.ui_machine.specs.State.Tasks as config
use Rattle.definition_format.specs.Origin.{IsDenoted}
use Rattle.law_peers.specs.Needs.{mismatch}
use Rattle.law_peers.proofs.PoolProofs.{matched_is_ready}
use Rattle.law_reading.proofs.Held.{held_well}
use Rattle.law_typing.specs.Good.Requests.{RequestRead}
use Rattle.law_typing.specs.Laws.WellRead.{WellRead}
use Rattle.law_typing.specs.Verdict.Accepted.{Accepted}
use Rattle.native_peers.specs.Matching.{as_peers}
use Rattle.native_peers.specs.Seen.{Relations, Seen}
use Rattle.engine_dispatches.specs.declared.dispatches.Reply.{Reply}
use Rattle.engine_dispatches.specs.Courses.{MayBegin}
use Rattle.engine_dispatches.specs.Dispatched.{Carried}
use Rattle.engine_dispatches.specs.PoolView.{Knows, world_at}
use Rattle.engine_dispatches.specs.Promises.{BuildKeeps, EventKeeps, IsNumberable, Rests, IsRoomy}
use Rattle.engine_dispatches.specs.Safety.{IsSafe}
use Rattle.law_reading.proofs.LengthProofs.{denoted_are_short}
use Rattle.engine_dispatches.proofs.Keeping.{build_promised, build_rests, build_safe, serve_keeps, turn_event_keeps, turn_rests}
use Rattle.engine_dispatches.proofs.Points.{fitting}
use Rattle.engine_dispatches.proofs.Resting.{rests_here, rests_there}
use Rattle.ui_engine.specs.SessionView.{SessionState}
use Rattle.ui_engine.proofs.Beginning.{all_free}

module _ (d e : Definition) (same : e ≡ d) (from : IsDenoted e) where
  pub well : WellRead d
  well = held_well d (subst IsDenoted same from)

  pub well_here : WellRead e
  well_here = subst (λ (x : Definition). WellRead x) (sym same) well

  -- ** the build

  module _ (pool : List Seen) (matches : mismatch d (as_peers pool) ≡ None) where
    -- where it has few places
    numberable : length e.places ≤ 512 → IsNumberable d
    numberable few = subst IsNumberable same (record { places = omega (arith, few); signals = (let signals = (denoted_are_short e from).signals in omega (arith, signals)) })

    pub builds_safely : (room : ℕ) → IsRoomy d room → length e.places ≤ 512 → Accepted d → IsSafe e room (of_build d (as_peers pool))
    builds_safely room roomy few a =
        subst (λ (x : Definition). IsSafe x room (of_build d (as_peers pool))) (sym same)
        (build_safe d well (as_peers pool) (matched_is_ready d (as_peers pool) matches (all_free pool)) room roomy (numberable few) a)

    pub built_rests : length e.places ≤ 512 → (may : Relations) (reply : Reply) (left : List Seen) (new : World) → Carried (Ok reply) d may (of_build d (as_peers pool)) (world_at left new) → Knows new left → Rests d new
    built_rests few may reply left new carried knows =
        rests_here d left new knows
        (build_rests d well (as_peers pool) (matched_is_ready d (as_peers pool) matches (all_free pool)) (numberable few) carried.0.replies (fitting d may carried.0.replies carried.0.given) reply.steps (world_at left new) carried.0.so)

    pub build_keeps : BuildKeeps d (as_peers pool)
    build_keeps = build_promised d well (as_peers pool) (matched_is_ready d (as_peers pool) matches (all_free pool))

  module _ (pool : List Seen) (w : World) (knows : Knows w pool) (rests : Rests d w) where
    pub rests_so : Rests d (world_at pool w)
    rests_so = rests_there d pool w knows rests

    -- ** requests

    module _ (r : Request) (read : RequestRead d r) where
      pub request_kept : refusal w (config.request r) ≡ None → EventKeeps d (world_at pool w) (config.request r)
      request_kept none = serve_keeps d well (world_at pool w) rests_so r read none

      pub request_may_begin : refusal w (config.request r) ≡ None → MayBegin d (config.request r) (world_at pool w)
      request_may_begin none = record { read = read; goes = none; rests = rests_so }

    -- ** turns

    pub turn_kept : (moment : ℕ) → EventKeeps d (world_at pool w) (config.turn moment)
    turn_kept moment = turn_event_keeps d well (world_at pool w) rests_so moment

    pub turn_may_begin : (moment : ℕ) → refusal w (config.turn moment) ≡ None → MayBegin d (config.turn moment) (world_at pool w)
    turn_may_begin moment none = record { read = tt; goes = none; rests = rests_so }

  pub turned_rests : (w : World) (moment : ℕ) → Rests d w → Rests d (turned d w moment)
  turned_rests w moment rests = turn_rests d well w moment rests

-- ** where the code names a session otherwise

pub knows_inside : (pool : List Seen) {s t : SessionState} → s ≡ t → Knows t.world pool → Knows s.world pool
knows_inside pool same knows = subst (λ (x : SessionState). Knows x.world pool) (sym same) knows

pub kept_as : (pool : List Seen) (event : Event) {s t : SessionState} → s ≡ t → (refusal s.world event ≡ None → EventKeeps s.definition (world_at pool s.world) event) → refusal t.world event ≡ None
    → EventKeeps t.definition (world_at pool t.world) event
kept_as pool event same keeps none =
    subst (λ (x : SessionState). EventKeeps x.definition (world_at pool x.world) event) same (keeps (subst (λ (x : SessionState). refusal x.world event ≡ None) (sym same) none))
