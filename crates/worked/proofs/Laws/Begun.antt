-- A run that was played has begun a request's dispatch, and after some steps what is good still holds.
use Rattle.std.proofs.Common.{◌≡◌, refl, ℕ, Bool, true, false, List, [], ◌∷◌, ◌++◌, Option, None, Some, Ok, Err}
use Rattle.ui_machine.specs.Definition.{Definition}
use Rattle.ui_machine.specs.Definition.Places.{Place}
use Rattle.ui_machine.specs.State.Tasks.{Event, Request, request}
use Rattle.ui_machine.specs.State.Config.{World, Config}
use Rattle.ui_machine.specs.Rules.Events.{Refusal, gone, refusal, names_released}
use Rattle.ui_machine.specs.State.Peers.{Peer}
use Rattle.ui_machine.specs.Runs.{of_build, of_request, first_world}
use Rattle.ui_machine.specs.Outcome.{Answer}
use Rattle.law_typing.specs.Rules.Brackets.{is_empty}
use Rattle.law_typing.specs.Graph.Channels.{Entry}
use Rattle.law_typing.specs.Graph.Channels as entries
use Rattle.law_typing.specs.Verdict.{verdict, accepted}
use Rattle.law_typing.specs.Verdict.Accepted.{Each, Accepted}
use Rattle.law_typing.specs.Laws.WellRead.{WellRead}
use Rattle.law_typing.specs.Laws.StepsKeepGood.{PoolReady, PeerReady, IsGood, bound_of}
use Rattle.law_typing.specs.Laws.MidRun.{after}
use Rattle.law_typing.specs.Good.Requests.{RequestRead, entry_of}
use Rattle.law_typing.proofs.Numbered.{all_from, all_from_get}
use Rattle.law_typing.proofs.JudgedProofs.{judged_is_accepted}
use Rattle.law_static.proofs.BuildCostProofs.{build_begins}
use Rattle.law_static.proofs.RequestProofs.{requests_begin}
use Rattle.law_steps.proofs.Tasked.StepsProofs.{steps_keep_good}
use Rattle.law_steps.specs.Served.Sessions.{Serves, EventRead}
use Rattle.law_steps.proofs.Served.SessionProofs.{runs_rest}
use Rattle.law_steps.proofs.Served.DispatchProofs.{stays}
use Rattle.law_steps.proofs.Served.EntryProofs.{IsPrinted, build_printed, request_printed, printed_few}
use Rattle.machine_rows.specs.Play.{Played, played}
use Rattle.machine_rows.proofs.PlayLaw.{played_is_run}
use Rattle.worked.specs.Laws.Middles.{Amid, AmidBuild, Look, look_of}
use Rattle.worked.proofs.Laws.Silent.{is_silent, steps_of, none_replied}

-- no place names a peer
abbrev pub names_no_peer : Definition → Bool
names_no_peer d = all_from (λ n (p : Place). is_empty p.peers) 0 d.places

pub pool_ready : (d : Definition) → names_no_peer d ≡ true → PoolReady d []
pool_ready d e place p is = none p.peers (all_from_get (λ n (p : Place). is_empty p.peers) d.places place p e is)
  where
    none : (names : List (List ℕ)) → is_empty names ≡ true → Each (PeerReady d [] p) names
    none [] e = tt
    none (x ∷ names) e = absurd (cc)

-- a world that was played, where one was
abbrev pub world_of : Definition → List Peer → Answer (Played World) → World
world_of d peers (Ok p) = p.at
world_of d peers (Err arm) = first_world d peers

-- the world after the build and these events
abbrev pub world_after : Definition → List Peer → List Event → World
world_after d peers events = world_of d peers (played d peers events [])

-- where so many steps lead, if they are not stuck
abbrev pub config_of : Config → Answer Config → Config
config_of c (Ok e) = e
config_of c (Err arm) = c

abbrev pub config_after : ℕ → Definition → Config → Config
config_after n d c = config_of c (after n d c)

-- the run over some events that was played leads to a world in which the next one is served
pub served : (d : Definition) (peers : List Peer) (before later : List Event) (event : Event) (w : World) →
    played d peers before [] ≡ Ok (record { at = w; script = [] }) → refusal w event ≡ None → Serves d peers (before ++ event ∷ later) event w
served d peers before later event w is free =
    let s = played_is_run d peers before [] (record { at = w; script = [] }) is in
    record {
      before = before;
      later = later;
      is = refl;
      replies = s.replies;
      fit = none_replied d s.replies s.given;
      tally = s.tally;
      run = s.run;
      accepted = free;
    }

not_released : (w : World) (r : Request) → refusal w (request r) ≡ None → names_released w r ≡ false
not_released w r = go (names_released w r)
  where
    go : (b : Bool) → ◌≡◌ {A = Option Refusal} (elim b [ true ↦ Some gone | false ↦ None ]) None → b ≡ false
    go true e = absurd (cc)
    go false e = refl

-- a definition that is judged to be accepted, and a pool that is ready for it
module _ (d : Definition) (lines : List (List ℕ)) (well : WellRead d) (judged : verdict d ≡ accepted lines) (peers : List Peer)
    (ready : PoolReady d peers) where
  is_accepted : Accepted d
  is_accepted = (judged_is_accepted d lines well.types.inherits judged).0

  -- what is good where an entry's dispatch begins is so after some steps
  still : (a : Accepted d) (e : Entry) (c : Config) → IsPrinted d a e → IsGood d a (bound_of d a e) c → (n : ℕ) → is_silent n d c ≡ true →
      (at : Config) → after n d c ≡ Ok at → IsGood d a (bound_of d a e) at
  still a e c printed good n silent at leads =
      stays steps_keep_good d well a (bound_of d a e) (printed_few d a well e printed) [] tt c at good
      (record { count = n; steps = steps_of n d c at silent leads })

  pub amid : (before : List Event) → Each (EventRead d) before → (r : Request) → RequestRead d r → (w : World) →
      played d peers before [] ≡ Ok (record { at = w; script = [] }) → refusal w (request r) ≡ None → (n : ℕ) →
      is_silent n d (of_request w r) ≡ true → (at : Config) → after n d (of_request w r) ≡ Ok at → (look : Look) → look_of at ≡ look →
      Amid d peers before r n look
  unfolding served
  amid before read r fits w is free n silent at leads look looks =
      let s = served d peers before [] (request r) w is free in
      record {
        well = well;
        accepted = is_accepted;
        ready = ready;
        world = w;
        serves = s;
        at = at;
        reached = leads;
        looks = looks;
        good = λ a.
            (let rest = runs_rest d well a peers ready before read s.replies s.fit s.tally w s.run in
            still a (entry_of d r) (of_request w r) (request_printed d a r) (requests_begin d well a w rest r fits (not_released w r free)) n
            silent at leads);
      }

  pub amid_build : (n : ℕ) → is_silent n d (of_build d peers) ≡ true → (at : Config) → after n d (of_build d peers) ≡ Ok at → (look : Look) →
      look_of at ≡ look → AmidBuild d peers n look
  amid_build n silent at leads look looks = record {
    well = well;
    accepted = is_accepted;
    ready = ready;
    at = at;
    reached = leads;
    looks = looks;
    good = λ a. still a entries.build (of_build d peers) (build_printed d a) (build_begins d well a peers ready) n silent at leads;
  }
