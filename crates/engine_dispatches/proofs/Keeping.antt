-- What keeps a session from ever being stuck: each dispatch begins where a law says so, and leaves the world at rest.
use Rattle.std.proofs.Common.{◌≡◌, ℕ, List, [], ◌∷◌, Option, None, Some, false, subst, arith}
use Rattle.ui_machine.specs.Definition.{Definition}
use Rattle.ui_machine.specs.Rules.Events.{names_released, refusal}
use Rattle.ui_machine.specs.Rules.MainLoop.{turned}
use Rattle.ui_machine.specs.Runs.{Dispatches, Fits, Reaches, RunsSource, RunsSources, Tally, beginning, of_build, of_request}
use Rattle.ui_machine.specs.State.Config.{Config, World}
use Rattle.ui_machine.specs.State.Peers.{Peer, Reply}
use Rattle.ui_machine.specs.State.Sources.{Source, is_numbered, source_of}
use Rattle.ui_machine.specs.State.Tasks.{Due, Request}
use Rattle.ui_machine.specs.State.Tasks as config
use Rattle.law_typing.specs.Good.Bindings.{SourceGood}
use Rattle.law_typing.specs.Good.Standing.{standing}
use Rattle.law_typing.specs.Good.Requests.{RequestRead, entry_of}
use Rattle.law_typing.specs.Graph.{graph}
use Rattle.law_typing.specs.Graph.Channels.{Entry}
use Rattle.law_typing.specs.Graph.Channels as entries
use Rattle.law_typing.specs.Graph.Depths.{depth}
use Rattle.law_typing.specs.Laws.StepsKeepGood.{IsGood, IsResting, PoolReady, bound_of}
use Rattle.law_typing.specs.Laws.WellRead.{WellRead}
use Rattle.law_typing.specs.Verdict.Accepted.{Accepted, Each}
use Rattle.law_static.proofs.BuildCostProofs.{build_begins}
use Rattle.law_static.proofs.RequestProofs.{requests_begin}
use Rattle.law_static.proofs.SourceProofs.{sources_begin}
use Rattle.law_typing.proofs.Lists.{each_in}
use Rattle.law_typing.proofs.OneSolutionProofs.{find_in}
use Rattle.law_steps.proofs.Tasked.StepsProofs.{steps_keep_good}
use Rattle.law_steps.specs.Served.Dispatches.{Keeps}
use Rattle.law_steps.proofs.Served.DispatchProofs.{both_fit}
use Rattle.law_steps.proofs.Served.EntryProofs.{IsPrinted, build_printed, printed_few, request_printed, source_printed}
use Rattle.law_steps.proofs.Served.KeepsProofs.{keeps}
use Rattle.law_steps.proofs.Served.SessionProofs.{not_released, request_keeps, runs_source, source_keeps, turns}
use Rattle.law_steps.proofs.Served.ThroughoutProofs.{throughout}
use Rattle.law_runs.proofs.LivingProofs.{all_living}
use Rattle.law_runs.proofs.MeaningProofs.{good_means}
use Rattle.law_runs.specs.Meanings.{HasMeanings}
use Rattle.law_typing.specs.Good.Living.{AllNamesLiving}
use Rattle.law_runs.specs.Kin.{HasKinMade}
use Rattle.law_runs.proofs.HandlerProofs.{builds_have_handler_numbers, handler_numbers_last, requests_have_handler_numbers, sources_have_handler_numbers}
use Rattle.law_runs.proofs.RunProofs.{builds_have_identities, builds_have_kin_made, identities_last, requests_have_identities, sources_have_identities}
use Rattle.law_runs.specs.Stacks.{IsStacked}
use Rattle.law_runs.proofs.ShortProofs.{stacked_are_short}
use Rattle.law_runs.proofs.StepProofs.{stacks_last}
use Rattle.engine_dispatches.proofs.KinMade.{kin_made}
use Rattle.engine_dispatches.specs.Promises.{BuildKeeps, EventKeeps, IsNumberable, IsNumbered, IsRoomy, Rests, by_request, by_source}
use Rattle.engine_dispatches.specs.Safety.{HasNumbersLeft, IsSafe}
use Rattle.engine_dispatches.proofs.Apt.{asks_on}

module _ (d : Definition) where
  -- the lines do not matter
  pub other_lines_rest : (w : World) (lines : List (List ℕ)) → Rests d w → Rests d (record w { transcript = lines })
  other_lines_rest w lines rests a =
      let r = (rests a).0 in (
        record {
          objects = λ id o e. (let g = r.objects id o e in record {
            place = g.place;
            is = g.is;
            class = g.class;
            values = g.values;
            children = g.children;
            parent = g.parent;
            queue = g.queue;
            apart = g.apart;
            peer = g.peer;
          });
          handlers = r.handlers;
          bindings = r.bindings;
          sources = r.sources;
          peers = r.peers;
          document = r.document;
          held = r.held;
          floating = r.floating;
          thawed = r.thawed;
          few = r.few;
        },
        record { objects = (rests a).1.objects; handlers = (rests a).1.handlers },
      )

  pub without_lines_rests : (w : World) → Rests d w → Rests d (record w { transcript = [] })
  without_lines_rests w rests = other_lines_rest w [] rests

  -- a run leaves as many numbers as are needed
  numbers_last : (c : Config) → HasKinMade c.world → HasNumbersLeft c → (replies : List Reply) (e : Config) → Reaches d replies c e → HasNumbersLeft e
  numbers_last c kin left replies e reached =
      record { identities = identities_last d replies c e reached kin left.identities; handlers = handler_numbers_last d replies c e reached left.handlers }

  -- a dispatch makes no more objects than there are identities, and gives no more numbers to handlers than there are
  numbered_by : (c : Config) → HasKinMade c.world → HasNumbersLeft c → (replies : List Reply) (count : ℕ) (new : World) → Dispatches d replies c count new → IsNumbered new
  numbered_by c kin left replies count new s =
      let last = numbers_last c kin left replies s.at s.reached in
      let identities = last.identities in
      let handlers = last.handlers in
      subst IsNumbered s.leaves (record { objects = omega (arith, identities); handlers = omega (arith, handlers) })

  -- and leaves the world at rest
  rests_by : (c : Config) → ((a : Accepted d) → (e : Entry) × Keeps d a e c) → ((a : Accepted d) → HasKinMade c.world × HasNumbersLeft c) → (replies : List Reply) → Each (Fits d) replies
      → (count : ℕ) (new : World) → Dispatches d replies c count new → Rests d new
  rests_by c keeps left replies fit count new dispatches a =
      (((keeps a).1.ends replies fit count new dispatches).1, numbered_by c (left a).0 (left a).1 replies count new dispatches)

  module _ (well : WellRead d) where
    -- what begins well is safe
    safe_by : (room : ℕ) → IsRoomy d room → (a : Accepted d) (e : Entry) (c : Config) → IsPrinted d a e → IsGood d a (bound_of d a e) c → HasNumbersLeft c → IsStacked c.agenda → IsSafe d room c
    safe_by room roomy a e c printed good left stacked =
        let few = printed_few d a well e printed in
        let kept = keeps steps_keep_good d well a e c few printed good in
        record {
          most = depth (graph d) a.weighed.depths;
          safe = record { unstuck = kept.never_stuck; shallow = kept.shallow };
          asks = asks_on d a (bound_of d a e) steps_keep_good well few c good;
          names = throughout d (AllNamesLiving d) (all_living d) well a (bound_of d a e) few c good;
          meanings = throughout d (HasMeanings d) (good_means d) well a (bound_of d a e) few c good;
          few = λ replies fit at reached.
              let short = stacked_are_short at.agenda (stacks_last d replies c at reached stacked) in
              let shallow = kept.shallow replies fit at reached in
              let enough = roomy a in
              (omega (arith, short, shallow, enough), omega (arith, shallow, enough));
          numbers = λ replies fit at reached. numbers_last c (kin_made d c.world good.objects) left replies at reached;
        }

    -- ** the build

    module _ (peers : List Peer) (ready : PoolReady d peers) where
      pub build_promised : BuildKeeps d peers
      build_promised a = keeps steps_keep_good d well a entries.build (of_build d peers) (printed_few d a well entries.build (build_printed d a)) (build_printed d a) (build_begins d well a peers ready)

      -- a build begins with numbers for all that it makes and connects
      build_numbered : IsNumberable d → HasNumbersLeft (of_build d peers)
      build_numbered few = record { identities = builds_have_identities d peers few.places; handlers = builds_have_handler_numbers d peers few.signals }

      pub build_safe : (room : ℕ) → IsRoomy d room → IsNumberable d → Accepted d → IsSafe d room (of_build d peers)
      build_safe room roomy few a = safe_by room roomy a entries.build (of_build d peers) (build_printed d a) (build_begins d well a peers ready) (build_numbered few) tt

      pub build_rests : IsNumberable d → (replies : List Reply) → Each (Fits d) replies → (count : ℕ) (new : World) → Dispatches d replies (of_build d peers) count new → Rests d new
      build_rests few = rests_by (of_build d peers) (λ a. (_, build_promised a)) (λ a. (builds_have_kin_made d peers, build_numbered few))

    -- ** requests

    module _ (w : World) (rests : Rests d w) (r : Request) (read : RequestRead d r) (held : names_released w r ≡ false) where
      request_promised : (a : Accepted d) → Keeps d a (entry_of d r) (of_request w r)
      request_promised a = request_keeps steps_keep_good d well a w (rests a).0 r read held

      request_numbered : Accepted d → HasNumbersLeft (of_request w r)
      request_numbered a = record { identities = requests_have_identities d w r (rests a).1.objects; handlers = requests_have_handler_numbers d w r (rests a).1.handlers }

      pub request_safe : (room : ℕ) → IsRoomy d room → Accepted d → IsSafe d room (of_request w r)
      request_safe room roomy a =
          safe_by room roomy a (entry_of d r) (of_request w r) (request_printed d a r) (requests_begin d well a w (rests a).0 r read held) (request_numbered a) tt

      pub request_rests : (replies : List Reply) → Each (Fits d) replies → (count : ℕ) (new : World) → Dispatches d replies (of_request w r) count new → Rests d new
      request_rests = rests_by (of_request w r) (λ a. (_, request_promised a)) (λ a. (kin_made d w (rests a).0.objects, request_numbered a))

      request_event_keeps : EventKeeps d w (config.request r)
      request_event_keeps a e c (by_request s) = request_promised a

    -- a request that is not refused keeps its promise
    pub serve_keeps : (w : World) → Rests d w → (r : Request) → RequestRead d r → refusal w (config.request r) ≡ None → EventKeeps d w (config.request r)
    serve_keeps w rests r read none a e c begins = request_event_keeps w rests r read (not_released steps_keep_good d well a w r none) a e c begins

    -- ** sources

    source_known : (a : Accepted d) (w : World) → IsResting d a w → (number : ℕ) (s : Source) → source_of number w.sources ≡ Some s → SourceGood d (standing w.objects) s
    source_known a w rest number s is = each_in (SourceGood d (standing w.objects)) w.sources rest.sources s (find_in (is_numbered number) w.sources s is).0

    -- a source of a world that is numbered begins so
    source_numbered : (w : World) (number : ℕ) → IsNumbered w → HasNumbersLeft (beginning w (Due number))
    source_numbered w number numbered =
        record { identities = sources_have_identities w number numbered.objects; handlers = sources_have_handler_numbers w number numbered.handlers }

    module _ (w : World) (rests : Rests d w) (number : ℕ) (s : Source) (stands : source_of number w.sources ≡ Some s) where
      source_promised : (a : Accepted d) → (e : Entry) × Keeps d a e (beginning w (Due number))
      source_promised a = (_, source_keeps steps_keep_good d well a w (rests a).0 number s stands)

      pub source_safe : (room : ℕ) → IsRoomy d room → Accepted d → IsSafe d room (beginning w (Due number))
      source_safe room roomy a =
          safe_by room roomy a (entries.source s.program) (beginning w (Due number)) (source_printed d a s.program (source_known a w (rests a).0 number s stands).told)
          (sources_begin d well a w (rests a).0 number s stands) (source_numbered w number (rests a).1) (tt, tt)

      pub source_rests : (replies : List Reply) → Each (Fits d) replies → (count : ℕ) (new : World) → Dispatches d replies (beginning w (Due number)) count new → Rests d new
      source_rests = rests_by (beginning w (Due number)) source_promised (λ a. (kin_made d w (rests a).0.objects, source_numbered w number (rests a).1))

    -- ** turns

    pub turn_rests : (w : World) (moment : ℕ) → Rests d w → Rests d (turned d w moment)
    turn_rests w moment rests a = (turns steps_keep_good d well a w moment (rests a).0, record { objects = (rests a).1.objects; handlers = (rests a).1.handlers })

    -- a source of a turn leaves a world that is numbered
    source_leaves_numbered : (a : Accepted d) (number : ℕ) (s : Option Source) (replies : List Reply) (w : World) (tally : Tally) (new : World) → IsResting d a w → IsNumbered w
        → RunsSource d number s replies w tally new → IsNumbered new
    source_leaves_numbered a number None replies w tally new rest numbered run = subst IsNumbered run.same numbered
    source_leaves_numbered a number (Some s) replies w tally new rest numbered run =
        numbered_by (beginning w (Due number)) (kin_made d w rest.objects) (source_numbered w number numbered) replies run.steps new run.dispatches

    pub runs_rest : (a : Accepted d) (numbers : List ℕ) (replies : List Reply) → Each (Fits d) replies → (w : World) (tally : Tally) (new : World)
        → IsResting d a w × IsNumbered w → RunsSources d numbers replies w tally new → IsResting d a new × IsNumbered new
    runs_rest a [] replies fit w tally new rests run = subst (λ (v : World). IsResting d a v × IsNumbered v) run.same rests
    runs_rest a (number ∷ more) replies fit w tally new rests run =
        let parts = both_fit d run.first run.later (subst (Each (Fits d)) run.replied fit) in
        runs_rest a more run.later parts.1 run.mid run.later_tally new (
          runs_source steps_keep_good d well a number run.first parts.0 w run.first_tally run.mid rests.0 run.begins,
          source_leaves_numbered a number (source_of number w.sources) run.first w run.first_tally run.mid rests.0 rests.1 run.begins,
        ) run.goes_on

    pub turn_event_keeps : (w : World) → Rests d w → (moment : ℕ) → EventKeeps d w (config.turn moment)
    turn_event_keeps w rests moment a e c (by_source m number v s runs) =
        source_keeps steps_keep_good d well a v
        (runs_rest a runs.before runs.replies runs.fit (turned d w m) runs.tally v (turn_rests w m rests a) runs.run).0 number s runs.stands
