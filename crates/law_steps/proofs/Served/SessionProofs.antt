-- Each dispatch of a run begins well, since those before it left the world at rest.
use Rattle.std.proofs.Common.{◌≡◌, refl, subst, ℕ, Bool, true, false, List, [], ◌∷◌, ◌++◌, Option, None, Some}
use Rattle.ui_machine.specs.Definition.{Definition}
use Rattle.ui_machine.specs.State.Peers.{Peer, Reply}
use Rattle.ui_machine.specs.State.Sources.{Source, is_numbered, source_of}
use Rattle.ui_machine.specs.State.Tasks.{Due, Event, Request}
use Rattle.ui_machine.specs.State.Tasks as config
use Rattle.ui_machine.specs.State.Config.{World, Config}
use Rattle.ui_machine.specs.Rules.Events.{Refusal, gone, refusal, names_released}
use Rattle.ui_machine.specs.Rules.MainLoop.{ready_at, turned}
use Rattle.ui_machine.specs.Runs.{Fits, Tally, Then, Rests, Carries, RunsSource, RunsSources, Comes, Serves, ServesAll, IsRun, beginning, of_build, of_request}
use Rattle.law_typing.specs.Graph.Channels.{Entry}
use Rattle.law_typing.specs.Graph.Channels as entries
use Rattle.law_typing.specs.Verdict.Accepted.{Each, Accepted}
use Rattle.law_typing.specs.Laws.WellRead.{WellRead}
use Rattle.law_typing.specs.Good.Requests.{RequestRead, entry_of}
use Rattle.law_typing.specs.Good.Bindings.{SourceGood}
use Rattle.law_typing.specs.Good.Standing.{standing}
use Rattle.law_typing.specs.Laws.StepsKeepGood.{PoolReady, IsGood, IsResting, bound_of, StepsKeepGood}
use Rattle.law_typing.proofs.Lists.{each_in}
use Rattle.law_typing.proofs.OneSolutionProofs.{find_in}
use Rattle.law_typing.proofs.RestProofs.{turns_rest}
use Rattle.law_typing.proofs.JudgedProofs.{judged_is_accepted}
use Rattle.law_static.proofs.BuildCostProofs.{build_begins}
use Rattle.law_static.proofs.RequestProofs.{requests_begin}
use Rattle.law_static.proofs.SourceProofs.{sources_begin}
use Rattle.law_steps.proofs.Tasked.StepsProofs.{steps_keep_good}
use Rattle.law_steps.specs.Served.Dispatches.{Keeps}
use Rattle.law_steps.specs.Served.Sessions as sessions
use Rattle.law_steps.specs.Served.Sessions.{EventRead, Dispatch, building, serving, turning, entry_to, beginning_of}
use Rattle.law_steps.specs.Served.NeverStuck.{NeverStuck, ReportIsKept, RunsRest}
use Rattle.law_steps.proofs.Served.DispatchProofs.{both_fit}
use Rattle.law_steps.proofs.Served.KeepsProofs.{keeps}
use Rattle.law_steps.proofs.Served.EntryProofs.{IsPrinted, source_printed, build_printed, request_printed, printed_few}

module _ (keep : StepsKeepGood) (d : Definition) (well : WellRead d) (a : Accepted d) where
  -- ** each dispatch

  begun : (e : Entry) (c : Config) → IsPrinted d a e → IsGood d a (bound_of d a e) c → Keeps d a e c
  begun e c printed good = keeps keep d well a e c (printed_few d a well e printed) printed good

  pub build_keeps : (peers : List Peer) → PoolReady d peers → Keeps d a entries.build (of_build d peers)
  build_keeps peers ready = begun entries.build (of_build d peers) (build_printed d a) (build_begins d well a peers ready)

  pub request_keeps : (w : World) → IsResting d a w → (r : Request) → RequestRead d r → names_released w r ≡ false →
      Keeps d a (entry_of d r) (of_request w r)
  request_keeps w rest r fits kept =
      begun (entry_of d r) (of_request w r) (request_printed d a r) (requests_begin d well a w rest r fits kept)

  source_known : (w : World) → IsResting d a w → (number : ℕ) (s : Source) → source_of number w.sources ≡ Some s →
      SourceGood d (standing w.objects) s
  source_known w rest number s is =
      each_in (SourceGood d (standing w.objects)) w.sources rest.sources s (find_in (is_numbered number) w.sources s is).0

  pub source_keeps : (w : World) → IsResting d a w → (number : ℕ) (s : Source) → source_of number w.sources ≡ Some s →
      Keeps d a (entries.source s.program) (beginning w (Due number))
  source_keeps w rest number s is =
      begun (entries.source s.program) (beginning w (Due number)) (source_printed d a s.program (source_known w rest number s is).told)
      (sources_begin d well a w rest number s is)

  -- ** which leave the world at rest

  pub carried : (e : Entry) (c : Config) → Keeps d a e c → (replies : List Reply) → Each (Fits d) replies → (tally : Tally) (new : World) →
      Carries d c replies tally new → IsResting d a new
  carried e c kept replies fit tally new h = (kept.ends replies fit h.steps new h.dispatches).1

  abbrev pub Leaves : (List Reply → World → Tally → World → Type 0) → Type 0
  Leaves Leads = (replies : List Reply) → Each (Fits d) replies → (w : World) (tally : Tally) (new : World) → IsResting d a w →
      Leads replies w tally new → IsResting d a new

  rests : Leaves Rests
  rests replies fit w tally new rest h = subst (IsResting d a) h.same rest

  both : (First Later : List Reply → World → Tally → World → Type 0) → Leaves First → Leaves Later → Leaves (Then First Later)
  both First Later first later replies fit w tally new rest h =
      let parts = both_fit d h.first h.later (subst (Each (Fits d)) h.replied fit) in
      later h.later parts.1 h.mid h.later_tally new (first h.first parts.0 w h.first_tally h.mid rest h.begins) h.goes_on

  pub runs_source : (number : ℕ) → Leaves (λ replies w. RunsSource d number (source_of number w.sources) replies w)
  runs_source number replies fit w tally new rest = go (source_of number w.sources) refl
    where
      go : (o : Option Source) → source_of number w.sources ≡ o → RunsSource d number o replies w tally new → IsResting d a new
      go None is h = rests replies fit w tally new rest h
      go (Some s) is h =
          carried (entries.source s.program) (beginning w (Due number)) (source_keeps w rest number s is) replies fit tally new h

  runs_sources : (numbers : List ℕ) → Leaves (RunsSources d numbers)
  runs_sources [] = rests
  runs_sources (number ∷ more) =
      both (λ replies w. RunsSource d number (source_of number w.sources) replies w) (RunsSources d more) (runs_source number)
      (runs_sources more)

  pub turns : (w : World) (moment : ℕ) → IsResting d a w → IsResting d a (turned d w moment)
  turns w moment rest = turns_rest d a.weighed.costs a.weighed.depths w moment rest

  -- a request that is not refused names no released object
  pub not_released : (w : World) (r : Request) → refusal w (config.request r) ≡ None → names_released w r ≡ false
  not_released w r = go (names_released w r)
    where
      go : (b : Bool) → ◌≡◌ {A = Option Refusal} (elim b [ true ↦ Some gone | false ↦ None ]) None → b ≡ false
      go true e = absurd (cc)
      go false e = refl

  pub serves : (event : Event) → EventRead d event → Leaves (Serves d event)
  serves event fits replies fit w tally new rest = go event fits (refusal w event) refl
    where
      go : (event : Event) → EventRead d event → (why : Option Refusal) → refusal w event ≡ why → Comes d event why replies w tally new →
          IsResting d a new
      go event fits (Some why) e h = rests replies fit w tally new rest h
      go (config.request r) fits None e h =
          carried (entry_of d r) (of_request w r) (request_keeps w rest r fits (not_released w r e)) replies fit tally new h
      go (config.turn moment) fits None e h =
          runs_sources (ready_at w moment) replies fit (turned d w moment) tally new (turns w moment rest) h

  serves_all : (events : List Event) → Each (EventRead d) events → Leaves (ServesAll d events)
  serves_all [] fits = rests
  serves_all (event ∷ events) fits = both (Serves d event) (ServesAll d events) (serves event fits.0) (serves_all events fits.1)

  run_rests : (peers : List Peer) → PoolReady d peers → (events : List Event) → Each (EventRead d) events → (replies : List Reply) →
      Each (Fits d) replies → (tally : Tally) (w : World) → IsRun d peers events replies tally w → IsResting d a w
  run_rests peers ready events read replies fit tally w h =
      let parts = both_fit d h.first h.later (subst (Each (Fits d)) h.replied fit) in
      let built = carried entries.build (of_build d peers) (build_keeps peers ready) h.first parts.0 h.first_tally h.mid h.begins in
      serves_all events read h.later parts.1 h.mid h.later_tally w built h.goes_on

  -- ** each dispatch of a run

  module _ (peers : List Peer) (ready : PoolReady d peers) (events : List Event) (read : Each (EventRead d) events) where
    earlier : (before later : List Event) (event : Event) → Each (EventRead d) (before ++ event ∷ later) →
        Each (EventRead d) before × EventRead d event
    earlier [] later event all = (tt, all.0)
    earlier (e ∷ before) later event all = let parts = earlier before later event all.1 in ((all.0, parts.0), parts.1)

    parts_read : (event : Event) (w : World) (s : sessions.Serves d peers events event w) → Each (EventRead d) s.before × EventRead d event
    parts_read event w s = earlier s.before s.later event (subst (Each (EventRead d)) s.is read)

    before_rests : (event : Event) (w : World) → sessions.Serves d peers events event w → IsResting d a w
    before_rests event w s = run_rests peers ready s.before (parts_read event w s).0 s.replies s.fit s.tally w s.run

    run_keeps : (x : Dispatch d peers events) → Keeps d a (entry_to x) (beginning_of x)
    run_keeps building = build_keeps peers ready
    run_keeps (serving r w s) =
        request_keeps w (before_rests (config.request r) w s) r (parts_read (config.request r) w s).1 (not_released w r s.accepted)
    run_keeps (turning moment w s number v source runs) =
        source_keeps v
        (runs_sources runs.before runs.replies runs.fit (turned d w moment) runs.tally v
        (turns w moment (before_rests (config.turn moment) w s)) runs.run) number source runs.stands

pub never_stuck : NeverStuck
never_stuck d well a peers ready events read x = run_keeps steps_keep_good d well a peers ready events read x

pub report_is_kept : ReportIsKept
report_is_kept d lines well judged =
    let found = judged_is_accepted d lines well.types.inherits judged in
    (found.0, found.1, never_stuck d well found.0)

pub runs_rest : RunsRest
runs_rest d well a peers ready events read replies fit tally w run =
    run_rests steps_keep_good d well a peers ready events read replies fit tally w run
