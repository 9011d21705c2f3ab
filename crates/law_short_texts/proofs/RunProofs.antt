-- The dispatches of a run, and the world that it leaves, have short values alone.
use Rattle.std.proofs.Common.{subst, ℕ, List, [], ◌∷◌, Option, None, Some}
use Rattle.ui_machine.specs.Definition.{Definition}
use Rattle.ui_machine.specs.Rules.Events.{Refusal, refusal}
use Rattle.ui_machine.specs.Rules.MainLoop.{ready_at, turned}
use Rattle.ui_machine.specs.Runs.{Carries, Comes, Fits, RunsSource, RunsSources, ServesAll, Tally, beginning, of_build, of_request}
use Rattle.ui_machine.specs.State.Config.{Config, World}
use Rattle.ui_machine.specs.State.Peers.{Peer, Reply}
use Rattle.ui_machine.specs.State.Sources.{Source, source_of}
use Rattle.ui_machine.specs.State.Tasks.{Due, Event}
use Rattle.ui_machine.specs.State.Tasks as config
use Rattle.law_typing.specs.Verdict.Accepted.{Each}
use Rattle.law_steps.specs.Served.Dispatches.{Throughout}
use Rattle.law_steps.specs.Served.Sessions.{Dispatch, beginning_of, building, serving, turning}
use Rattle.law_steps.specs.Served.Sessions as sessions
use Rattle.law_steps.proofs.Served.DispatchProofs.{both_fit}
use Rattle.law_short_texts.specs.ShortTexts.{BuildsAreShort, DispatchesAreShort, RequestsAreShort, RunsAreShort, SourcesAreShort}
use Rattle.law_short_texts.specs.ShortValues.{AllShort, HasShortTexts, IsShortEvent, IsShortWorld}
use Rattle.law_short_texts.proofs.Entries.{each_parts}
use Rattle.law_short_texts.proofs.StepProofs.{throughout_short}

-- ** where dispatches begin

pub builds_are_short : BuildsAreShort
builds_are_short d texts peers = throughout_short d texts (of_build d peers) ((tt, tt), (tt, tt))

pub requests_are_short : RequestsAreShort
requests_are_short d texts w short r one = throughout_short d texts (of_request w r) ((short.0, tt), (one, tt))

pub sources_are_short : SourcesAreShort
sources_are_short d texts w short number = throughout_short d texts (beginning w (Due number)) ((short.0, tt), (tt, tt))

-- ** worlds of a run

module _ (d : Definition) (texts : HasShortTexts d) where
  carried : (c : Config) → Throughout d c AllShort → (replies : List Reply) → Each (Fits d) replies → (tally : Tally) (new : World) → Carries d c replies tally new → IsShortWorld new
  carried c all replies fit tally new h = subst IsShortWorld h.dispatches.leaves (all replies fit h.dispatches.at h.dispatches.reached).0

  source_short : (number : ℕ) (o : Option Source) (replies : List Reply) → Each (Fits d) replies → (w : World) (tally : Tally) (new : World) → IsShortWorld w
      → RunsSource d number o replies w tally new → IsShortWorld new
  source_short number None replies fit w tally new short h = subst IsShortWorld h.same short
  source_short number (Some s) replies fit w tally new short h = carried (beginning w (Due number)) (sources_are_short d texts w short number) replies fit tally new h

  sources_short : (numbers : List ℕ) (replies : List Reply) → Each (Fits d) replies → (w : World) (tally : Tally) (new : World) → IsShortWorld w
      → RunsSources d numbers replies w tally new → IsShortWorld new
  sources_short [] replies fit w tally new short h = subst IsShortWorld h.same short
  sources_short (number ∷ more) replies fit w tally new short h =
      let parts = both_fit d h.first h.later (subst (Each (Fits d)) h.replied fit) in
      sources_short more h.later parts.1 h.mid h.later_tally new
      (source_short number (source_of number w.sources) h.first parts.0 w h.first_tally h.mid short h.begins) h.goes_on

  event_short : (event : Event) → IsShortEvent event → (why : Option Refusal) (replies : List Reply) → Each (Fits d) replies → (w : World) (tally : Tally) (new : World)
      → IsShortWorld w → Comes d event why replies w tally new → IsShortWorld new
  event_short event one (Some why) replies fit w tally new short h = subst IsShortWorld h.same short
  event_short (config.request r) one None replies fit w tally new short h = carried _ (requests_are_short d texts w short r one) replies fit tally new h
  event_short (config.turn moment) one None replies fit w tally new short h = sources_short (ready_at w moment) replies fit (turned d w moment) tally new (short.0, tt) h

  events_short : (events : List Event) → Each IsShortEvent events → (replies : List Reply) → Each (Fits d) replies → (w : World) (tally : Tally) (new : World) → IsShortWorld w
      → ServesAll d events replies w tally new → IsShortWorld new
  events_short [] all replies fit w tally new short h = subst IsShortWorld h.same short
  events_short (event ∷ events) all replies fit w tally new short h =
      let parts = both_fit d h.first h.later (subst (Each (Fits d)) h.replied fit) in
      events_short events all.1 h.later parts.1 h.mid h.later_tally new
      (event_short event all.0 (refusal w event) h.first parts.0 w h.first_tally h.mid short h.begins) h.goes_on

pub runs_are_short : RunsAreShort
runs_are_short d texts peers events all replies fit tally last h =
    let parts = both_fit d h.first h.later (subst (Each (Fits d)) h.replied fit) in
    events_short d texts events all h.later parts.1 h.mid h.later_tally last
    (carried d texts (of_build d peers) (builds_are_short d texts peers) h.first parts.0 h.first_tally h.mid h.begins) h.goes_on

-- ** dispatches of a run

module _ (d : Definition) (texts : HasShortTexts d) (peers : List Peer) (events : List Event) (all : Each IsShortEvent events) where
  -- the world that an event finds is short, and so is the event
  found : (event : Event) (w : World) → sessions.Serves d peers events event w → IsShortWorld w × IsShortEvent event
  found event w h =
      let parts = each_parts IsShortEvent h.before (event ∷ h.later) (subst (Each IsShortEvent) h.is all) in
      (runs_are_short d texts peers h.before parts.0 h.replies h.fit h.tally w h.run, parts.1.0)

  each_dispatch : (x : Dispatch d peers events) → Throughout d (beginning_of x) AllShort
  each_dispatch building = builds_are_short d texts peers
  each_dispatch (serving r w h) = let known = found (config.request r) w h in requests_are_short d texts w known.0 r known.1
  each_dispatch (turning moment w h number v s runs) =
      let known = found (config.turn moment) w h in
      let short : IsShortWorld v = sources_short d texts runs.before runs.replies runs.fit (turned d w moment) runs.tally v (known.0.0, tt) runs.run in
      sources_are_short d texts v short number

pub dispatches_are_short : DispatchesAreShort
dispatches_are_short d texts peers events all x = each_dispatch d texts peers events all x
