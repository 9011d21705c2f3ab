-- The dispatches of a run, and the world that it leaves, have short values and peers alone.
use Rattle.std.proofs.Common.{◌≡◌, subst, ℕ, zero, suc, List, [], ◌∷◌, Option, None, Some}
use Rattle.ui_machine.specs.Definition.{Definition}
use Rattle.ui_machine.specs.Output.Lines as lines
use Rattle.ui_machine.specs.Rules.Events.{Refusal, refusal}
use Rattle.ui_machine.specs.Rules.MainLoop.{ready_at, turned}
use Rattle.ui_machine.specs.Runs.{Carries, Comes, Fits, RunsSource, RunsSources, ServesAll, Tally, beginning, of_build, of_request}
use Rattle.ui_machine.specs.State.Config.{Config, World, said}
use Rattle.ui_machine.specs.State.Objects.{Object, living}
use Rattle.ui_machine.specs.State.Peers.{Peer, Reply}
use Rattle.ui_machine.specs.State.Sources.{Source, source_of}
use Rattle.ui_machine.specs.State.Tasks.{Due, Event}
use Rattle.ui_machine.specs.State.Tasks as config
use Rattle.law_typing.specs.Verdict.Accepted.{Each}
use Rattle.law_steps.specs.Served.Dispatches.{Throughout}
use Rattle.law_steps.specs.Served.Sessions.{Dispatch, beginning_of, building, serving, turning}
use Rattle.law_steps.specs.Served.Sessions as sessions
use Rattle.law_steps.proofs.Served.DispatchProofs.{both_fit}
use Rattle.law_short_texts.specs.ShortValues.{HasShortTexts}
use Rattle.law_short_texts.proofs.Entries.{each_parts}
use Rattle.law_short_lines.specs.ShortLines.{BuildsAreAllShort, DispatchesAreAllShort, RequestsAreAllShort, RunsAreAllShort, SourcesAreAllShort}
use Rattle.law_short_lines.specs.ShortParts.{HasAllShort, HasShortDetails, HasShortPool, IsShortAll, IsShortPeerAt, IsShortWhole}
use Rattle.law_short_lines.proofs.StepProofs.{throughout_short}

-- ** where dispatches begin

-- no object is there before the build
pub builds_are_all_short : BuildsAreAllShort
builds_are_all_short d texts details peers pool = throughout_short d texts details (of_build d peers)
    (record { values = ((tt, tt), (tt, tt)); peers = record { pool = pool; objects = none }; tasks = (tt, tt) })
  where
    none : (id number : ℕ) (o : Object) → living [] id ≡ Some o → o.peer ≡ Some number → IsShortPeerAt d peers number
    none zero number o lives own = absurd (cc lives)
    none (suc id) number o lives own = absurd (cc lives)

pub requests_are_all_short : RequestsAreAllShort
requests_are_all_short d texts details w short r one detail = throughout_short d texts details (of_request w r)
    (record { values = ((short.0.0, tt), (one, tt)); peers = record { pool = short.1.pool; objects = short.1.objects }; tasks = (detail, tt) })

pub sources_are_all_short : SourcesAreAllShort
sources_are_all_short d texts details w short number = throughout_short d texts details (beginning w (Due number))
    (record { values = ((short.0.0, tt), (tt, tt)); peers = record { pool = short.1.pool; objects = short.1.objects }; tasks = (tt, tt) })

-- ** worlds of a run

-- what a dispatch leaves is what it came to, with a line more
ended_whole : (d : Definition) (at : Config) → HasAllShort d at → IsShortWhole d (said d at.world (lines.end at.counted))
ended_whole d at all = (all.values.0, record { pool = all.peers.pool; objects = all.peers.objects })

module _ (d : Definition) (texts : HasShortTexts d) (details : HasShortDetails d) where
  carried : (c : Config) → Throughout d c (HasAllShort d) → (replies : List Reply) → Each (Fits d) replies → (tally : Tally) (new : World) → Carries d c replies tally new → IsShortWhole d new
  carried c all replies fit tally new h = subst (IsShortWhole d) h.dispatches.leaves (ended_whole d h.dispatches.at (all replies fit h.dispatches.at h.dispatches.reached))

  source_short : (number : ℕ) (o : Option Source) (replies : List Reply) → Each (Fits d) replies → (w : World) (tally : Tally) (new : World) → IsShortWhole d w
      → RunsSource d number o replies w tally new → IsShortWhole d new
  source_short number None replies fit w tally new short h = subst (IsShortWhole d) h.same short
  source_short number (Some s) replies fit w tally new short h = carried (beginning w (Due number)) (sources_are_all_short d texts details w short number) replies fit tally new h

  sources_short : (numbers : List ℕ) (replies : List Reply) → Each (Fits d) replies → (w : World) (tally : Tally) (new : World) → IsShortWhole d w
      → RunsSources d numbers replies w tally new → IsShortWhole d new
  sources_short [] replies fit w tally new short h = subst (IsShortWhole d) h.same short
  sources_short (number ∷ more) replies fit w tally new short h =
      let parts = both_fit d h.first h.later (subst (Each (Fits d)) h.replied fit) in
      sources_short more h.later parts.1 h.mid h.later_tally new
      (source_short number (source_of number w.sources) h.first parts.0 w h.first_tally h.mid short h.begins) h.goes_on

  turned_whole : (w : World) (moment : ℕ) → IsShortWhole d w → IsShortWhole d (turned d w moment)
  turned_whole w moment short = ((short.0.0, tt), record { pool = short.1.pool; objects = short.1.objects })

  event_short : (event : Event) → IsShortAll event → (why : Option Refusal) (replies : List Reply) → Each (Fits d) replies → (w : World) (tally : Tally) (new : World)
      → IsShortWhole d w → Comes d event why replies w tally new → IsShortWhole d new
  event_short event one (Some why) replies fit w tally new short h = subst (IsShortWhole d) h.same short
  event_short (config.request r) one None replies fit w tally new short h = carried _ (requests_are_all_short d texts details w short r one.0 one.1) replies fit tally new h
  event_short (config.turn moment) one None replies fit w tally new short h = sources_short (ready_at w moment) replies fit (turned d w moment) tally new (turned_whole w moment short) h

  events_short : (events : List Event) → Each IsShortAll events → (replies : List Reply) → Each (Fits d) replies → (w : World) (tally : Tally) (new : World) → IsShortWhole d w
      → ServesAll d events replies w tally new → IsShortWhole d new
  events_short [] all replies fit w tally new short h = subst (IsShortWhole d) h.same short
  events_short (event ∷ events) all replies fit w tally new short h =
      let parts = both_fit d h.first h.later (subst (Each (Fits d)) h.replied fit) in
      events_short events all.1 h.later parts.1 h.mid h.later_tally new
      (event_short event all.0 (refusal w event) h.first parts.0 w h.first_tally h.mid short h.begins) h.goes_on

pub runs_are_all_short : RunsAreAllShort
runs_are_all_short d texts details peers pool events all replies fit tally last h =
    let parts = both_fit d h.first h.later (subst (Each (Fits d)) h.replied fit) in
    events_short d texts details events all h.later parts.1 h.mid h.later_tally last
    (carried d texts details (of_build d peers) (builds_are_all_short d texts details peers pool) h.first parts.0 h.first_tally h.mid h.begins) h.goes_on

-- ** dispatches of a run

module _ (d : Definition) (texts : HasShortTexts d) (details : HasShortDetails d) (peers : List Peer) (pool : HasShortPool d peers) (events : List Event) (all : Each IsShortAll events) where
  -- the world that an event finds is short, and so is the event
  found : (event : Event) (w : World) → sessions.Serves d peers events event w → IsShortWhole d w × IsShortAll event
  found event w h =
      let parts = each_parts IsShortAll h.before (event ∷ h.later) (subst (Each IsShortAll) h.is all) in
      (runs_are_all_short d texts details peers pool h.before parts.0 h.replies h.fit h.tally w h.run, parts.1.0)

  each_dispatch : (x : Dispatch d peers events) → Throughout d (beginning_of x) (HasAllShort d)
  each_dispatch building = builds_are_all_short d texts details peers pool
  each_dispatch (serving r w h) = let known = found (config.request r) w h in requests_are_all_short d texts details w known.0 r known.1.0 known.1.1
  each_dispatch (turning moment w h number v s runs) =
      let known = found (config.turn moment) w h in
      sources_are_all_short d texts details v
      (sources_short d texts details runs.before runs.replies runs.fit (turned d w moment) runs.tally v (turned_whole d texts details w moment known.0) runs.run) number

pub dispatches_are_all_short : DispatchesAreAllShort
dispatches_are_all_short d texts details peers pool events all x = each_dispatch d texts details peers pool events all x
