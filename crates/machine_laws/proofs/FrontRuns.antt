-- Runs with lines in front.
use Rattle.std.proofs.Common.{◌≡◌, refl, subst, ap, sym, ◌∙◌, ℕ, zero, suc, Bool, true, false, List, [], ◌∷◌, ◌++◌, Option, None, Some, append_assoc}
use Rattle.std.specs.Prelude.{◌||◌}
use Rattle.std.specs.List.{list_any}
use Rattle.ui_machine.specs.declared.arm.Halt.{Halt}
use Rattle.ui_machine.specs.declared.arm.Halt.TheVariants as halts
use Rattle.ui_machine.specs.Definition.{Definition}
use Rattle.ui_machine.specs.Definition.Places.{Given, value, named}
use Rattle.ui_machine.specs.Output.Lines.{Line}
use Rattle.ui_machine.specs.Output.Lines as lines
use Rattle.ui_machine.specs.Output.Text.{text_of_line}
use Rattle.ui_machine.specs.State.Tasks as config
use Rattle.ui_machine.specs.State.Peers.{Reply}
use Rattle.ui_machine.specs.State.Sources.{Source, source_of}
use Rattle.ui_machine.specs.State.Tasks.{Due, Event}
use Rattle.ui_machine.specs.State.Config.{World, Config, said, builder_entry, untold}
use Rattle.ui_machine.specs.Runs.{Step, Steps, Reaches, HasEnded, HaltsAt, Dispatches, Halts, Tally, Then, Rests, Carries, RunsSource, RunsSources, Does, Comes, Serves, ServesAll, HaltsIn, at_a_source, at_its_beginning, beginning, of_request}
use Rattle.ui_machine.specs.Rules.Events.{Refusal, is_released, gives_released, gone, refusal}
use Rattle.ui_machine.specs.Rules.MainLoop.{turned, ready_at}
use Rattle.machine_laws.specs.FrontLaws.{fronted, fronted_at, mapped, StepsAppend, DispatchAppends, HaltAppends, EventAppends, EventsAppend, EventHaltAppends}
use Rattle.machine_laws.proofs.FrontProofs.{step_appends, question_stays}

-- ** dispatches

module _ (front : List (List ℕ)) (d : Definition) where
  one_step : (reply : Option Reply) (c e : Config) → Step d reply c e → Step d reply (fronted_at front c) (fronted_at front e)
  one_step reply c e s = record {
    asks = question_stays front d c ∙ s.asks;
    leads = step_appends front d reply c ∙ ap (mapped (fronted_at front)) s.leads;
  }

  steps : (n : ℕ) (replies : List Reply) (c e : Config) → Steps d n replies c e → Steps d n replies (fronted_at front c) (fronted_at front e)
  steps zero replies c e s = (s.0, ap (fronted_at front) s.1)
  steps (suc n) replies c e s = record {
    reply = s.reply;
    later = s.later;
    mid = fronted_at front s.mid;
    replied = s.replied;
    step = one_step s.reply c s.mid s.step;
    follows = steps n s.later s.mid e s.follows;
  }

  reaches : (replies : List Reply) (c e : Config) → Reaches d replies c e → Reaches d replies (fronted_at front c) (fronted_at front e)
  reaches replies c e r = record { count = r.count; steps = steps r.count replies c e r.steps }

  ends : (c : Config) → HasEnded d c → HasEnded d (fronted_at front c)
  ends c h = record { agenda = h.agenda; floating = h.floating; held = h.held }

  says : (w : World) (line : Line) → said d (fronted front w) line ≡ fronted front (said d w line)
  says w line = ap (λ (ls : List (List ℕ)). record w { transcript = ls }) (append_assoc front w.transcript (text_of_line d.types line ∷ []))

  dispatch : (replies : List Reply) (c : Config) (count : ℕ) (new : World) → Dispatches d replies c count new → Dispatches d replies (fronted_at front c) count (fronted front new)
  dispatch replies c count new r = record {
    at = fronted_at front r.at;
    reached = reaches replies c r.at r.reached;
    ended = ends r.at r.ended;
    counts = r.counts;
    leaves = says r.at.world (lines.end r.at.counted) ∙ ap (fronted front) r.leaves;
  }

  halts_at : (c : Config) (halt : Halt) → HaltsAt d c halt → HaltsAt d (fronted_at front c) halt
  halts_at c halts.OutOfMemory h = tt
  halts_at c (halts.Stuck arm) h = record {
    reply = h.reply;
    asks = question_stays front d c ∙ h.asks;
    stuck = step_appends front d h.reply c ∙ ap (mapped (fronted_at front)) h.stuck;
  }

  halting : (replies : List Reply) (c : Config) (halt : Halt) (shown : List (List ℕ)) → Halts d replies c halt shown → Halts d replies (fronted_at front c) halt (front ++ shown)
  halting replies c halt shown r = record {
    at = fronted_at front r.at;
    reached = reaches replies c r.at r.reached;
    stops = halts_at r.at halt r.stops;
    lines = ap (λ ls. front ++ ls) r.lines;
  }

  -- ** events

  abbrev Behind : (List Reply → World → Tally → World → Type 0) → Type 0
  Behind Leads = (replies : List Reply) (w : World) (tally : Tally) (new : World) → Leads replies w tally new → Leads replies (fronted front w) tally (fronted front new)

  both : (First Later : List Reply → World → Tally → World → Type 0) → Behind First → Behind Later → Behind (Then First Later)
  both First Later first later replies w tally new t = record {
    first = t.first;
    later = t.later;
    mid = fronted front t.mid;
    first_tally = t.first_tally;
    later_tally = t.later_tally;
    replied = t.replied;
    counts = t.counts;
    begins = first t.first w t.first_tally t.mid t.begins;
    goes_on = later t.later t.mid t.later_tally new t.goes_on;
  }

  rests : Behind Rests
  rests replies w tally new r = record { replied = r.replied; counts = r.counts; same = ap (fronted front) r.same }

  carries : (c : Config) (replies : List Reply) (tally : Tally) (new : World) → Carries d c replies tally new → Carries d (fronted_at front c) replies tally (fronted front new)
  carries c replies tally new r = record { steps = r.steps; counts = r.counts; dispatches = dispatch replies c r.steps new r.dispatches }

  runs_source : (number : ℕ) (s : Option Source) → Behind (RunsSource d number s)
  runs_source number None replies w tally new r = rests replies w tally new r
  runs_source number (Some s) replies w tally new r = carries (beginning w (Due number)) replies tally new r

  runs_sources : (sources : List ℕ) → Behind (RunsSources d sources)
  runs_sources [] replies w tally new r = rests replies w tally new r
  runs_sources (number ∷ more) replies w tally new r =
      both (λ first v. RunsSource d number (source_of number v.sources) first v) (RunsSources d more)
      (λ first v t u. runs_source number (source_of number v.sources) first v t u) (runs_sources more) replies w tally new r

  turns : (w : World) (moment : ℕ) → turned d (fronted front w) moment ≡ fronted front (turned d w moment)
  turns w moment = ap (λ (v : World). record v { moment = moment }) (says (untold w) (lines.turn moment))

  turn_runs : (sources : List ℕ) (moment : ℕ) (replies : List Reply) (w : World) (tally : Tally) (new : World) →
      RunsSources d sources replies (turned d w moment) tally new → RunsSources d sources replies (turned d (fronted front w) moment) tally (fronted front new)
  turn_runs sources moment replies w tally new r =
      subst (λ v. RunsSources d sources replies v tally (fronted front new)) (sym (turns w moment)) (runs_sources sources replies (turned d w moment) tally new r)

  does : (event : Event) → Behind (Does d event)
  does (config.request r) replies w tally new h = carries (of_request w r) replies tally new h
  does (config.turn moment) replies w tally new h = turn_runs (ready_at w moment) moment replies w tally new h

  comes : (event : Event) (why : Option Refusal) → Behind (Comes d event why)
  comes event (Some why) replies w tally new h = rests replies w tally new h
  comes event None replies w tally new h = does event replies w tally new h

  gives : (w : World) (given : Given) → gives_released (fronted front w) given ≡ gives_released w given
  gives w (value v) = refl
  gives w (named place) = refl

  one_gives : (w : World) (args : List Given) → list_any (gives_released (fronted front w)) args ≡ list_any (gives_released w) args
  one_gives w [] = refl
  one_gives w (given ∷ args) = simp (gives w given, one_gives w args)

  abbrev why_released : (first others : Bool) → Option Refusal
  why_released first others = elim (first || others) [ true ↦ Some gone | false ↦ None ]

  refused : (event : Event) (w : World) → refusal (fronted front w) event ≡ refusal w event
  refused (config.request (config.set place slot given)) w = ap (why_released (is_released (builder_entry w place))) (gives w given)
  refused (config.request (config.get place slot)) w = refl
  refused (config.request (config.emit place signal args detail)) w = ap (why_released (is_released (builder_entry w place))) (one_gives w args)
  refused (config.request (config.release place)) w = refl
  refused (config.turn moment) w = refl

  serves : (event : Event) → Behind (Serves d event)
  serves event replies w tally new h =
      subst (λ why. Comes d event why replies (fronted front w) tally (fronted front new)) (sym (refused event w)) (comes event (refusal w event) replies w tally new h)

  serves_all : (events : List Event) → Behind (ServesAll d events)
  serves_all [] replies w tally new h = rests replies w tally new h
  serves_all (event ∷ events) replies w tally new h = both (Serves d event) (ServesAll d events) (serves event) (serves_all events) replies w tally new h

  halts_in : (event : Event) (replies : List Reply) (w : World) (halt : Halt) (shown : List (List ℕ)) →
      HaltsIn d event replies w halt shown → HaltsIn d event replies (fronted front w) halt (front ++ shown)
  halts_in (config.request r) replies w halt shown h = halting replies (of_request w r) halt shown h
  halts_in (config.turn moment) replies w halt shown (at_its_beginning stops) = at_its_beginning (record {
    memory = stops.memory;
    asked = stops.asked;
    lines = ap (λ lines. front ++ lines) stops.lines;
  })
  halts_in (config.turn moment) replies w halt shown (at_a_source h) = at_a_source (record {
    done = h.done;
    number = h.number;
    more = h.more;
    sources = h.sources;
    first = h.first;
    later = h.later;
    replied = h.replied;
    mid = fronted front h.mid;
    tally = h.tally;
    runs = turn_runs h.done moment h.first w h.tally h.mid h.runs;
    stands = h.stands;
    halts = halting h.later (beginning h.mid (Due h.number)) halt shown h.halts;
  })

pub steps_append : StepsAppend
steps_append d n replies = (λ front c e s. steps front d n replies c e s, λ front c e r. reaches front d replies c e r)

pub dispatch_appends : DispatchAppends
dispatch_appends front d replies c count new r = dispatch front d replies c count new r

pub halt_appends : HaltAppends
halt_appends front d replies c halt shown r = halting front d replies c halt shown r

pub event_appends : EventAppends
event_appends d event front replies w tally new h = serves front d event replies w tally new h

pub events_append : EventsAppend
events_append d events front replies w tally new h = serves_all front d events replies w tally new h

pub event_halt_appends : EventHaltAppends
event_halt_appends front d event replies w halt shown h = halts_in front d event replies w halt shown h
