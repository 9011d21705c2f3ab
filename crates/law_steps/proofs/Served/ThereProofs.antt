-- Each list of events has a run: each dispatch is carried to its end, with faults for replies.
use Rattle.std.proofs.Common.{◌≡◌, refl, sym, subst, ℕ, suc, List, [], ◌∷◌, ◌++◌, Option, None, Some}
use Rattle.std.specs.Prelude.{IfSome}
use Rattle.ui_machine.specs.Definition.{Definition}
use Rattle.ui_machine.specs.State.Peers.{Peer, Reply}
use Rattle.ui_machine.specs.State.Sources.{Source, source_of}
use Rattle.ui_machine.specs.State.Tasks.{Due, Event}
use Rattle.ui_machine.specs.State.Tasks as config
use Rattle.ui_machine.specs.State.Config.{World, Config, said}
use Rattle.ui_machine.specs.Output.Lines as lines
use Rattle.ui_machine.specs.Rules.Events.{Refusal, refusal}
use Rattle.ui_machine.specs.Rules.MainLoop.{ready_at, turned}
use Rattle.ui_machine.specs.Runs.{Fits, Reaches, HasEnded, Tally, no_dispatch, one_dispatch, tallied, listed, Then, Rests, Carries, RunsSource, RunsSources, Comes, Serves, ServesAll, beginning, first_world, of_build, of_request}
use Rattle.law_typing.specs.Graph.Channels.{Entry}
use Rattle.law_typing.specs.Graph.Channels as entries
use Rattle.law_typing.specs.Verdict.Accepted.{Each, Accepted}
use Rattle.law_typing.specs.Laws.WellRead.{WellRead}
use Rattle.law_typing.specs.Good.Requests.{entry_of}
use Rattle.law_typing.specs.Laws.StepsKeepGood.{PoolReady, IsResting, StepsKeepGood}
use Rattle.law_typing.proofs.Lists.{each_append}
use Rattle.law_steps.proofs.Tasked.StepsProofs.{steps_keep_good}
use Rattle.law_steps.specs.Served.Dispatches.{Keeps}
use Rattle.law_steps.specs.Served.Endings.{ComesToEnd, ended, goes}
use Rattle.law_steps.specs.Served.Sessions.{EventRead}
use Rattle.law_steps.specs.Served.NeverStuck.{HasRun, RunsAreThere}
use Rattle.law_steps.proofs.Served.SessionProofs.{build_keeps, request_keeps, source_keeps, carried, turns, not_released}

-- where a dispatch ends
record EndsAt (d : Definition) (c : Config) : Type 0 where
  replies : List Reply
  fit : Each (Fits d) replies
  at : Config
  reached : Reaches d replies c at
  ended : HasEnded d at

listed_fits : (d : Definition) (reply : Option Reply) → IfSome reply (Fits d) → Each (Fits d) (listed reply)
listed_fits d None fits = tt
listed_fits d (Some r) fits = (fits, tt)

ends_at : (d : Definition) (c : Config) → ComesToEnd d c → EndsAt d c
ends_at d e (ended c h) = record { replies = []; fit = tt; at = c; reached = record { count = 0; steps = (refl, refl) }; ended = h }
ends_at d e (goes c on later) = from (ends_at d on.next (later on.reply on.fits on.next on.step))
  where
    from : EndsAt d on.next → EndsAt d c
    from e = record {
      replies = listed on.reply ++ e.replies;
      fit = each_append (Fits d) (listed on.reply) e.replies (listed_fits d on.reply on.fits) e.fit;
      at = e.at;
      reached = record {
        count = suc e.reached.count;
        steps = record { reply = on.reply; later = e.replies; mid = on.next; replied = refl; step = on.step; follows = e.reached.steps };
      };
      ended = e.ended;
    }

module _ (keep : StepsKeepGood) (d : Definition) (well : WellRead d) (a : Accepted d) where
  -- something leads on from a world, and leaves one at rest
  record Leads (Part : List Reply → World → Tally → World → Type 0) (w : World) : Type 0 where
    replies : List Reply
    fit : Each (Fits d) replies
    tally : Tally
    new : World
    leads : Part replies w tally new
    rest : IsResting d a new

  dispatched : (e : Entry) (c : Config) (w : World) → Keeps d a e c → Leads (λ replies v. Carries d c replies) w
  dispatched e c w kept = to (ends_at d c kept.comes_to_end)
    where
      to : EndsAt d c → Leads (λ replies v. Carries d c replies) w
      to at =
          let carries : Carries d c at.replies (one_dispatch at.at.counted) (said d at.at.world (lines.end at.at.counted)) = record {
            steps = at.at.counted;
            counts = refl;
            dispatches = record { at = at.at; reached = at.reached; ended = at.ended; counts = refl; leaves = refl };
          } in
          record {
            replies = at.replies;
            fit = at.fit;
            tally = one_dispatch at.at.counted;
            new = _;
            leads = carries;
            rest = carried keep d well a e c kept at.replies at.fit (one_dispatch at.at.counted) _ carries;
          }

  nothing : (w : World) → IsResting d a w → Leads Rests w
  nothing w rest =
      let same : Rests [] w no_dispatch w = record { replied = refl; counts = refl; same = refl } in
      record { replies = []; fit = tt; tally = no_dispatch; new = w; leads = same; rest = rest }

  both : (First Later : List Reply → World → Tally → World → Type 0) (w : World) → Leads First w →
      ((v : World) → IsResting d a v → Leads Later v) → Leads (Then First Later) w
  both First Later w first later = go (later first.new first.rest)
    where
      go : Leads Later first.new → Leads (Then First Later) w
      go more = record {
        replies = first.replies ++ more.replies;
        fit = each_append (Fits d) first.replies more.replies first.fit more.fit;
        tally = tallied first.tally more.tally;
        new = more.new;
        leads = record {
          first = first.replies;
          later = more.replies;
          mid = first.new;
          first_tally = first.tally;
          later_tally = more.tally;
          replied = refl;
          counts = refl;
          begins = first.leads;
          goes_on = more.leads;
        };
        rest = more.rest;
      }

  -- what leads on does so as another part that it comes to
  led_as : (Part Other : List Reply → World → Tally → World → Type 0) (v w : World) →
      ((replies : List Reply) (tally : Tally) (new : World) → Part replies v tally new → Other replies w tally new) → Leads Part v →
      Leads Other w
  led_as Part Other v w same led = record {
    replies = led.replies;
    fit = led.fit;
    tally = led.tally;
    new = led.new;
    leads = same led.replies led.tally led.new led.leads;
    rest = led.rest;
  }

  abbrev SourceRuns : ℕ → List Reply → World → Tally → World → Type 0
  SourceRuns number replies v tally new = RunsSource d number (source_of number v.sources) replies v tally new

  source_leads : (number : ℕ) (w : World) → IsResting d a w → Leads (SourceRuns number) w
  source_leads number w rest = go (source_of number w.sources) refl
    where
      go : (o : Option Source) → source_of number w.sources ≡ o → Leads (SourceRuns number) w
      go None e =
          led_as Rests (SourceRuns number) w w (λ replies tally new h. subst (λ o. RunsSource d number o replies w tally new) (sym e) h)
          (nothing w rest)
      go (Some s) e =
          led_as (λ replies v. Carries d (beginning w (Due number)) replies) (SourceRuns number) w w
          (λ replies tally new h. subst (λ o. RunsSource d number o replies w tally new) (sym e) h)
          (dispatched (entries.source s.program) (beginning w (Due number)) w (source_keeps keep d well a w rest number s e))

  sources_lead : (numbers : List ℕ) (w : World) → IsResting d a w → Leads (RunsSources d numbers) w
  sources_lead [] w rest = nothing w rest
  sources_lead (number ∷ more) w rest =
      both (SourceRuns number) (RunsSources d more) w (source_leads number w rest) (sources_lead more)

  event_leads : (event : Event) → EventRead d event → (w : World) → IsResting d a w → Leads (Serves d event) w
  event_leads event read w rest = same (go event read (refusal w event) refl)
    where
      same : Leads (Comes d event (refusal w event)) w → Leads (Serves d event) w
      same led = led_as (Comes d event (refusal w event)) (Serves d event) w w (λ replies tally new h. h) led

      at : (event : Event) (why : Option Refusal) → refusal w event ≡ why → Leads (Comes d event why) w →
          Leads (Comes d event (refusal w event)) w
      at event why e led =
          led_as (Comes d event why) (Comes d event (refusal w event)) w w
          (λ replies tally new h. subst (λ o. Comes d event o replies w tally new) (sym e) h) led

      go : (event : Event) → EventRead d event → (why : Option Refusal) → refusal w event ≡ why → Leads (Comes d event (refusal w event)) w
      go event read (Some why) e = at event (Some why) e (nothing w rest)
      go (config.request r) read None e =
          at (config.request r) None e
          (led_as (λ replies v. Carries d (of_request w r) replies) (Comes d (config.request r) None) w w (λ replies tally new h. h)
          (dispatched (entry_of d r) (of_request w r) w (request_keeps keep d well a w rest r read (not_released keep d well a w r e))))
      go (config.turn moment) read None e =
          at (config.turn moment) None e
          (led_as (RunsSources d (ready_at w moment)) (Comes d (config.turn moment) None) (turned d w moment) w (λ replies tally new h. h)
          (sources_lead (ready_at w moment) (turned d w moment) (turns keep d well a w moment rest)))

  events_lead : (events : List Event) → Each (EventRead d) events → (w : World) → IsResting d a w → Leads (ServesAll d events) w
  events_lead [] read w rest = nothing w rest
  events_lead (event ∷ events) read w rest =
      both (Serves d event) (ServesAll d events) w (event_leads event read.0 w rest) (events_lead events read.1)

  has_run : (peers : List Peer) → PoolReady d peers → (events : List Event) → Each (EventRead d) events → HasRun d peers events
  has_run peers ready events read =
      go
      (both (λ first w. Carries d (of_build d peers) first) (ServesAll d events) (first_world d peers)
      (dispatched entries.build (of_build d peers) (first_world d peers) (build_keeps keep d well a peers ready)) (events_lead events read))
    where
      go : Leads (Then (λ first w. Carries d (of_build d peers) first) (ServesAll d events)) (first_world d peers) → HasRun d peers events
      go led = record { replies = led.replies; fit = led.fit; tally = led.tally; last = led.new; run = led.leads }

pub runs_are_there : RunsAreThere
runs_are_there d well a peers ready events read = has_run steps_keep_good d well a peers ready events read
