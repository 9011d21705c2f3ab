-- Each dispatch of a run is paid: it begins within what it is asked for, and each step is paid.
use Rattle.std.proofs.Common.{◌≡◌, refl, ap, subst, ℕ, zero, suc, ◌+◌, ◌≤◌, List, [], ◌∷◌, ◌++◌, Option, None, Some, arith}
use Rattle.std.specs.Prelude.{IfSome}
use Rattle.ui_machine.specs.Seq.{read}
use Rattle.ui_machine.specs.Definition.{Definition}
use Rattle.ui_machine.specs.Rules.Events.{refusal}
use Rattle.ui_machine.specs.Rules.MainLoop.{ready_at, turned}
use Rattle.ui_machine.specs.Runs.{Carries, Comes, Fits, IsRun, Rests, RunsSource, RunsSources, Serves, ServesAll, Steps, Tally, Then, beginning, listed, of_build, of_request}
use Rattle.ui_machine.specs.State.Config.{Config, World}
use Rattle.ui_machine.specs.State.Peers.{Peer, Reply}
use Rattle.ui_machine.specs.State.Sources.{Source, is_numbered, source_of}
use Rattle.ui_machine.specs.State.Tasks.{Due, Event, Handling, Request, Task}
use Rattle.ui_machine.specs.State.Tasks as config
use Rattle.ui_machine.specs.Steps.{most_steps}
use Rattle.law_typing.specs.Good.Bindings.{SourceGood}
use Rattle.law_typing.specs.Good.Requests.{RequestRead, entry_of}
use Rattle.law_typing.specs.Good.Standing.{standing}
use Rattle.law_typing.specs.Graph.Channels as entries
use Rattle.law_typing.specs.Graph.Tables.{Tables}
use Rattle.law_typing.specs.Laws.StepsKeepGood.{IsGood, IsResting, PoolReady, bound_of}
use Rattle.law_typing.specs.Laws.WellRead.{WellRead}
use Rattle.law_typing.specs.Verdict.Accepted.{Accepted, Each}
use Rattle.law_typing.proofs.Lists.{each_in}
use Rattle.law_typing.proofs.OneSolutionProofs.{find_in}
use Rattle.law_static.proofs.BuildCostProofs as builds
use Rattle.law_static.proofs.RequestProofs.{requests_begin}
use Rattle.law_static.proofs.SourceProofs.{sources_begin}
use Rattle.law_steps.specs.Served.Sessions as sessions
use Rattle.law_steps.specs.Served.Sessions.{Dispatch, EventRead, beginning_of, building, serving, turning}
use Rattle.law_steps.proofs.Served.DispatchProofs.{both_fit, one_step}
use Rattle.law_steps.proofs.Served.EntryProofs.{build_printed, printed_few, request_printed, source_printed}
use Rattle.law_steps.proofs.Served.SessionProofs.{build_keeps, carried, not_released, request_keeps, source_keeps, turns}
use Rattle.law_steps.proofs.Tasked.StepsProofs.{steps_keep_good}
use Rattle.law_prices.specs.Asked.{Asked, asked_by}
use Rattle.law_prices.specs.Asked as asked
use Rattle.law_prices.specs.Deeds.{PriceList}
use Rattle.law_prices.specs.Dispatches.{DispatchesPay, asked_for, steps_price}
use Rattle.law_prices.specs.Paid.{Paid, PaidAtRest}
use Rattle.law_prices.specs.Potential.{potential}
use Rattle.law_prices.specs.Prices.{SolvesPrices, price, store}
use Rattle.law_prices.proofs.BeginPays.{build_begins, request_begins, source_begins}
use Rattle.law_prices.proofs.StepFalls.{prices_fall}
use Rattle.law_prices.proofs.Whole.{paid_alike}

-- nothing stands in an empty world
none_stands : {A : Type 0} (id place : ℕ) → standing [] id ≡ Some place → A
none_stands zero place e = absurd (cc)
none_stands (suc i) place e = absurd (cc)

-- the first reply, if there is one, fits, and the later ones
pub first_fits : (d : Definition) (reply : Option Reply) (later : List Reply) → Each (Fits d) (listed reply ++ later) → IfSome reply (Fits d) × Each (Fits d) later
first_fits d None later fit = (tt, fit)
first_fits d (Some r) later fit = fit

module _ (d : Definition) (well : WellRead d) (a : Accepted d) (P : PriceList) (t : Tables) (solves : SolvesPrices d P t) where
  -- ** steps

  -- what some steps come to
  pub record ComesTo (most : ℕ) (n : ℕ) (replies : List Reply) (c e : Config) (s : Steps d n replies c e) : Type 0 where
    pub good : IsGood d a most e
    pub paid : Paid d a e
    pub falls : steps_price d P n replies c e s + potential d P t e ≤ potential d P t c

  pub comes : (most : ℕ) → most ≤ most_steps → (n : ℕ) (replies : List Reply) → Each (Fits d) replies → (c e : Config) → IsGood d a most c → Paid d a c → (s : Steps d n replies c e) → ComesTo most n replies c e s
  comes most few zero replies fit c e good paid s = record {
    good = subst (IsGood d a most) s.1 good;
    paid = subst (Paid d a) s.1 paid;
    falls = (let same = ap (potential d P t) s.1 in omega (arith, same));
  }
  comes most few (suc n) replies fit c e good paid s =
      let both = first_fits d s.reply s.later (subst (Each (Fits d)) s.replied fit) in
      let next = one_step steps_keep_good d well a most few c s.mid good s.reply both.0 s.step in
      let falls = prices_fall d well a P t solves most few c good paid s.reply (record { asks = s.step.asks; fits = both.0 }) s.mid s.step.leads in
      let rest = comes most few n s.later both.1 s.mid e next falls.paid s.follows in
      let first = falls.falls in
      let later = rest.falls in
      record { good = rest.good; paid = rest.paid; falls = omega (arith, first, later) }

  -- ** where each dispatch begins

  -- a configuration from which what is asked for is paid
  pub record Begins (e : Asked) (c : Config) : Type 0 where
    pub most : ℕ
    pub few : most ≤ most_steps
    pub good : IsGood d a most c
    pub paid : Paid d a c
    pub within : potential d P t c ≤ price d P t e + store d P

  build_at : (peers : List Peer) → PoolReady d peers → Begins asked.build (of_build d peers)
  build_at peers ready =
      let good = builds.build_begins d well a peers ready in
      record {
        most = bound_of d a entries.build;
        few = printed_few d a well entries.build (build_printed d a);
        good = good;
        paid = λ costs. record { each = tt; rising = tt; numbered = tt; few = λ id number. omega arith; channels = λ id place e. none_stands id place e };
        within = build_begins d a P t solves (bound_of d a entries.build) peers good;
      }

  request_at : (w : World) → IsResting d a w → PaidAtRest d a w → (r : Request) → RequestRead d r → refusal w (config.request r) ≡ None → Begins (asked_by r) (of_request w r)
  request_at w rest paid r fits accepted = record {
    most = bound_of d a (entry_of d r);
    few = printed_few d a well (entry_of d r) (request_printed d a r);
    good = requests_begin d well a w rest r fits (not_released steps_keep_good d well a w r accepted);
    paid = paid_alike d a (standing w.objects) [] (Handling r ∷ []) w.last_handler w.handlers (λ f. omega arith) paid;
    within = request_begins d a P t solves w rest r;
  }

  source_at : (w : World) → IsResting d a w → PaidAtRest d a w → (number : ℕ) (s : Source) → source_of number w.sources ≡ Some s → Begins (asked.source s.program) (beginning w (Due number))
  source_at w rest paid number s is = record {
    most = bound_of d a (entries.source s.program);
    few = printed_few d a well (entries.source s.program) (source_printed d a s.program (each_in (SourceGood d (standing w.objects)) w.sources rest.sources s (find_in (is_numbered number) w.sources s is).0).told);
    good = sources_begin d well a w rest number s is;
    paid = paid_alike d a (standing w.objects) [] (Due number ∷ []) w.last_handler w.handlers (λ f. omega arith) paid;
    within = source_begins d a P t solves w rest number s is;
  }

  -- ** the handlers stay paid between dispatches

  abbrev AtRest : World → Type 0
  AtRest w = IsResting d a w × PaidAtRest d a w

  ended_paid : (e : Asked) (c : Config) → Begins e c → (replies : List Reply) → Each (Fits d) replies → (tally : Tally) (new : World) → Carries d c replies tally new → PaidAtRest d a new
  ended_paid e c b replies fit tally new h =
      let x = h.dispatches in
      let last = comes b.most b.few x.reached.count replies fit c x.at b.good b.paid x.reached.steps in
      let none = subst (λ (tasks : List Task). Paid d a (record { world = x.at.world; agenda = tasks; counted = x.at.counted })) x.ended.agenda last.paid in
      subst (PaidAtRest d a) x.leaves none

  abbrev Leaves : (List Reply → World → Tally → World → Type 0) → Type 0
  Leaves Leads = (replies : List Reply) → Each (Fits d) replies → (w : World) (tally : Tally) (new : World) → AtRest w → Leads replies w tally new → AtRest new

  rests : Leaves Rests
  rests replies fit w tally new rest h = subst AtRest h.same rest

  both : (First Later : List Reply → World → Tally → World → Type 0) → Leaves First → Leaves Later → Leaves (Then First Later)
  both First Later first later replies fit w tally new rest h =
      let parts = both_fit d h.first h.later (subst (Each (Fits d)) h.replied fit) in
      later h.later parts.1 h.mid h.later_tally new (first h.first parts.0 w h.first_tally h.mid rest h.begins) h.goes_on

  runs_source : (number : ℕ) → Leaves (λ replies w. RunsSource d number (source_of number w.sources) replies w)
  runs_source number replies fit w tally new rest = go (source_of number w.sources) refl
    where
      go : (o : Option Source) → source_of number w.sources ≡ o → RunsSource d number o replies w tally new → AtRest new
      go None is h = rests replies fit w tally new rest h
      go (Some s) is h = (
        carried steps_keep_good d well a (entries.source s.program) (beginning w (Due number)) (source_keeps steps_keep_good d well a w rest.0 number s is) replies fit tally new h,
        ended_paid (asked.source s.program) (beginning w (Due number)) (source_at w rest.0 rest.1 number s is) replies fit tally new h,
      )

  runs_sources : (numbers : List ℕ) → Leaves (RunsSources d numbers)
  runs_sources [] = rests
  runs_sources (number ∷ more) = both (λ replies w. RunsSource d number (source_of number w.sources) replies w) (RunsSources d more) (runs_source number) (runs_sources more)

  turned_rest : (w : World) (moment : ℕ) → AtRest w → AtRest (turned d w moment)
  turned_rest w moment rest = (turns steps_keep_good d well a w moment rest.0, rest.1)

  serves : (event : Event) → EventRead d event → Leaves (Serves d event)
  serves event fits replies fit w tally new rest = go event fits (refusal w event) refl
    where
      go : (event : Event) → EventRead d event → (why : _) → refusal w event ≡ why → Comes d event why replies w tally new → AtRest new
      go event fits (Some why) e h = rests replies fit w tally new rest h
      go (config.request r) fits None e h = (
        carried steps_keep_good d well a (entry_of d r) (of_request w r) (request_keeps steps_keep_good d well a w rest.0 r fits (not_released steps_keep_good d well a w r e)) replies fit tally new h,
        ended_paid (asked_by r) (of_request w r) (request_at w rest.0 rest.1 r fits e) replies fit tally new h,
      )
      go (config.turn moment) fits None e h = runs_sources (ready_at w moment) replies fit (turned d w moment) tally new (turned_rest w moment rest) h

  serves_all : (events : List Event) → Each (EventRead d) events → Leaves (ServesAll d events)
  serves_all [] fits = rests
  serves_all (event ∷ events) fits = both (Serves d event) (ServesAll d events) (serves event fits.0) (serves_all events fits.1)

  run_rests : (peers : List Peer) → PoolReady d peers → (events : List Event) → Each (EventRead d) events → (replies : List Reply) → Each (Fits d) replies → (tally : Tally) (w : World) → IsRun d peers events replies tally w → AtRest w
  run_rests peers ready events read replies fit tally w h =
      let parts = both_fit d h.first h.later (subst (Each (Fits d)) h.replied fit) in
      let built : AtRest h.mid = (
        carried steps_keep_good d well a entries.build (of_build d peers) (build_keeps steps_keep_good d well a peers ready) h.first parts.0 h.first_tally h.mid h.begins,
        ended_paid asked.build (of_build d peers) (build_at peers ready) h.first parts.0 h.first_tally h.mid h.begins,
      ) in
      serves_all events read h.later parts.1 h.mid h.later_tally w built h.goes_on

  -- ** each dispatch of a run

  module _ (peers : List Peer) (ready : PoolReady d peers) (events : List Event) (read : Each (EventRead d) events) where
    earlier : (before later : List Event) (event : Event) → Each (EventRead d) (before ++ event ∷ later) → Each (EventRead d) before × EventRead d event
    earlier [] later event all = (tt, all.0)
    earlier (e ∷ before) later event all = let parts = earlier before later event all.1 in ((all.0, parts.0), parts.1)

    parts_read : (event : Event) (w : World) (s : sessions.Serves d peers events event w) → Each (EventRead d) s.before × EventRead d event
    parts_read event w s = earlier s.before s.later event (subst (Each (EventRead d)) s.is read)

    before_rests : (event : Event) (w : World) → sessions.Serves d peers events event w → AtRest w
    before_rests event w s = run_rests peers ready s.before (parts_read event w s).0 s.replies s.fit s.tally w s.run

    pub begins_at : (x : Dispatch d peers events) → Begins (asked_for x) (beginning_of x)
    begins_at building = build_at peers ready
    begins_at (serving r w s) = let rest = before_rests (config.request r) w s in request_at w rest.0 rest.1 r (parts_read (config.request r) w s).1 s.accepted
    begins_at (turning moment w s number v source runs) =
        let rest = runs_sources runs.before runs.replies runs.fit (turned d w moment) runs.tally v (turned_rest w moment (before_rests (config.turn moment) w s)) runs.run in
        source_at v rest.0 rest.1 number source runs.stands

pub dispatches_pay : DispatchesPay
dispatches_pay d well a peers ready events read x replies fit n at s P t solves =
    let b = begins_at d well a P t solves peers ready events read x in
    let end = comes d well a P t solves b.most b.few n replies fit (beginning_of x) at b.good b.paid s in
    let falls = end.falls in
    let within = b.within in
    omega (arith, falls, within)
