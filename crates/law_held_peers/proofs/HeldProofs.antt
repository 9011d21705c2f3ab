-- What is so of a peer and its object, in all that a run comes to.
use Rattle.std.proofs.Common.{◌≡◌, refl, ap, sym, subst, ◌∙◌, ℕ, zero, suc, Bool, true, false, cond, not, is_some, List, [], ◌∷◌, Option, None, Some, slice_get}
use Rattle.std.specs.Prelude.{option_and_then}
use Rattle.std.proofs.lemmas.Bool.{false≢true}
use Rattle.ui_machine.specs.Definition.{Definition}
use Rattle.ui_machine.specs.Definition.Signals.{Shape}
use Rattle.ui_machine.specs.Rules.Construction.{nearest_shape}
use Rattle.ui_machine.specs.Rules.Events.{Refusal, refusal}
use Rattle.ui_machine.specs.Rules.MainLoop.{ready_at, turned}
use Rattle.ui_machine.specs.Runs.{Carries, Comes, Does, IsRun, Reaches, Rests, RunsSource, RunsSources, Serves, ServesAll, Steps, Tally, Then, beginning, of_build, of_request}
use Rattle.ui_machine.specs.State.Config.{Config, World}
use Rattle.ui_machine.specs.State.Objects.{Object, living}
use Rattle.ui_machine.specs.State.Peers.{Peer, Reply}
use Rattle.ui_machine.specs.State.Sources.{Source, source_of}
use Rattle.ui_machine.specs.State.Tasks.{Due, Event}
use Rattle.ui_machine.specs.State.Tasks as config
use Rattle.law_typing.specs.Good.Objects.{ObjectsGood, PeerGood}
use Rattle.law_typing.specs.Laws.StepsKeepGood.{IsResting}
use Rattle.law_typing.specs.Rules.Typing.{methods_of}
use Rattle.law_typing.specs.Verdict.Accepted.{Accepted}
use Rattle.law_steps.proofs.Served.SessionProofs.{runs_rest}
use Rattle.law_steps.proofs.Served.ThroughoutProofs.{throughout_build, throughout_request, throughout_source}
use Rattle.law_peers.specs.PeerLaws.{peer_in}
use Rattle.law_untaken_peers.specs.Untaken.{is_got}
use Rattle.law_untaken_peers.proofs.StepProofs.{read_there}
use Rattle.law_held_peers.specs.Holders.{BuildsHoldWell, HolderStands, AreHeldWell, RequestsHoldWell, RunsHoldWell, SourcesHoldWell}
use Rattle.law_held_peers.proofs.HolderProofs.{holding}
use Rattle.law_held_peers.proofs.Keeping.{Keeping}
use Rattle.law_held_peers.proofs.PartProofs.{Kept}
use Rattle.law_held_peers.proofs.TaskProofs.{step_keeps}

-- ** an object's own peer

-- what is good of an object that has the peer
pub record OwnPeer (d : Definition) (ps : List Peer) (id number : ℕ) (o : Object) : Type 0 where
  pub shape : ℕ
  pub of_class : nearest_shape d o.class ≡ Some shape
  pub holder : (peer_in ps number).holder ≡ Some id
  pub openness : (peer_in ps number).state.is_open ≡ not o.disposed
  pub shaped : (peer_in ps number).state.shape ≡ methods_of (slice_get d.shapes shape)

same_not : (b : Bool) → cond b false true ≡ not b
same_not true = refl
same_not false = refl

pub own_peer : (d : Definition) (w : World) → ObjectsGood d w → (id number : ℕ) (o : Object) → living w.objects id ≡ Some o → o.peer ≡ Some number → OwnPeer d w.peers id number o
own_peer d w good id number o there has = by (nearest_shape d o.class) refl (good id o there).peer
  where
    of_shape : (shape : ℕ) → nearest_shape d o.class ≡ Some shape → (m : Option Shape) → slice_get d.shapes shape ≡ m → PeerGood d w.peers id o → OwnPeer d w.peers id number o
    of_shape shape e None f g =
        let h = rw (e, f) at g in
        let numbers : ◌≡◌ {A = Option ℕ} (Some h.0) (Some number) = sym h.2 ∙ has in
        let one : h.0 ≡ number = cc numbers in
        let here : peer_in w.peers number ≡ h.1 = ap (peer_in w.peers) (sym one) ∙ read_there w.peers h.0 h.1 h.3 in
        record {
          shape = shape;
          of_class = e;
          holder = ap (λ (p : Peer). p.holder) here ∙ h.4;
          openness = ap (λ (p : Peer). p.state.is_open) here ∙ (h.5 ∙ same_not o.disposed);
          shaped = ap (λ (p : Peer). p.state.shape) here ∙ (h.6 ∙ sym (ap methods_of f));
        }
    of_shape shape e (Some s) f g =
        let h = rw (e, f) at g in
        let numbers : ◌≡◌ {A = Option ℕ} (Some h.0) (Some number) = sym h.2 ∙ has in
        let one : h.0 ≡ number = cc numbers in
        let here : peer_in w.peers number ≡ h.1 = ap (peer_in w.peers) (sym one) ∙ read_there w.peers h.0 h.1 h.3 in
        record {
          shape = shape;
          of_class = e;
          holder = ap (λ (p : Peer). p.holder) here ∙ h.4;
          openness = ap (λ (p : Peer). p.state.is_open) here ∙ (h.5 ∙ same_not o.disposed);
          shaped = ap (λ (p : Peer). p.state.shape) here ∙ (h.6 ∙ sym (ap methods_of f));
        }

    by : (s : Option ℕ) → nearest_shape d o.class ≡ s → PeerGood d w.peers id o → OwnPeer d w.peers id number o
    by None e g = absurd (let none : o.peer ≡ None = (rw e at g) in cc (none, has))
    by (Some shape) e g = of_shape shape e (slice_get d.shapes shape) refl g

pub held_well : (d : Definition) (pool : List Peer) (w : World) → ObjectsGood d w → ((number : ℕ) → is_got pool number ≡ false → HolderStands w.objects w.peers number) →
    AreHeldWell d pool w
held_well d pool w good stands = record {
  own = λ id o number there has. (own_peer d w good id number o there has).holder;
  alone = λ id other o p number there here has own.
      let e : ◌≡◌ {A = Option ℕ} (Some id) (Some other) = sym (own_peer d w good id number o there has).holder ∙ (own_peer d w good other number p here own).holder in cc e;
  openness = λ id o number there has. (own_peer d w good id number o there has).openness;
  shaped = λ id o number there has.
      let x = own_peer d w good id number o there has in
      x.shaped ∙ sym (ap (λ s. methods_of (option_and_then (λ shape. slice_get d.shapes shape) s)) x.of_class);
  held = stands;
}

-- ** dispatches

module _ (K : Keeping) (d : Definition) where
  steps_keep : (n : ℕ) (replies : List Reply) (c e : Config) → Steps d n replies c e → Kept K c.world → Kept K e.world
  steps_keep zero replies c e s holds = subst (λ (x : Config). Kept K x.world) s.1 holds
  steps_keep (suc n) replies c e s holds = steps_keep n s.later s.mid e s.follows (step_keeps K d s.reply c s.mid s.step holds)

  pub reaches_keep : (replies : List Reply) (c e : Config) → Reaches d replies c e → Kept K c.world → Kept K e.world
  reaches_keep replies c e r holds = steps_keep r.count replies c e r.steps holds

  -- ** runs

  abbrev pub AllKeep : (List Reply → World → Tally → World → Type 0) → Type 0
  AllKeep Leads = (replies : List Reply) (w : World) (tally : Tally) (new : World) → Leads replies w tally new → Kept K w → Kept K new

  carries : (c : Config) (replies : List Reply) (tally : Tally) (new : World) → Carries d c replies tally new → Kept K c.world → Kept K new
  carries c replies tally new h holds = subst (λ (v : World). Kept K v) h.dispatches.leaves (reaches_keep replies c h.dispatches.at h.dispatches.reached holds)

  rests : AllKeep Rests
  rests replies w tally new h holds = subst (λ (v : World). Kept K v) h.same holds

  both : (First Later : List Reply → World → Tally → World → Type 0) → AllKeep First → AllKeep Later → AllKeep (Then First Later)
  both First Later first later replies w tally new t holds = later t.later t.mid t.later_tally new t.goes_on (first t.first w t.first_tally t.mid t.begins holds)

  runs_source : (number : ℕ) (s : Option Source) → AllKeep (RunsSource d number s)
  runs_source number None replies w tally new h holds = rests replies w tally new h holds
  runs_source number (Some s) replies w tally new h holds = carries (beginning w (Due number)) replies tally new h holds

  pub runs_sources : (numbers : List ℕ) → AllKeep (RunsSources d numbers)
  runs_sources [] replies w tally new h holds = rests replies w tally new h holds
  runs_sources (number ∷ more) replies w tally new h holds =
      both (λ first v. RunsSource d number (source_of number v.sources) first v) (RunsSources d more)
      (λ first v t u. runs_source number (source_of number v.sources) first v t u) (runs_sources more) replies w tally new h holds

  does : (event : Event) → AllKeep (Does d event)
  does (config.request r) replies w tally new h holds = carries (of_request w r) replies tally new h holds
  does (config.turn moment) replies w tally new h holds = runs_sources (ready_at w moment) replies (turned d w moment) tally new h holds

  comes : (event : Event) (why : Option Refusal) → AllKeep (Comes d event why)
  comes event (Some why) replies w tally new h holds = rests replies w tally new h holds
  comes event None replies w tally new h holds = does event replies w tally new h holds

  serves_all : (events : List Event) → AllKeep (ServesAll d events)
  serves_all [] replies w tally new h holds = rests replies w tally new h holds
  serves_all (event ∷ events) replies w tally new h holds =
      both (Serves d event) (ServesAll d events) (λ r v t u x y. comes event (refusal v event) r v t u x y) (serves_all events) replies w tally new h holds

  pub run_keeps : (peers : List Peer) (events : List Event) (replies : List Reply) (tally : Tally) (new : World) → IsRun d peers events replies tally new →
      Kept K (of_build d peers).world → Kept K new
  run_keeps peers events replies tally new r holds =
      serves_all events r.later r.mid r.later_tally new r.goes_on (carries (of_build d peers) r.first r.first_tally r.mid r.begins holds)

-- ** held well

-- a peer that no object holds has no holder that is to stand
pub none_stands : (d : Definition) (peers : List Peer) (number : ℕ) → is_got peers number ≡ false → HolderStands (of_build d peers).world.objects (of_build d peers).world.peers number
none_stands d peers number none = record {
  made = λ id is. absurd (unheld id is);
  has = λ id o is there. absurd (unheld id is);
  stands = λ id is opened. absurd (unheld id is);
}
  where
    unheld : (id : ℕ) → (peer_in peers number).holder ≡ Some id → ⊥
    unheld id is = false≢true (sym none ∙ ap (λ (x : Option ℕ). is_some x) is)

run_stands : (d : Definition) (peers : List Peer) (events : List Event) (replies : List Reply) (tally : Tally) (new : World) → IsRun d peers events replies tally new →
    (number : ℕ) → is_got peers number ≡ false → HolderStands new.objects new.peers number
run_stands d peers events replies tally new run number none = run_keeps (holding number) d peers events replies tally new run (none_stands d peers number none)

abbrev GoodAt : Definition → Config → Type 0
GoodAt d c = ObjectsGood d c.world

pub builds_hold_well : BuildsHoldWell
builds_hold_well d well a peers ready replies fit at r =
    held_well d peers at.world (throughout_build d (GoodAt d) (λ costs depths most_counted most c good. good.objects) well a peers ready replies fit at r)
    (λ number none. reaches_keep (holding number) d replies (of_build d peers) at r (none_stands d peers number none))

pub requests_hold_well : RequestsHoldWell
requests_hold_well d well a pool w rest before request fits kept replies fit at r =
    held_well d pool at.world (throughout_request d (GoodAt d) (λ costs depths most_counted most c good. good.objects) well a w rest request fits kept replies fit at r)
    (λ number none. reaches_keep (holding number) d replies (of_request w request) at r (before.held number none))

pub sources_hold_well : SourcesHoldWell
sources_hold_well d well a pool w rest before source s is replies fit at r =
    held_well d pool at.world (throughout_source d (GoodAt d) (λ costs depths most_counted most c good. good.objects) well a w rest source s is replies fit at r)
    (λ number none. reaches_keep (holding number) d replies (beginning w (Due source)) at r (before.held number none))

-- so it is of a world at rest in which holders stand
pub rests_hold_well : (d : Definition) (a : Accepted d) (pool : List Peer) (w : World) → IsResting d a w →
    ((number : ℕ) → is_got pool number ≡ false → HolderStands w.objects w.peers number) → AreHeldWell d pool w
rests_hold_well d a pool w rest stands = held_well d pool w rest.objects stands

pub runs_hold_well : RunsHoldWell
runs_hold_well d well a peers ready events read replies fit tally last run =
    rests_hold_well d a peers last (runs_rest d well a peers ready events read replies fit tally last run) (run_stands d peers events replies tally last run)
