-- What the end of a session closes.
use Rattle.std.proofs.Common.{◌≡◌, refl, ap, sym, subst, ◌∙◌, ℕ, zero, suc, Bool, true, false, cond, nat_eq, is_some, length, List, [], ◌∷◌, map, Option, None, Some, slice_get, arith}
use Rattle.std.specs.List.{fold}
use Rattle.std.specs.Option.{option_map_or}
use Rattle.std.specs.Prelude.{IsSome, slice_set}
use Rattle.std.proofs.lemmas.Bool.{eqb-true, false≢true}
use Rattle.std.proofs.lemmas.Bool.Decides.{nat_tests}
use Rattle.ui_machine.specs.declared.arm.Halt.{Halt}
use Rattle.ui_machine.specs.Definition.{Definition}
use Rattle.ui_machine.specs.Rules.Disposal.{finish, peers_closed}
use Rattle.ui_machine.specs.Rules.Events.{refusal}
use Rattle.ui_machine.specs.Rules.MainLoop.{turned}
use Rattle.ui_machine.specs.Runs.{Fits, HaltsIn, RunsSources, Tally, TurnHalts, at_a_source, at_its_beginning}
use Rattle.ui_machine.specs.Seq.{read}
use Rattle.ui_machine.specs.State.Config.{World}
use Rattle.ui_machine.specs.State.Objects.{Object, Objects, living}
use Rattle.ui_machine.specs.State.Peers.{Peer, Reply, closed_peer, no_peer}
use Rattle.ui_machine.specs.State.Sources.{Source, source_of}
use Rattle.ui_machine.specs.State.Tasks.{Due, Event}
use Rattle.ui_machine.specs.State.Tasks as config
use Rattle.law_typing.specs.Laws.StepsKeepGood.{IsResting}
use Rattle.law_typing.specs.Laws.WellRead.{WellRead}
use Rattle.law_typing.specs.Verdict.Accepted.{Accepted, Each}
use Rattle.law_steps.proofs.Served.DispatchProofs.{both_fit}
use Rattle.law_steps.proofs.Served.SessionProofs.{not_released, runs_rest, runs_source, turns}
use Rattle.law_steps.proofs.Served.WorkedProofs.{premises_met}
use Rattle.law_steps.proofs.Tasked.StepsProofs.{steps_keep_good}
use Rattle.law_steps.specs.Served.Sessions.{EventRead}
use Rattle.law_peers.specs.PeerLaws.{peer_in}
use Rattle.law_untaken_peers.specs.Untaken.{is_got}
use Rattle.law_held_peers.specs.Endings.{BuildsHaltClosed, EventsHaltClosed, FinishClosesAll, FinishClosesHeld, NoneIsHeld, PoolIsClosed, PremisesMetUnheld, RunsCloseHeld, ShownAndClosed, closed_if_held}
use Rattle.law_held_peers.specs.Holders.{AreHeldWell}
use Rattle.law_held_peers.proofs.HeldProofs.{builds_hold_well, requests_hold_well, rests_hold_well, runs_hold_well, runs_sources, sources_hold_well}
use Rattle.law_held_peers.proofs.HolderProofs.{holding}

-- ** one object's peer

module _ (k : ℕ) where
  -- whether a peer is this one
  abbrev is_this : Option ℕ → Bool
  is_this None = false
  is_this (Some j) = nat_eq j k

  -- whether an object has it
  abbrev has : Option Object → Bool
  has None = false
  has (Some o) = is_this o.peer

  -- whether one of some objects has it
  abbrev one_has : Objects → Bool
  one_has [] = false
  one_has (x ∷ os) = cond (has x) true (one_has os)

  -- a peer that is not there is closed
  out_of : (ps : List Peer) (j : ℕ) → slice_get ps j ≡ None → peer_in ps j ≡ no_peer
  out_of [] j e = refl
  out_of (x ∷ ps) zero e = absurd (cc e)
  out_of (x ∷ ps) (suc j) e = out_of ps j e

  set_same : (ps : List Peer) (j : ℕ) (p : Peer) → slice_get ps j ≡ Some p → peer_in (slice_set ps j (closed_peer p)) j ≡ closed_peer (peer_in ps j)
  set_same [] j p e = absurd (cc e)
  set_same (x ∷ ps) zero p e = ap (λ (q : Peer). closed_peer q) (let same : x ≡ p = cc e in sym same)
  set_same (x ∷ ps) (suc j) p e = set_same ps j p e

  one_less : (i j : ℕ) → nat_eq (suc i) (suc j) ≡ false → nat_eq i j ≡ false
  one_less i j e = grind (arith, nat_tests)

  set_other : (ps : List Peer) (j i : ℕ) (q : Peer) → nat_eq j i ≡ false → peer_in (slice_set ps j q) i ≡ peer_in ps i
  set_other [] j i q e = refl
  set_other (x ∷ ps) zero zero q e = absurd (cc e)
  set_other (x ∷ ps) zero (suc i) q e = refl
  set_other (x ∷ ps) (suc j) zero q e = refl
  set_other (x ∷ ps) (suc j) (suc i) q e = set_other ps j i q (one_less j i e)

  -- the pool after an object's peer was closed, if it has one
  abbrev closed_for : List Peer → Object → Option ℕ → List Peer
  closed_for ps o peer = peers_closed ps (Some (record o { peer = peer }))

  of_peer : (ps : List Peer) (o : Object) (peer : Option ℕ) → peer_in (closed_for ps o peer) k ≡ cond (is_this peer) (closed_peer (peer_in ps k)) (peer_in ps k)
  of_peer ps o None = refl
  of_peer ps o (Some j) = by (slice_get ps j) refl (nat_eq j k) refl
    where
      by : (there : Option Peer) → slice_get ps j ≡ there → (b : Bool) → nat_eq j k ≡ b →
          peer_in (option_map_or (λ p. slice_set ps j (closed_peer p)) there ps) k ≡ cond (nat_eq j k) (closed_peer (peer_in ps k)) (peer_in ps k)
      by None e true f =
          let out : peer_in ps k ≡ no_peer = ap (peer_in ps) (sym (eqb-true j k f)) ∙ out_of ps j e in
          rw f (out ∙ sym (ap (λ (q : Peer). closed_peer q) out))
      by None e false f = rw f refl
      by (Some p) e true f =
          let same = eqb-true j k f in
          rw f (subst (λ i. peer_in (slice_set ps j (closed_peer p)) i ≡ closed_peer (peer_in ps i)) same (set_same ps j p e))
      by (Some p) e false f = rw f (set_other ps j k (closed_peer p) f)

  of_one : (ps : List Peer) (x : Option Object) → peer_in (peers_closed ps x) k ≡ cond (has x) (closed_peer (peer_in ps k)) (peer_in ps k)
  of_one ps None = refl
  of_one ps (Some o) = of_peer ps o o.peer

  -- it is closed if one of the objects has it
  of_all : (ps : List Peer) (os : Objects) → peer_in (fold peers_closed ps os) k ≡ cond (one_has os) (closed_peer (peer_in ps k)) (peer_in ps k)
  of_all ps [] = refl
  of_all ps (x ∷ os) = of_all (peers_closed ps x) os ∙ by (has x) (one_has os) (of_one ps x)
    where
      by : (a b : Bool) → peer_in (peers_closed ps x) k ≡ cond a (closed_peer (peer_in ps k)) (peer_in ps k) →
          cond b (closed_peer (peer_in (peers_closed ps x) k)) (peer_in (peers_closed ps x) k) ≡ cond (cond a true b) (closed_peer (peer_in ps k)) (peer_in ps k)
      by true true e = ap (λ (q : Peer). closed_peer q) e
      by true false e = e
      by false true e = ap (λ (q : Peer). closed_peer q) e
      by false false e = e

  -- ** who has it

  -- an object that has it
  record Has (os : Objects) : Type 0 where
    index : ℕ
    object : Object
    there : read None os index ≡ Some object
    own : object.peer ≡ Some k

  is_own : (peer : Option ℕ) → is_this peer ≡ true → peer ≡ Some k
  is_own None e = absurd (false≢true e)
  is_own (Some j) e = ap (λ i. Some i) (eqb-true j k e)

  if_own : (peer : Option ℕ) → is_this peer ≡ false → peer ≡ Some k → ⊥
  if_own None e f = absurd (cc f)
  if_own (Some j) e f = let same : j ≡ k = cc f in grind (arith, nat_tests)

  later : (x : Option Object) (os : Objects) → Has os → Has (x ∷ os)
  later x os h = record { index = suc h.index; object = h.object; there = h.there; own = h.own }

  who_has : (os : Objects) → one_has os ≡ true → Has os
  who_has [] e = absurd (false≢true e)
  who_has (None ∷ os) e = later None os (who_has os e)
  who_has (Some o ∷ os) e = by (is_this o.peer) refl (who_has os) e
    where
      by : (b : Bool) → is_this o.peer ≡ b → (one_has os ≡ true → Has os) → cond b true (one_has os) ≡ true → Has (Some o ∷ os)
      by true f rest e = record { index = 0; object = o; there = refl; own = is_own o.peer f }
      by false f rest e = later (Some o) os (rest e)

  none_has : (os : Objects) → one_has os ≡ false → (i : ℕ) (o : Object) → read None os i ≡ Some o → o.peer ≡ Some k → ⊥
  none_has [] e i o is own = absurd (cc is)
  none_has (None ∷ os) e zero o is own = absurd (cc is)
  none_has (None ∷ os) e (suc i) o is own = none_has os e i o is own
  none_has (Some p ∷ os) e i o is own = by (is_this p.peer) refl (none_has os) i e is
    where
      by : (b : Bool) → is_this p.peer ≡ b → (one_has os ≡ false → (i : ℕ) (o : Object) → read None os i ≡ Some o → o.peer ≡ Some k → ⊥) →
          (i : ℕ) → cond b true (one_has os) ≡ false → read None (Some p ∷ os) i ≡ Some o → ⊥
      by true f rest i e is = false≢true (sym e)
      by false f rest zero e is = let same : p ≡ o = cc is in if_own p.peer f (ap (λ (q : Object). q.peer) same ∙ own)
      by false f rest (suc i) e is = rest e i o is own

  none_living : (os : Objects) → one_has os ≡ false → (id : ℕ) (o : Object) → living os id ≡ Some o → o.peer ≡ Some k → ⊥
  none_living os e zero o is own = absurd (cc is)
  none_living os e (suc i) o is own = none_has os e i o is own

-- ** peers that are held well

-- one that is closed is as it is closed
closed_already : (p : Peer) → p.state.is_open ≡ false → closed_peer p ≡ p
closed_already p e = ap (λ b. record p { state = record p.state { is_open = b } }) (sym e)

pub finish_closes_held : FinishClosesHeld
finish_closes_held d pool w held k none = of_all k w.peers w.objects ∙ by (one_has k w.objects) refl
  where
    p : Peer
    p = peer_in w.peers k

    of_holder : one_has k w.objects ≡ false → (holder : Option ℕ) → p.holder ≡ holder → (opened : Bool) → p.state.is_open ≡ opened → p ≡ cond (is_some holder) (closed_peer p) p
    of_holder unhad None h opened e = refl
    of_holder unhad (Some id) h true e = absurd (let x = (held.held k none).stands id h e in none_living k w.objects unhad id x.object x.lives x.peer)
    of_holder unhad (Some id) h false e = sym (closed_already p e)

    by : (b : Bool) → one_has k w.objects ≡ b → cond b (closed_peer p) p ≡ closed_if_held p
    by true e =
        let x = who_has k w.objects e in
        let held_by : p.holder ≡ Some (suc x.index) = held.own (suc x.index) x.object k x.there x.own in
        sym (ap (λ (h : Option ℕ). cond (is_some h) (closed_peer p) p) held_by)
    by false e = of_holder e p.holder refl p.state.is_open refl

-- ** a whole pool

length_set : (ps : List Peer) (j : ℕ) (q : Peer) → length (slice_set ps j q) ≡ length ps
length_set [] j q = refl
length_set (x ∷ ps) zero q = refl
length_set (x ∷ ps) (suc j) q = ap suc (length_set ps j q)

length_one : (ps : List Peer) (x : Option Object) → length (peers_closed ps x) ≡ length ps
length_one ps None = refl
length_one ps (Some o) = by o.peer
  where
    by : (peer : Option ℕ) → length (peers_closed ps (Some (record o { peer = peer }))) ≡ length ps
    by None = refl
    by (Some j) = there (slice_get ps j)
      where
        there : (x : Option Peer) → length (option_map_or (λ p. slice_set ps j (closed_peer p)) x ps) ≡ length ps
        there None = refl
        there (Some p) = length_set ps j (closed_peer p)

length_all : (ps : List Peer) (os : Objects) → length (fold peers_closed ps os) ≡ length ps
length_all ps [] = refl
length_all ps (x ∷ os) = length_all (peers_closed ps x) os ∙ length_one ps x

-- two pools of which each peer is the same
same_pools : (ps qs : List Peer) → length ps ≡ length qs → ((k : ℕ) → peer_in ps k ≡ closed_if_held (peer_in qs k)) → ps ≡ map closed_if_held qs
same_pools [] [] n each = refl
same_pools [] (q ∷ qs) n each = absurd (cc n)
same_pools (p ∷ ps) [] n each = absurd (cc n)
same_pools (p ∷ ps) (q ∷ qs) n each =
    let first : p ≡ closed_if_held q = each 0 in
    let rest = same_pools ps qs (omega (arith, n)) (λ k. each (suc k)) in
    ap (λ x. x ∷ ps) first ∙ ap (λ xs. closed_if_held q ∷ xs) rest

none_got : (pool : List Peer) → NoneIsHeld pool → (k : ℕ) → is_got pool k ≡ false
none_got [] none k = refl
none_got (p ∷ pool) none zero = ap (λ (x : Option ℕ). is_some x) none.0
none_got (p ∷ pool) none (suc k) = none_got pool none.1 k

pub pool_is_closed : PoolIsClosed
pool_is_closed pool none w closed = same_pools (finish w).peers w.peers (length_all w.peers w.objects) (λ k. closed k (none_got pool none k))

-- ** runs

pub runs_close_held : RunsCloseHeld
runs_close_held d well a peers ready events read replies fit tally last run =
    finish_closes_held d peers last (runs_hold_well d well a peers ready events read replies fit tally last run)

pub finish_closes_all : FinishClosesAll
finish_closes_all d well a peers ready none events read replies fit tally last run =
    pool_is_closed peers none last (runs_close_held d well a peers ready events read replies fit tally last run)

pub premises_met_unheld : PremisesMetUnheld
premises_met_unheld = record { session = premises_met; unheld = (refl, tt) }

-- ** where no memory was found

pub builds_halt_closed : BuildsHaltClosed
builds_halt_closed d well a peers ready replies fit halt shown h = record {
  at = h.at.world;
  lines = h.lines;
  closed = finish_closes_held d peers h.at.world (builds_hold_well d well a peers ready replies fit h.at h.reached);
}

found : (o : Option Source) → IsSome o → (s : Source) × (o ≡ Some s)
found None is = absurd (cc is)
found (Some s) is = (s, refl)

module _ (d : Definition) (well : WellRead d) (a : Accepted d) where
  -- sources that ran left the world at rest
  sources_rest : (numbers : List ℕ) (replies : List Reply) → Each (Fits d) replies → (w : World) (tally : Tally) (new : World) → IsResting d a w →
      RunsSources d numbers replies w tally new → IsResting d a new
  sources_rest [] replies fit w tally new rest h = subst (IsResting d a) h.same rest
  sources_rest (number ∷ more) replies fit w tally new rest h =
      let parts = both_fit d h.first h.later (subst (Each (Fits d)) h.replied fit) in
      sources_rest more h.later parts.1 h.mid h.later_tally new
      (runs_source steps_keep_good d well a number h.first parts.0 w h.first_tally h.mid rest h.begins) h.goes_on

  module _ (pool : List Peer) (w : World) (rest : IsResting d a w) (held : AreHeldWell d pool w) where
    turn_closed : (moment : ℕ) (replies : List Reply) → Each (Fits d) replies → (halt : Halt) (shown : List (List ℕ)) → TurnHalts d moment replies w halt shown → ShownAndClosed pool shown
    turn_closed moment replies fit halt shown h =
        let parts = both_fit d h.first h.later (subst (Each (Fits d)) h.replied fit) in
        let mid_rests = sources_rest h.done h.first parts.0 (turned d w moment) h.tally h.mid (turns steps_keep_good d well a w moment rest) h.runs in
        let mid_held = rests_hold_well d a pool h.mid mid_rests (λ k none. runs_sources (holding k) d h.done h.first (turned d w moment) h.tally h.mid h.runs (held.held k none)) in
        let source = found (source_of h.number h.mid.sources) h.stands in
        record {
          at = h.halts.at.world;
          lines = h.halts.lines;
          closed = finish_closes_held d pool h.halts.at.world
              (sources_hold_well d well a pool h.mid mid_rests mid_held h.number source.0 source.1 h.later parts.1 h.halts.at h.halts.reached);
        }

    event_closed : (event : Event) → EventRead d event → refusal w event ≡ None → (replies : List Reply) → Each (Fits d) replies → (halt : Halt) (shown : List (List ℕ)) →
        HaltsIn d event replies w halt shown → ShownAndClosed pool shown
    event_closed (config.request r) read goes replies fit halt shown h = record {
      at = h.at.world;
      lines = h.lines;
      closed = finish_closes_held d pool h.at.world
          (requests_hold_well d well a pool w rest held r read (not_released steps_keep_good d well a w r goes) replies fit h.at h.reached);
    }
    event_closed (config.turn moment) read goes replies fit halt shown (at_its_beginning h) = record { at = w; lines = h.lines; closed = finish_closes_held d pool w held }
    event_closed (config.turn moment) read goes replies fit halt shown (at_a_source h) = turn_closed moment replies fit halt shown h

pub events_halt_closed : EventsHaltClosed
events_halt_closed d well a peers ready events read replies fit tally w run event fits goes more fit_more halt shown h =
    event_closed d well a peers w (runs_rest d well a peers ready events read replies fit tally w run)
    (runs_hold_well d well a peers ready events read replies fit tally w run) event fits goes more fit_more halt shown h
