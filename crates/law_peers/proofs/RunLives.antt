-- How the peers of a pool live through steps, and through runs.
use Rattle.std.proofs.Common.{◌≡◌, refl, ap, sym, subst, ◌∙◌, ℕ, zero, suc, Bool, true, false, cond, not, List, [], ◌∷◌, ◌++◌, Option, None, Some, Ok, Err}
use Rattle.std.specs.List.{filter}
use Rattle.std.specs.Prelude.{IfOk, nat_lt}
use Rattle.std.proofs.lemmas.List.{append-nil}
use Rattle.std.proofs.lemmas.List.Elements.{filter-append}
use Rattle.ui_machine.specs.declared.arm.Arm.{Arm}
use Rattle.ui_machine.specs.declared.arm.Halt.{Halt}
use Rattle.ui_machine.specs.declared.arm.Arm.TheVariants as arms
use Rattle.ui_machine.specs.Definition.{Definition}
use Rattle.ui_machine.specs.Instructions.{running}
use Rattle.ui_machine.specs.Instructions.Peers.{calling_on}
use Rattle.ui_machine.specs.Outcome.{Answer, only_if, ◌>>=◌}
use Rattle.ui_machine.specs.Output.Lines.{Line}
use Rattle.ui_machine.specs.Output.Lines as lines
use Rattle.ui_machine.specs.Output.Text.{text_of_line}
use Rattle.ui_machine.specs.Rules.Build.{building}
use Rattle.ui_machine.specs.Rules.Disposal.{finalised}
use Rattle.ui_machine.specs.Rules.Events.{Refusal, refusal}
use Rattle.ui_machine.specs.Rules.MainLoop.{ready_at, turned}
use Rattle.ui_machine.specs.Runs.{Carries, Comes, Dispatches, Does, Halts, HaltsIn, at_a_source, at_its_beginning, Rests, RunsSource, RunsSources, Serves, ServesAll, Steps, Tally, Then, beginning, first_world, listed, of_build, of_request, question_in}
use Rattle.ui_machine.specs.State.Config.{Config, Left, Started, World, said}
use Rattle.ui_machine.specs.State.Peers.{Reply, Question}
use Rattle.ui_machine.specs.State.References.{mentions, next_unheld}
use Rattle.ui_machine.specs.State.Sources.{Source, source_of}
use Rattle.ui_machine.specs.State.Tasks.{Answering, Beginning, Building, Calling, Constructing, Due, Emitting, Event, Handling, Notifying, Running, Setting, Task, Thawing, Transferring, Unsetting, Item, adopts, binds, connects, forwards, makes}
use Rattle.ui_machine.specs.State.Tasks as config
use Rattle.ui_machine.specs.Steps.{act, asked_after, finalising, first_of, left, most_steps, step, uncounted}
use Rattle.machine_laws.specs.FrontLaws.{fronted_at, mapped}
use Rattle.machine_laws.proofs.FrontProofs.{step_appends}
use Rattle.law_peers.specs.PeerLines.{is_peer_line, peer_lines}
use Rattle.law_peers.specs.Blind.{LeavesPeers, first_meets_peers, items_meet_peers, meets_peers, tasks_meet_peers}
use Rattle.law_peers.specs.PeerLaws.{HaltLives, LivesTo, DispatchLives, EventLives, EventsLive, Lives, PeersLive, ReachesLives, RunLives, StepLives}
use Rattle.law_peers.proofs.OtherProofs.{Adds, other_at, steps_first}
use Rattle.law_peers.proofs.BlindProofs.{asks_nothing}
use Rattle.law_peers.proofs.LifeProofs.{then_live}
use Rattle.law_peers.proofs.PartLives.{builds_object, calls_on, finalises, quiet_line, rests_in, runs_on}

-- ** steps that are about no peer

quiet_adds : Adds (λ t. filter (λ line. not (is_peer_line line)) t)
quiet_adds t line e = filter-append (λ line. not (is_peer_line line)) t (line ∷ [])
    ∙ ap (λ b. filter (λ line. not (is_peer_line line)) t ++ cond (not b) (line ∷ []) []) e

-- no line about a peer is left among the others
none_left : (t : List (List ℕ)) → peer_lines (filter (λ line. not (is_peer_line line)) t) ≡ []
none_left [] = refl
none_left (l ∷ t) = by (is_peer_line l) refl (none_left t)
  where
    by : (b : Bool) → is_peer_line l ≡ b → peer_lines (filter (λ line. not (is_peer_line line)) t) ≡ [] → peer_lines (cond (not (is_peer_line l)) (l ∷ filter (λ line. not (is_peer_line line)) t) (filter (λ line. not (is_peer_line line)) t)) ≡ []
    by true e rest = ap (λ b. peer_lines (cond (not b) (l ∷ filter (λ line. not (is_peer_line line)) t) (filter (λ line. not (is_peer_line line)) t))) e ∙ rest
    by false e rest = ap (λ b. peer_lines (cond (not b) (l ∷ filter (λ line. not (is_peer_line line)) t) (filter (λ line. not (is_peer_line line)) t))) e
        ∙ (ap (λ b. cond b (l ∷ peer_lines (filter (λ line. not (is_peer_line line)) t)) (peer_lines (filter (λ line. not (is_peer_line line)) t))) e ∙ rest)

ok_same : {A : Type 0} (a b : A) → ◌≡◌ {A = Answer A} (Ok a) (Ok b) → a ≡ b
ok_same a b e = cc

-- the configuration before it has said anything
abbrev bare : Config → Config
bare c = record c { world = record c.world { transcript = [] } }

-- as lines are added behind those that are there, none of them is about a peer
abbrev Quiet : Config → Config → Type 0
Quiet c e = (e.world.peers ≡ c.world.peers) × (peer_lines e.world.transcript ≡ peer_lines c.world.transcript)

quiet_step : (d : Definition) (reply : Option Reply) (c e : Config) → meets_peers d c ≡ false → step d reply c ≡ Ok e → Quiet c e
quiet_step d reply c e none is = (
  ap (λ (x : Config). x.world.peers) (ok_same e (other_at (λ t. t) c.world.peers e) (sym is ∙ (steps_first (λ t. t) (λ t line quiet. refl) c.world.peers d reply c id none ∙ ap (mapped (other_at (λ t. t) c.world.peers)) is))),
  by (step d reply (bare c)) refl,
)
  where
    id : Option ℕ
    id = next_unheld (mentions d c) c.world.objects

    quiet : List (List ℕ) → List (List ℕ)
    quiet t = filter (λ line. not (is_peer_line line)) t

    -- what it says comes behind what it said
    behind : (front : List (List ℕ)) (a : Answer Config) → step d reply (bare c) ≡ a → step d reply (fronted_at front (bare c)) ≡ mapped (fronted_at front) a
    behind front a e = step_appends front d reply (bare c) ∙ ap (mapped (fronted_at front)) e

    same : step d reply (fronted_at c.world.transcript (bare c)) ≡ step d reply c
    same = ap (λ t. step d reply (record c { world = record c.world { transcript = t } })) (append-nil c.world.transcript)

    other_same : step d reply (fronted_at (quiet c.world.transcript) (bare c)) ≡ step d reply (other_at quiet c.world.peers c)
    other_same = ap (λ t. step d reply (record c { world = record c.world { transcript = t } })) (append-nil (quiet c.world.transcript))

    by : (a : Answer Config) → step d reply (bare c) ≡ a → peer_lines e.world.transcript ≡ peer_lines c.world.transcript
    by (Err arm) f = absurd (let h = sym is ∙ (sym same ∙ behind c.world.transcript (Err arm) f) in cc)
    by (Ok x) f =
        let added : e ≡ fronted_at c.world.transcript x = ok_same e (fronted_at c.world.transcript x) (sym is ∙ (sym same ∙ behind c.world.transcript (Ok x) f)) in
        let filtered : fronted_at (quiet c.world.transcript) x ≡ other_at quiet c.world.peers e =
        ok_same (fronted_at (quiet c.world.transcript) x) (other_at quiet c.world.peers e)
        (sym (behind (quiet c.world.transcript) (Ok x) f) ∙ (other_same ∙ (steps_first quiet quiet_adds c.world.peers d reply c id none ∙ ap (mapped (other_at quiet c.world.peers)) is))) in
        let clean : peer_lines (quiet c.world.transcript ++ x.world.transcript) ≡ [] =
        ap (λ (y : Config). peer_lines y.world.transcript) filtered ∙ none_left e.world.transcript in
        let nothing_said : peer_lines x.world.transcript ≡ [] =
        sym (filter-append is_peer_line (quiet c.world.transcript) x.world.transcript ∙ ap (λ t. t ++ peer_lines x.world.transcript) (none_left c.world.transcript)) ∙ clean in
        ap (λ (y : Config). peer_lines y.world.transcript) added
        ∙ (filter-append is_peer_line c.world.transcript x.world.transcript
        ∙ (ap (λ t. peer_lines c.world.transcript ++ t) nothing_said ∙ append-nil (peer_lines c.world.transcript)))

pub leaves_peers : LeavesPeers
leaves_peers d reply c e none is = quiet_step d reply c e none is

-- ** steps that are

left_at : (n : ℕ) (a : Answer Left) (P : World → Type 0) (e : Config) → IfOk a (λ l. P l.world) → left n a ≡ Ok e → P e.world
unfolding left
left_at n (Ok l) P e h is = subst (λ (x : Config). P x.world) (ok_same _ e is) h
left_at n (Err arm) P e h is = absurd (cc)

within : {A : Type 0} (b : Bool) (arm : Arm) (a : Answer A) (x : A) → only_if b arm a ≡ Ok x → a ≡ Ok x
within true arm a x e = e
within false arm a x e = absurd (cc)

uncounted_at : (rest : List Task) (n : ℕ) (a : Answer Started) (P : World → Type 0) (e : Config) → IfOk a (λ s. P s.world) → uncounted rest n a ≡ Ok e → P e.world
uncounted_at rest n (Ok s) P e h is = subst (λ (x : Config). P x.world) (ok_same _ e is) h
uncounted_at rest n (Err arm) P e h is = absurd (cc)

module _ (d : Definition) where
  is_finalised : (w : World) (id : ℕ) → IfOk (finalising d w id) (λ (s : Started). PeersLive d [] w s.world)
  unfolding finalising
  is_finalised w id = by (finalised d w id) (finalises d w id)
    where
      by : (a : Answer World) → IfOk a (PeersLive d [] w) → IfOk (a >>= λ (v : World). Ok (record { world = v; tasks = [] })) (λ (s : Started). PeersLive d [] w s.world)
      by (Ok v) h = h
      by (Err arm) h = tt

  builds : (w : World) (items : List Item) → items_meet_peers d items ≡ true → IfOk (building d w items) (λ (s : Started). PeersLive d [] w s.world)
  builds w (makes place ∷ items) met = builds_object d w place items
  builds w [] met = absurd (cc)
  builds w (adopts place ∷ items) met = absurd (cc)
  builds w (forwards place slot to ∷ items) met = absurd (cc)
  builds w (binds number ∷ items) met = absurd (cc)
  builds w (connects place number ∷ items) met = absurd (cc)

  no_reply : (reply : Option Reply) → ◌≡◌ {A = Option Question} None (question_in reply) → listed reply ≡ []
  no_reply None e = refl
  no_reply (Some r) e = absurd (cc)

  of_none : (reply : Option Reply) (w v : World) → ◌≡◌ {A = Option Question} None (question_in reply) → PeersLive d [] w v → PeersLive d (listed reply) w v
  of_none reply w v asks x = subst (λ rs. PeersLive d rs w v) (sym (no_reply reply asks)) x

  acted : (reply : Option Reply) (w : World) (tasks : List Task) (n : ℕ) (e : Config) → tasks_meet_peers d w tasks ≡ true →
      asked_after (record { world = w; agenda = tasks; counted = n }) None ≡ question_in reply → act d w reply tasks n ≡ Ok e → PeersLive d (listed reply) w e.world
  acted reply w (Running f ∷ rest) n e met asks is =
      of_none reply w e.world asks (left_at (suc n) (running d w rest f) (PeersLive d [] w) e (runs_on d w rest f met)
      (within (nat_lt n most_steps) arms.Steps (left (suc n) (running d w rest f)) e is))
  acted reply w (Calling call ∷ rest) n e met asks is = left_at n (calling_on d w call rest reply) (PeersLive d (listed reply) w) e (calls_on d w call rest reply asks) is
  acted reply w (Building items ∷ rest) n e met asks is =
      of_none reply w e.world asks (uncounted_at rest n (building d w items) (PeersLive d [] w) e (builds w items met) is)
  acted reply w [] n e met asks is = absurd (cc)
  acted reply w (Setting object slot x ∷ rest) n e met asks is = absurd (cc)
  acted reply w (Notifying object slot ∷ rest) n e met asks is = absurd (cc)
  acted reply w (Beginning emission ∷ rest) n e met asks is = absurd (cc)
  acted reply w (Emitting emission turns ∷ rest) n e met asks is = absurd (cc)
  acted reply w (Transferring number back ∷ rest) n e met asks is = absurd (cc)
  acted reply w (Unsetting number ∷ rest) n e met asks is = absurd (cc)
  acted reply w (Thawing object slots ∷ rest) n e met asks is = absurd (cc)
  acted reply w (Answering source ∷ rest) n e met asks is = absurd (cc)
  acted reply w (Constructing object steps held ∷ rest) n e met asks is = absurd (cc)
  acted reply w (Handling request ∷ rest) n e met asks is = absurd (cc)
  acted reply w (Due source ∷ rest) n e met asks is = absurd (cc)

  met : (reply : Option Reply) (c e : Config) (id : Option ℕ) → first_meets_peers d c id ≡ true → asked_after c id ≡ question_in reply → first_of d reply c id ≡ Ok e →
      PeersLive d (listed reply) c.world e.world
  met reply c e None m asks is = acted reply c.world c.agenda c.counted e m asks is
  met reply c e (Some id) m asks is =
      of_none reply c.world e.world asks (uncounted_at c.agenda (suc c.counted) (finalising d c.world id) (PeersLive d [] c.world) e (is_finalised c.world id)
      (within (nat_lt c.counted most_steps) arms.Steps (uncounted c.agenda (suc c.counted) (finalising d c.world id)) e is))

pub step_lives : StepLives
step_lives d reply c e s = by (meets_peers d c) refl
  where
    by : (b : Bool) → meets_peers d c ≡ b → PeersLive d (listed reply) c.world e.world
    by true m = met d reply c e (next_unheld (mentions d c) c.world.objects) m s.asks s.leads
    by false m =
        let q = quiet_step d reply c e m s.leads in
        of_none d reply c.world e.world (sym (asks_nothing d c c.world.peers m).0 ∙ s.asks) (rests_in d c.world e.world q.0 q.1)

-- ** runs

module _ (d : Definition) where
  abbrev AllLive : (List Reply → World → Tally → World → Type 0) → Type 0
  AllLive Leads = (replies : List Reply) (w : World) (tally : Tally) (new : World) → Leads replies w tally new → PeersLive d replies w new

  steps_live : (n : ℕ) (replies : List Reply) (c e : Config) → Steps d n replies c e → PeersLive d replies c.world e.world
  steps_live zero replies c e s = subst (λ rs. PeersLive d rs c.world e.world) (sym s.0) (subst (λ (x : Config). PeersLive d [] c.world x.world) s.1 (rests_in d c.world c.world refl refl))
  steps_live (suc n) replies c e s = subst (λ rs. PeersLive d rs c.world e.world) (sym s.replied)
      (then_live d (listed s.reply) s.later c.world s.mid.world e.world (step_lives d s.reply c s.mid s.step) (steps_live n s.later s.mid e s.follows))

  with_nothing : (replies : List Reply) (w v z : World) → PeersLive d replies w v → PeersLive d [] v z → PeersLive d replies w z
  with_nothing replies w v z x y = subst (λ rs. PeersLive d rs w z) (append-nil replies) (then_live d replies [] w v z x y)

  dispatch_live : (replies : List Reply) (c : Config) (count : ℕ) (new : World) → Dispatches d replies c count new → PeersLive d replies c.world new
  dispatch_live replies c count new r = subst (λ v. PeersLive d replies c.world v) r.leaves
      (with_nothing replies c.world r.at.world (said d r.at.world (lines.end r.at.counted)) (steps_live r.reached.count replies c r.at r.reached.steps)
      (rests_in d r.at.world (said d r.at.world (lines.end r.at.counted)) refl (quiet_line r.at.world.transcript (text_of_line d.types (lines.end r.at.counted)) refl)))

  both : (First Later : List Reply → World → Tally → World → Type 0) → AllLive First → AllLive Later → AllLive (Then First Later)
  both First Later first later replies w tally new t = subst (λ rs. PeersLive d rs w new) (sym t.replied)
      (then_live d t.first t.later w t.mid new (first t.first w t.first_tally t.mid t.begins) (later t.later t.mid t.later_tally new t.goes_on))

  rests : AllLive Rests
  rests replies w tally new r = subst (λ rs. PeersLive d rs w new) (sym r.replied) (subst (λ v. PeersLive d [] w v) r.same (rests_in d w w refl refl))

  -- a dispatch that begins in a world with the same peers, and as many lines about them
  carries : (c : Config) (w : World) → c.world.peers ≡ w.peers → peer_lines c.world.transcript ≡ peer_lines w.transcript → (replies : List Reply) (tally : Tally) (new : World) →
      Carries d c replies tally new → PeersLive d replies w new
  carries c w peers lines replies tally new r =
      then_live d [] replies w c.world new (rests_in d w c.world peers lines) (dispatch_live replies c r.steps new r.dispatches)

  runs_source : (number : ℕ) (s : Option Source) → AllLive (RunsSource d number s)
  runs_source number None replies w tally new r = rests replies w tally new r
  runs_source number (Some s) replies w tally new r = carries (beginning w (Due number)) w refl refl replies tally new r

  runs_sources : (sources : List ℕ) → AllLive (RunsSources d sources)
  runs_sources [] replies w tally new r = rests replies w tally new r
  runs_sources (number ∷ more) replies w tally new r =
      both (λ first v. RunsSource d number (source_of number v.sources) first v) (RunsSources d more)
      (λ first v t u. runs_source number (source_of number v.sources) first v t u) (runs_sources more) replies w tally new r

  does : (event : Event) → AllLive (Does d event)
  does (config.request r) replies w tally new h = carries (of_request w r) w refl refl replies tally new h
  does (config.turn moment) replies w tally new h =
      then_live d [] replies w (turned d w moment) new
      (rests_in d w (turned d w moment) refl (quiet_line w.transcript (text_of_line d.types (lines.turn moment)) refl))
      (runs_sources (ready_at w moment) replies (turned d w moment) tally new h)

  comes : (event : Event) (why : Option Refusal) → AllLive (Comes d event why)
  comes event (Some why) replies w tally new h = rests replies w tally new h
  comes event None replies w tally new h = does event replies w tally new h

  serves_all : (events : List Event) → AllLive (ServesAll d events)
  serves_all [] replies w tally new h = rests replies w tally new h
  serves_all (event ∷ events) replies w tally new h =
      both (Serves d event) (ServesAll d events) (λ r v t u x. comes event (refusal v event) r v t u x) (serves_all events) replies w tally new h

  halting : (replies : List Reply) (c : Config) (halt : Halt) (shown : List (List ℕ)) (w : World) → c.world.peers ≡ w.peers → peer_lines c.world.transcript ≡ peer_lines w.transcript →
      Halts d replies c halt shown → LivesTo d replies w shown
  halting replies c halt shown w peers lines r = record {
    at = r.at.world;
    lines = r.lines;
    lives = then_live d [] replies w c.world r.at.world (rests_in d w c.world peers lines) (steps_live r.reached.count replies c r.at r.reached.steps);
  }

  halts_in : (event : Event) (replies : List Reply) (w : World) (halt : Halt) (shown : List (List ℕ)) → HaltsIn d event replies w halt shown → LivesTo d replies w shown
  halts_in (config.request r) replies w halt shown h = halting replies (of_request w r) halt shown w refl refl h
  halts_in (config.turn moment) replies w halt shown (at_its_beginning stops) = record {
    at = w;
    lines = stops.lines;
    lives = subst (λ rs. PeersLive d rs w w) (sym stops.asked) (rests_in d w w refl refl);
  }
  halts_in (config.turn moment) replies w halt shown (at_a_source h) =
      let last = halting h.later (beginning h.mid (Due h.number)) halt shown h.mid refl refl h.halts in
      record {
        at = last.at;
        lines = last.lines;
        lives = subst (λ rs. PeersLive d rs w last.at) (sym h.replied) (then_live d h.first h.later w h.mid last.at
            (then_live d [] h.first w (turned d w moment) h.mid
            (rests_in d w (turned d w moment) refl (quiet_line w.transcript (text_of_line d.types (lines.turn moment)) refl))
            (runs_sources h.done h.first (turned d w moment) h.tally h.mid h.runs)) last.lives);
      }

pub halt_lives : HaltLives
halt_lives d event replies w halt shown h = halts_in d event replies w halt shown h

pub reaches_lives : ReachesLives
reaches_lives d replies c e r = steps_live d r.count replies c e r.steps

pub dispatch_lives : DispatchLives
dispatch_lives d replies c count new r = dispatch_live d replies c count new r

pub event_lives : EventLives
event_lives d event replies w tally new h = comes d event (refusal w event) replies w tally new h

pub events_live : EventsLive
events_live d events replies w tally new h = serves_all d events replies w tally new h

pub run_lives : RunLives
run_lives d peers events replies tally new r =
    let first = carries d (of_build d peers) (first_world d peers) refl refl r.first r.first_tally r.mid r.begins in
    let later = serves_all d events r.later r.mid r.later_tally new r.goes_on in
    let x = then_live d r.first r.later (first_world d peers) r.mid new first later in
    subst (λ rs. Lives d peers rs (peer_lines new.transcript) new.peers) (sym r.replied)
    (subst (λ ls. Lives d peers (r.first ++ r.later) ls new.peers) (sym x.shown) x.lives)
