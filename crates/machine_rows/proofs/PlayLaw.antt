-- What is played is a run: each part of a run by itself.
use Rattle.std.proofs.Common.{◌≡◌, refl, subst, ap, sym, ◌∙◌, ℕ, zero, suc, Bool, true, false, List, [], ◌∷◌, ◌++◌, Option, None, Some, Ok, Err, append_assoc}
use Rattle.std.specs.Prelude.{map, ◌&&◌, is_none}
use Rattle.std.proofs.lemmas.List.{map-append}
use Rattle.ui_machine.specs.declared.arm.Arm.{Arm}
use Rattle.ui_machine.specs.declared.arm.Arm.TheVariants as arms
use Rattle.ui_machine.specs.Definition.{Definition}
use Rattle.ui_machine.specs.State.Tasks as config
use Rattle.ui_machine.specs.State.Peers.{Peer, Question, Reply}
use Rattle.ui_machine.specs.State.Sources.{Source, source_of}
use Rattle.ui_machine.specs.State.Tasks.{Due, Event}
use Rattle.ui_machine.specs.State.Config.{World, Config}
use Rattle.ui_machine.specs.Outcome.{Answer, ◌>>=◌}
use Rattle.ui_machine.specs.State.References.{next_unheld, mentions}
use Rattle.ui_machine.specs.Steps.{step, question}
use Rattle.ui_machine.specs.Runs.{Step, Steps, listed, HasEnded, Tally, no_dispatch, one_dispatch, tallied, Then, Rests, Carries, RunsSource, RunsSources, Does, Comes, Serves, ServesAll, beginning, of_build, of_request, first_world}
use Rattle.ui_machine.specs.Rules.Events.{Refusal, refusal}
use Rattle.ui_machine.specs.Rules.MainLoop.{turned, ready_at}
use Rattle.machine_rows.specs.Play.{Scripted, Played, with_script, reply_to, step_with, played_step, is_empty, has_ended, played_out, most_played, ended_world, dispatched, unplayed, source_played, sources_played, done, unless_refused, event_played, events_played, played}
use Rattle.machine_rows.specs.PlayLaw.{script_of, IsScripted, PlayedIsRun}

-- ** answers

abbrev payload : {A : Type 0} → A → Answer A → A
payload x (Ok y) = y
payload x (Err arm) = x

abbrev IsAnswered : {A : Type 0} → Answer A → Type 0
IsAnswered (Ok y) = Unit {0}
IsAnswered (Err arm) = ⊥

-- a stuck part leads to no answer
no_answer : {A : Type 0} {X : Type 0} (arm : Arm) (x : A) → ◌≡◌ {A = Answer A} (Err arm) (Ok x) → X
no_answer arm x e = absurd (subst IsAnswered (sym e) tt)

same_answer : {A : Type 0} (x y : A) → ◌≡◌ {A = Answer A} (Ok x) (Ok y) → x ≡ y
same_answer x y e = ap (payload x) e

-- what an answer of two parts comes from
pub record Both {A B : Type 0} (a : Answer A) (f : A → Answer B) (y : B) : Type 0 where
  pub mid : A
  pub first : a ≡ Ok mid
  pub then : f mid ≡ Ok y

both : {A B : Type 0} (a : Answer A) (f : A → Answer B) (y : B) → (a >>= f) ≡ Ok y → Both a f y
both (Ok x) f y e = record { mid = x; first = refl; then = e }
both (Err arm) f y e = no_answer arm y e

played_of : {A : Type 0} (script : List Scripted) (a : Answer A) (p : Played A) → with_script script a ≡ Ok p → (a ≡ Ok p.at) × (p.script ≡ script)
played_of {A = A} script (Ok x) p e =
    let q = same_answer (record { at = x; script = script }) p e in
    (ap (λ (z : Played A). Ok z.at) q, sym (ap (λ (z : Played A). z.script) q))
played_of script (Err arm) p e = no_answer arm p e

-- ** truth

first_true : (a b : Bool) → (a && b) ≡ true → a ≡ true
first_true true b e = refl
first_true false b e = e

second_true : (a b : Bool) → (a && b) ≡ true → b ≡ true
second_true true b e = e
second_true false b e = absurd (cc)

empty_is_nil : {A : Type 0} (xs : List A) → is_empty xs ≡ true → xs ≡ []
empty_is_nil [] e = refl
empty_is_nil (x ∷ xs) e = absurd (cc)

none_is_none : {A : Type 0} (o : Option A) → is_none o ≡ true → o ≡ None
none_is_none None e = refl
none_is_none (Some x) e = absurd (cc)

-- ** scripts

-- the script up to what is left of it is what these replies say
abbrev Gives : List Scripted → List Reply → List Scripted → Type 0
Gives script replies left = map script_of replies ++ left ≡ script

gives_on : (script mid left : List Scripted) (first later : List Reply) → Gives script first mid → Gives mid later left → Gives script (first ++ later) left
gives_on script mid left first later p q =
    ap (λ said. said ++ left) (map-append script_of first later) ∙ append_assoc (map script_of first) (map script_of later) left ∙ ap (λ more. map script_of first ++ more) q ∙ p

-- a part of a run from a world, played with a script
pub record Part (P : List Reply → World → Tally → World → Type 0) (w : World) (script : List Scripted) (p : Played World) : Type 0 where
  pub replies : List Reply
  pub tally : Tally
  pub given : Gives script replies p.script
  pub holds : P replies w tally p.at

-- one part after the other
after : (First Later : List Reply → World → Tally → World → Type 0) (w : World) (script : List Scripted) (m p : Played World) →
    Part First w script m → Part Later m.at m.script p → Part (Then First Later) w script p
after First Later w script m p a b = record {
  replies = a.replies ++ b.replies;
  tally = tallied a.tally b.tally;
  given = gives_on script m.script p.script a.replies b.replies a.given b.given;
  holds = record { first = a.replies; later = b.replies; mid = m.at; first_tally = a.tally; later_tally = b.tally; replied = refl; counts = refl; begins = a.holds; goes_on = b.holds };
}

-- ** steps

module _ (d : Definition) where
  -- a step that was played
  pub record Made (c : Config) (script : List Scripted) (p : Played Config) : Type 0 where
    pub reply : Option Reply
    pub given : Gives script (listed reply) p.script
    pub step : Step d reply c p.at

  made_from : (c : Config) (script : List Scripted) (p : Played Config) (q : Option Question) → question d c ≡ q → step_with d c script q ≡ Ok p → Made c script p
  made_from c script p None asks e =
      let m = played_of script (step d None c) p e in
      record { reply = None; given = m.1; step = record { asks = asks; leads = m.0 } }
  made_from c [] p (Some q) asks e = no_answer arms.Call p e
  made_from c (s ∷ script) p (Some q) asks e =
      let m = played_of script (step d (Some (reply_to q s)) c) p e in
      record { reply = Some (reply_to q s); given = ap (λ more. s ∷ more) m.1; step = record { asks = asks; leads = m.0 } }

  made : (c : Config) (script : List Scripted) (p : Played Config) → played_step d c script ≡ Ok p → Made c script p
  made c script p e = made_from c script p (question d c) refl e

  -- ** dispatches

  ended : (c : Config) → has_ended d c ≡ true → HasEnded d c
  ended c e =
      let more = second_true (is_empty c.agenda) (is_empty c.world.floating && is_none (next_unheld (mentions d c) c.world.objects)) e in
      record {
        agenda = empty_is_nil c.agenda (first_true (is_empty c.agenda) (is_empty c.world.floating && is_none (next_unheld (mentions d c) c.world.objects)) e);
        floating = empty_is_nil c.world.floating (first_true (is_empty c.world.floating) (is_none (next_unheld (mentions d c) c.world.objects)) more);
        held = none_is_none (next_unheld (mentions d c) c.world.objects) (second_true (is_empty c.world.floating) (is_none (next_unheld (mentions d c) c.world.objects)) more);
      }

  pub record Out (c : Config) (script : List Scripted) (p : Played Config) : Type 0 where
    pub replies : List Reply
    pub count : ℕ
    pub given : Gives script replies p.script
    pub steps : Steps d count replies c p.at
    pub over : HasEnded d p.at

  out : (n : ℕ) (c : Config) (script : List Scripted) (p : Played Config) → played_out n d c script ≡ Ok p → Out c script p
  out zero c script p e = no_answer arms.Steps p e
  out (suc n) c script p e = by_end (λ b. out n b.mid.at b.mid.script p b.then) (has_ended d c) refl e
    where
      by_step : ((b : Both (played_step d c script) (λ q. played_out n d q.at q.script) p) → Out b.mid.at b.mid.script p) →
          Both (played_step d c script) (λ q. played_out n d q.at q.script) p → Out c script p
      by_step go b =
          let m = made c script b.mid b.first in
          let more = go b in
          record {
            replies = listed m.reply ++ more.replies;
            count = suc more.count;
            given = gives_on script b.mid.script p.script (listed m.reply) more.replies m.given more.given;
            steps = record { reply = m.reply; later = more.replies; mid = b.mid.at; replied = refl; step = m.step; follows = more.steps };
            over = more.over;
          }

      by_end : ((b : Both (played_step d c script) (λ q. played_out n d q.at q.script) p) → Out b.mid.at b.mid.script p) →
          (over : Bool) → has_ended d c ≡ over →
          elim over as (λ _. Answer (Played Config)) [ true ↦ Ok (record { at = c; script = script }) | false ↦ played_step d c script >>= (λ q. played_out n d q.at q.script) ] ≡ Ok p → Out c script p
      by_end go true over f =
          let q = same_answer (record { at = c; script = script }) p f in
          subst (Out c script) q (record { replies = []; count = zero; given = refl; steps = (refl, refl); over = ended c over })
      by_end go false over f = by_step go (both (played_step d c script) (λ q. played_out n d q.at q.script) p f)

  -- a dispatch that was played, from a configuration of a world
  dispatch_of : (c : Config) (w : World) (script : List Scripted) (p : Played World) → dispatched d c script ≡ Ok p → Part (λ replies v. Carries d c replies) w script p
  dispatch_of c w script p e = of_both (both (played_out most_played d c script) (λ q. Ok (ended_world d q)) p e)
    where
      of_both : Both (played_out most_played d c script) (λ q. Ok (ended_world d q)) p → Part (λ replies v. Carries d c replies) w script p
      of_both b =
          let o = out most_played c script b.mid b.first in
          let same = same_answer (ended_world d b.mid) p b.then in
          subst (Part (λ replies v. Carries d c replies) w script) same (record {
            replies = o.replies;
            tally = one_dispatch b.mid.at.counted;
            given = o.given;
            holds = record {
              steps = b.mid.at.counted;
              counts = refl;
              dispatches = record { at = b.mid.at; reached = record { count = o.count; steps = o.steps }; ended = o.over; counts = refl; leaves = refl };
            };
          })

  -- ** events

  -- nothing was done
  nothing : (w : World) (script : List Scripted) (p : Played World) → unplayed w script ≡ Ok p → Part Rests w script p
  nothing w script p e =
      let q = same_answer (record { at = w; script = script }) p e in
      subst (Part Rests w script) q (record { replies = []; tally = no_dispatch; given = refl; holds = record { replied = refl; counts = refl; same = refl } })

  -- a part that is this one in this world
  as_part : (P Q : List Reply → World → Tally → World → Type 0) (w : World) (script : List Scripted) (p : Played World) →
      ((replies : List Reply) (tally : Tally) → P replies w tally p.at → Q replies w tally p.at) → Part P w script p → Part Q w script p
  as_part P Q w script p f part = record { replies = part.replies; tally = part.tally; given = part.given; holds = f part.replies part.tally part.holds }

  source_of_run : (w : World) (script : List Scripted) (number : ℕ) (s : Option Source) (p : Played World) → source_played d w script number s ≡ Ok p →
      Part (RunsSource d number s) w script p
  source_of_run w script number None p e = nothing w script p e
  source_of_run w script number (Some s) p e = as_part (λ replies v. Carries d (beginning w (Due number)) replies) (RunsSource d number (Some s)) w script p (λ replies tally h. h) (dispatch_of (beginning w (Due number)) w script p e)

  sources_of_run : (sources : List ℕ) (w : World) (script : List Scripted) (p : Played World) → sources_played d w script sources ≡ Ok p →
      Part (RunsSources d sources) w script p
  sources_of_run [] w script p e = nothing w script p e
  sources_of_run (number ∷ more) w script p e =
      of_both (λ b. sources_of_run more b.mid.at b.mid.script p b.then) (both (source_played d w script number (source_of number w.sources)) (λ q. sources_played d q.at q.script more) p e)
    where
      of_both : ((b : Both (source_played d w script number (source_of number w.sources)) (λ q. sources_played d q.at q.script more) p) → Part (RunsSources d more) b.mid.at b.mid.script p) →
          Both (source_played d w script number (source_of number w.sources)) (λ q. sources_played d q.at q.script more) p →
          Part (RunsSources d (number ∷ more)) w script p
      of_both go b =
          after (λ replies v. RunsSource d number (source_of number v.sources) replies v) (RunsSources d more) w script b.mid p
          (as_part (RunsSource d number (source_of number w.sources)) (λ replies v. RunsSource d number (source_of number v.sources) replies v) w script b.mid (λ replies tally h. h)
          (source_of_run w script number (source_of number w.sources) b.mid b.first))
          (go b)

  done_of_run : (w : World) (script : List Scripted) (event : Event) (p : Played World) → done d w script event ≡ Ok p → Part (Does d event) w script p
  done_of_run w script (config.request r) p e = as_part (λ replies v. Carries d (of_request w r) replies) (Does d (config.request r)) w script p (λ replies tally h. h) (dispatch_of (of_request w r) w script p e)
  done_of_run w script (config.turn moment) p e =
      let part = sources_of_run (ready_at w moment) (turned d w moment) script p e in
      record { replies = part.replies; tally = part.tally; given = part.given; holds = part.holds }

  comes_of_run : (w : World) (script : List Scripted) (event : Event) (why : Option Refusal) (p : Played World) → unless_refused d w script event why ≡ Ok p → Part (Comes d event why) w script p
  comes_of_run w script event (Some why) p e = nothing w script p e
  comes_of_run w script event None p e = done_of_run w script event p e

  event_of_run : (w : World) (script : List Scripted) (event : Event) (p : Played World) → event_played d w script event ≡ Ok p → Part (Serves d event) w script p
  event_of_run w script event p e =
      as_part (Comes d event (refusal w event)) (Serves d event) w script p (λ replies tally h. h) (comes_of_run w script event (refusal w event) p e)

  events_of_run : (events : List Event) (w : World) (script : List Scripted) (p : Played World) → events_played d w script events ≡ Ok p → Part (ServesAll d events) w script p
  events_of_run [] w script p e = nothing w script p e
  events_of_run (event ∷ events) w script p e =
      of_both (λ b. events_of_run events b.mid.at b.mid.script p b.then) (both (event_played d w script event) (λ q. events_played d q.at q.script events) p e)
    where
      of_both : ((b : Both (event_played d w script event) (λ q. events_played d q.at q.script events) p) → Part (ServesAll d events) b.mid.at b.mid.script p) →
          Both (event_played d w script event) (λ q. events_played d q.at q.script events) p → Part (ServesAll d (event ∷ events)) w script p
      of_both go b = after (Serves d event) (ServesAll d events) w script b.mid p (event_of_run w script event b.mid b.first) (go b)

  run_of : (peers : List Peer) (events : List Event) (script : List Scripted) (p : Played World) → played d peers events script ≡ Ok p → IsScripted d peers events script p
  run_of peers events script p e = of_both (both (dispatched d (of_build d peers) script) (λ q. events_played d q.at q.script events) p e)
    where
      of_both : Both (dispatched d (of_build d peers) script) (λ q. events_played d q.at q.script events) p → IsScripted d peers events script p
      of_both b =
          let whole = after (λ replies w. Carries d (of_build d peers) replies) (ServesAll d events) (first_world d peers) script b.mid p
          (dispatch_of (of_build d peers) (first_world d peers) script b.mid b.first) (events_of_run events b.mid.at b.mid.script p b.then) in
          record { replies = whole.replies; tally = whole.tally; given = whole.given; run = whole.holds }

pub played_is_run : PlayedIsRun
played_is_run d peers events script p e = run_of d peers events script p e
