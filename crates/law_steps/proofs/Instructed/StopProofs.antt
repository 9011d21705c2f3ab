-- A program stops the emission below it.
use Rattle.std.proofs.Common.{◌≡◌, inl, inr, ◌⊎◌, refl, sym, ap, subst, ◌∙◌, ℕ, suc, ◌+◌, ◌≤◌, List, [], ◌∷◌, length, Ok, arith}
use Rattle.ui_machine.specs.Seq.{total}
use Rattle.ui_machine.specs.Definition.{Definition}
use Rattle.ui_machine.specs.Definition.Programs as words
use Rattle.ui_machine.specs.State.Tasks.{PlanEntry, Emission, Frame, Task, Setting, Notifying, Beginning, Emitting, Transferring, Unsetting, Thawing, Running, Answering, Calling, Constructing, Building, Handling, Due}
use Rattle.ui_machine.specs.State.Config.{World, leaves}
use Rattle.ui_machine.specs.Rules.Accumulation.{stopped, left_by_stop}
use Rattle.ui_machine.specs.Rules.Build.{of_items, is_making}
use Rattle.ui_machine.specs.Instructions.{in_front}
use Rattle.ui_machine.specs.Instructions.Registers.{goes_on}
use Rattle.ui_machine.specs.Instructions.Jumps.{past}
use Rattle.ui_machine.specs.Steps.{left}
use Rattle.law_typing.specs.Graph.{graph}
use Rattle.law_typing.specs.Graph.Channels.{property}
use Rattle.law_typing.specs.Graph.Tables.{Tables, entry}
use Rattle.law_typing.specs.Graph.Depths.{depth}
use Rattle.law_typing.specs.Verdict.Accepted.{Each}
use Rattle.law_typing.specs.Laws.StepsKeepGood.{IsGood}
use Rattle.law_typing.specs.Good.Standing.{standing, view, View}
use Rattle.law_typing.specs.Good.Objects.{PeersGood}
use Rattle.law_typing.specs.Good.DueCosts.{unsets, turn_cost}
use Rattle.law_typing.specs.Good.ComingDown.{Down, down}
use Rattle.law_typing.specs.Good.Emissions.{TurnGood, EmittingGood}
use Rattle.law_typing.specs.Good.Builds.{is_for_builder, BuildGood}
use Rattle.law_typing.specs.Good.Agenda.{AgendaGood, frames}
use Rattle.law_typing.specs.Good.Freezes.{frozen_by, below_lowest, QueuesGood, is_carrying_over, is_due_set, is_due_source}
use Rattle.law_static.specs.Code.{gone_on}
use Rattle.law_steps.specs.Kept.Alike.{Alike}
use Rattle.law_steps.proofs.Instructed.Frozen.{frozen_same}
use Rattle.law_steps.proofs.Instructed.Around.{r, good_of, past_good, left_steps, steps_left, fine_where, none_into, StepIsFine, fine_of}
use Rattle.law_steps.proofs.Instructed.Around as around
use Rattle.law_steps.proofs.Instructed.Written.{open_same, moved_fine, said_moved}
use Rattle.law_steps.proofs.Instructed.Below.{stop_leaves, each_fewer}
use Rattle.law_steps.specs.Instructed.Running.{at_top}
use Rattle.law_steps.specs.Instructed.Stopping.{StopsAreFine}

-- an emission that comes first
record Emits (tasks : List Task) : Type 0 where
  pub e : Emission
  pub turns : List PlanEntry
  pub below : List Task
  pub is : tasks ≡ Emitting e turns ∷ below

-- a stop reaches it, and nothing else
reaches : (rest : List Task) → (stopped rest ≡ rest) ⊎ Emits rest
reaches [] = inl refl
reaches (Emitting e turns ∷ rest) = inr (record { e = e; turns = turns; below = rest; is = refl })
reaches (Setting id slot v ∷ rest) = inl refl
reaches (Notifying id slot ∷ rest) = inl refl
reaches (Beginning e ∷ rest) = inl refl
reaches (Transferring number back ∷ rest) = inl refl
reaches (Unsetting number ∷ rest) = inl refl
reaches (Thawing id slots ∷ rest) = inl refl
reaches (Running frame ∷ rest) = inl refl
reaches (Answering source ∷ rest) = inl refl
reaches (Calling call ∷ rest) = inl refl
reaches (Constructing id todo held ∷ rest) = inl refl
reaches (Building items ∷ rest) = inl refl
reaches (Handling request ∷ rest) = inl refl
reaches (Due source ∷ rest) = inl refl

nothing_stops : (w : World) (rest : List Task) (f : Frame) → stopped rest ≡ rest → leaves w (Running f ∷ stopped rest) ≡ in_front rest (goes_on w [] f)
unfolding in_front
nothing_stops w rest f e = rw e refl

stop_leads : (w : World) (rest : List Task) (f : Frame) (n : ℕ) (x : Emits rest) →
    left n (leaves w (Running f ∷ stopped rest)) ≡ Ok (at_top w f (Emitting x.e (left_by_stop x.e x.turns) ∷ x.below) n)
unfolding left
stop_leads w rest f n x = ap (λ rest. Ok (at_top w f (stopped rest) n)) x.is

-- what is left of the emission is good, whatever comes down
stopped_good : (d : Definition) (costs depths : Tables) (w : View) (up : Down) (below : List Task) (e : Emission) (turns : List PlanEntry) (steps frames : ℕ) →
    EmittingGood d costs depths w up below e turns steps frames → EmittingGood d costs depths w up below e (left_by_stop e turns) steps frames
stopped_good d costs depths w up below e turns steps frames g =
    let fewer = stop_leaves e turns in
    record {
      fits = g.fits;
      suits = g.suits;
      turns_fit = each_fewer (TurnGood d w e) turns (left_by_stop e turns) fewer g.turns_fit;
      cheap = (let less = fewer.cheaper (turn_cost d costs w below) in let old = g.cheap in omega (arith, less, old));
      shallow = each_fewer _ turns (left_by_stop e turns) fewer g.shallow;
      one = g.one;
    }

module _ {d : Definition} (t : around.Due d words.stop) (x : Emits t.rest) where
  open t use {a, most_counted, w, f, rest, n, g}

  abbrev next : Frame
  next = gone_on f f.registers

  abbrev later : List Task
  later = Emitting x.e (left_by_stop x.e x.turns) ∷ x.below

  -- a sum over the tasks, of which none looks at the turns of an emission
  sums : (count : Task → ℕ) → ((turns : List PlanEntry) → count (Emitting x.e turns) ≡ 0) → total count later ≡ total count rest
  sums count flat = (let s = ap (total count) x.is in let p = flat x.turns in let q = flat (left_by_stop x.e x.turns) in omega (arith, s, p, q))

  all_alike : Alike (Running f ∷ rest) (Running next ∷ later)
  all_alike = record {
    items = λ c. (let s = sums (of_items c) (λ turns. refl) in omega (arith, s));
    unset = λ number. (let s = sums (unsets number) (λ turns. refl) in omega (arith, s));
    request_step = (let s = sums is_carrying_over (λ turns. refl) in omega (arith, s));
    makes = (let s = sums is_for_builder (λ turns. refl) in omega (arith, s));
  }

  later_good : AgendaGood d a.weighed.costs a.weighed.depths (view w) (depth (graph d) a.weighed.depths) (down d (view w) (Running f)) later g.agenda.2
  later_good =
      let old = subst (λ rest. AgendaGood d a.weighed.costs a.weighed.depths (view w) (depth (graph d) a.weighed.depths) (down d (view w) (Running f)) rest g.agenda.2) x.is g.agenda.6 in
      (old.0, old.1, old.2, stopped_good d a.weighed.costs a.weighed.depths (view w) (down d (view w) (Running f)) x.below x.e x.turns old.0 old.1 old.3, old.4, old.5, old.6)

  queues_stay : QueuesGood d a.weighed.depths (depth (graph d) a.weighed.depths) (Running next ∷ later) (suc n) w.objects
  queues_stay id o is =
      let q = g.queues id o is in
      record {
        count = (
            let same = frozen_same d id f next (open_same t refl f.registers) (λ r among. refl) in
            let old = q.count in
            let s = sums (frozen_by d id) (λ turns. refl) in
            omega (arith, same, old, s));
        few = (let old = q.few in omega (arith, old));
        none = q.none;
        deep = subst (λ rest. Each (λ slot. suc (below_lowest d id (Running f ∷ rest)) + entry a.weighed.depths.channels (property o.place slot) ≤ depth (graph d) a.weighed.depths) o.queue) x.is q.deep;
      }

  stops_well : IsGood d a most_counted (at_top w next later (suc n))
  stops_well =
      good_of t w (Running next ∷ later)
      (record {
        whole = (said_moved t refl w.transcript).whole;
        alike = all_alike;
        pool = subst (λ made. PeersGood d w.peers (length w.builder + made)) (sym all_alike.makes) g.peers;
        builder = refl;
        build = λ b. subst (BuildGood d w.builder (Running next ∷ later)) x.is b;
        sets = record {
          alone = sums is_due_source (λ turns. refl) ∙ g.sets.alone;
          first = sums is_due_set (λ turns. refl) ∙ g.sets.first;
          held = λ some. absurd (let s = sums is_due_set (λ turns. refl) in let none = g.sets.first in omega (arith, some, s, none));
        };
        budget = left_steps t + g.agenda.2;
        good = (
          left_steps t,
          g.agenda.1,
          g.agenda.2,
          (tt, past_good t (standing w.objects) f.registers refl (r t).counted (r t).fit),
          (let s = ap frames x.is in let old = g.agenda.4 in omega (arith, s, old)),
          omega arith,
          later_good,
        );
        queues = queues_stay;
        few = (let old = g.few in let s = all_alike.items is_making in omega (arith, old, s));
        spent = (let steps = steps_left t in let s = all_alike.items is_making in omega (arith, steps, s));
      })

pub stops_are_fine : StopsAreFine
stops_are_fine = fine_of (λ d t. by d t (reaches t.rest))
  where
    by : (d : Definition) (t : around.Due d words.stop) → (stopped t.rest ≡ t.rest) ⊎ Emits t.rest → StepIsFine t
    by d t (inl e) within = moved_fine t refl t.w (said_moved t refl t.w.transcript) refl refl (nothing_stops t.w t.rest (past t.f) e) within
    by d t (inr x) within =
        fine_where t within (at_top t.w (past t.f) (Emitting x.e (left_by_stop x.e x.turns) ∷ x.below) (suc t.n)) (stop_leads t.w t.rest (past t.f) (suc t.n) x)
        (subst (λ into. IsGood d t.a t.most_counted (at_top t.w (record (past t.f) { into = into }) (Emitting x.e (left_by_stop x.e x.turns) ∷ x.below) (suc t.n))) (sym (none_into t)) (stops_well t x))
