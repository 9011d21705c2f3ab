-- A program starts a task, which comes in front of it: what is to be shown of the task and of the program that waits below it.
use Rattle.std.proofs.Common.{◌≡◌, refl, sym, ap, subst, ◌∙◌, ℕ, suc, ◌+◌, ◌-◌, ◌<◌, ◌≤◌, Bool, true, false, cond, List, [], ◌∷◌, length, drop, Option, None, Ok, arith}
use Rattle.std.specs.Prelude.{nat_eq}
use Rattle.std.proofs.lemmas.Bool.{eqb-true}
use Rattle.ui_machine.specs.Seq.{total}
use Rattle.ui_machine.specs.Definition.{Definition}
use Rattle.ui_machine.specs.Definition.Programs.{Instruction}
use Rattle.ui_machine.specs.State.References.{next_unheld, mentions}
use Rattle.ui_machine.specs.State.Tasks.{Frame, Task, Setting, Notifying, Beginning, Calling, Thawing, Running}
use Rattle.ui_machine.specs.State.Config.{BuilderEntry, World, Config}
use Rattle.ui_machine.specs.Instructions.{instruction_step, in_front}
use Rattle.ui_machine.specs.Instructions.Jumps.{past}
use Rattle.ui_machine.specs.Instructions.Registers as machine
use Rattle.ui_machine.specs.Rules.Build.{is_making}
use Rattle.ui_machine.specs.Steps.{left}
use Rattle.law_typing.specs.Rules.RegisterKinds.{Kinds}
use Rattle.law_typing.specs.Rules.Typing.{after}
use Rattle.law_typing.specs.Rules.Brackets.{opened, keeps}
use Rattle.law_typing.specs.Graph.{graph, start_of}
use Rattle.law_typing.specs.Graph.Channels.{property}
use Rattle.law_typing.specs.Graph.Tables.{entry}
use Rattle.law_typing.specs.Graph.Costs.{start_cost}
use Rattle.law_typing.specs.Graph.Depths.{depth, start_depth}
use Rattle.law_typing.specs.Verdict.Accepted.{Each}
use Rattle.law_typing.specs.Laws.WellRead.{ends}
use Rattle.law_typing.specs.Laws.StepsKeepGood.{IsGood}
use Rattle.law_typing.specs.Good.Standing.{standing, view}
use Rattle.law_typing.specs.Good.Objects.{PeersGood}
use Rattle.law_typing.specs.Good.ComingDown.{Down, none, down, awaited, Comes, TakesNone}
use Rattle.law_typing.specs.Good.Programs.{RunningGood}
use Rattle.law_typing.specs.Good.Agenda.{TaskGood, frames}
use Rattle.law_typing.specs.Good.Builds.{BuildGood}
use Rattle.law_typing.specs.Good.Freezes.{QueueGood, QueuesGood, frozen_by, below_lowest, is_due_set}
use Rattle.law_static.proofs.CodeProofs.{programs_wait}
use Rattle.law_steps.specs.Kept.Alike.{Alike}
use Rattle.law_steps.proofs.Instructed.Frozen.{is_bracket, frozen_same}
use Rattle.law_steps.proofs.Instructed.Around.{Due, r, here, taken, good_of, above, fine_where, none_into, StepIsFine}
use Rattle.law_steps.proofs.Instructed.Written.{serves_itself, open_same}

-- whether a program starts tasks like this
abbrev pub is_started : Task → Bool
is_started (Setting id slot v) = true
is_started (Notifying id slot) = true
is_started (Beginning e) = true
is_started (Calling call) = true
is_started (Thawing id slots) = true
is_started task = false

-- what the agenda reads of one: nothing of the build, of a transfer, of a freeze or of a source
pub record Unseen (d : Definition) (task : Task) (f next : Frame) (rest : List Task) : Type 0 where
  pub alike : Alike (Running f ∷ rest) (task ∷ Running next ∷ rest)
  pub unfrozen : (id : ℕ) → frozen_by d id task ≡ 0
  pub build : (builder : List BuilderEntry) (agenda : List Task) → BuildGood d builder agenda rest → BuildGood d builder agenda (task ∷ Running next ∷ rest)

pub unseen : (d : Definition) (task : Task) (f next : Frame) (rest : List Task) → is_started task ≡ true → Unseen d task f next rest
unseen d (Setting id slot v) f next rest is = record {
  alike = record { items = λ f. omega arith; unset = λ number. omega arith; request_step = omega arith; makes = omega arith };
  unfrozen = λ id. refl;
  build = λ builder agenda b. b;
}
unseen d (Notifying id slot) f next rest is = record {
  alike = record { items = λ f. omega arith; unset = λ number. omega arith; request_step = omega arith; makes = omega arith };
  unfrozen = λ id. refl;
  build = λ builder agenda b. b;
}
unseen d (Beginning e) f next rest is = record {
  alike = record { items = λ f. omega arith; unset = λ number. omega arith; request_step = omega arith; makes = omega arith };
  unfrozen = λ id. refl;
  build = λ builder agenda b. b;
}
unseen d (Calling call) f next rest is = record {
  alike = record { items = λ f. omega arith; unset = λ number. omega arith; request_step = omega arith; makes = omega arith };
  unfrozen = λ id. refl;
  build = λ builder agenda b. b;
}
unseen d (Thawing id slots) f next rest is = record {
  alike = record { items = λ f. omega arith; unset = λ number. omega arith; request_step = omega arith; makes = omega arith };
  unfrozen = λ id. refl;
  build = λ builder agenda b. b;
}
unseen d _ f next rest is = absurd (cc)

starts_leads : (w : World) (task : Task) (rest : List Task) (f : Frame) (n : ℕ) →
    left n (in_front rest (machine.goes_on w (task ∷ []) f)) ≡ Ok (record { world = w; agenda = task ∷ Running f ∷ rest; counted = n })
unfolding in_front left
starts_leads w task rest f n = refl

module _ {d : Definition} {i : Instruction} (t : Due d i) (plain : is_bracket i ≡ false) where
  open t use {well, a, most_counted, w, f, rest, n, g}

  -- the program waits past the instruction
  abbrev pub waiting : Option ℕ → Frame
  waiting into = record f { at = suc f.at; into = into }

  abbrev pub led_to : Task → Option ℕ → Config
  led_to task into = record { world = w; agenda = task ∷ Running (waiting into) ∷ rest; counted = suc n }

  -- what the instruction, with what it may start, leaves of the program's steps
  abbrev pub steps_after : ℕ
  steps_after = g.agenda.0 - (1 + start_cost (graph d) a.weighed.costs (start_of d (r t).ks i))

  -- what is to be shown of a task that is started, within a cost and a depth, where the program waits for what comes down from it
  pub record Starts (task : Task) (into : Option ℕ) (cost deep : ℕ) : Type 0 where
    pub started : is_started task ≡ true
    pub more : ends i ≡ false
    pub good : TaskGood d a.weighed.costs a.weighed.depths (view w) none (Running (waiting into) ∷ rest) task cost deep
    pub cheap : cost ≤ start_cost (graph d) a.weighed.costs (start_of d (r t).ks i)
    pub shallow : deep ≤ start_depth a.weighed.depths (start_of d (r t).ks i)
    pub comes : Comes into (down d (view w) task)
    pub takes : TakesNone (down d (view w) task)
    pub closed : keeps (opened (drop (suc f.at) (r t).b.code)) into ≡ true
    pub comes_down : awaited (r t).ks into (down d (view w) task) ≡ after d (r t).p (r t).ks i
    -- a set is due only where nothing is to be finalised
    pub held : 0 < is_due_set task → next_unheld (mentions d (led_to task into)) w.objects ≡ None

  queues_wait : (task : Task) (into : Option ℕ) → ((id : ℕ) → frozen_by d id task ≡ 0) →
      QueuesGood d a.weighed.depths (depth (graph d) a.weighed.depths) (task ∷ Running (waiting into) ∷ rest) (suc n) w.objects
  queues_wait task into unfrozen id x e = record {
    count = as_often;
    few = (let old = q.few in omega (arith, old));
    none = q.none;
    deep = deep (nat_eq (total (frozen_by d id) (Running (waiting into) ∷ rest)) 0) refl;
  }
    where
      q : QueueGood d a.weighed.depths (depth (graph d) a.weighed.depths) (Running f ∷ rest) n id x
      q = g.queues id x e

      same : frozen_by d id (Running (waiting into)) ≡ frozen_by d id (Running f)
      same = frozen_same d id f (waiting into) (open_same t plain f.registers) (λ r among. refl)

      as_often : x.freezes ≡ total (frozen_by d id) (task ∷ Running (waiting into) ∷ rest)
      as_often = let old = q.count in let none = unfrozen id in let same = same in omega (arith, old, none, same)

      deep : (b : Bool) → nat_eq (total (frozen_by d id) (Running (waiting into) ∷ rest)) 0 ≡ b →
          Each (λ slot. suc (cond b (frames (Running (waiting into) ∷ rest)) (below_lowest d id (Running (waiting into) ∷ rest))) + entry a.weighed.depths.channels (property x.place slot) ≤ depth (graph d) a.weighed.depths) x.queue
      deep true z =
          let zero = eqb-true (total (frozen_by d id) (Running (waiting into) ∷ rest)) 0 z in
          let none : x.freezes ≡ 0 = (let often = as_often in let none = unfrozen id in omega (arith, often, none, zero)) in
          subst (Each _) (sym (q.none none)) tt
      deep false z = q.deep

  waits_good : (task : Task) (into : Option ℕ) (cost deep : ℕ) → Starts task into cost deep →
      RunningGood d a.weighed.costs a.weighed.depths (standing w.objects) (down d (view w) task) (waiting into) steps_after g.agenda.1
  waits_good task into cost deep e =
      programs_wait d well a.weighed.costs a.weighed.depths (standing w.objects) (standing w.objects) f g.agenda.0 g.agenda.1 (r t) i (here t) e.more into (down d (view w) task) e.comes e.closed
      e.comes_down (r t).fit

  pub starts_good : (task : Task) (into : Option ℕ) (cost deep : ℕ) → Starts task into cost deep → IsGood d a most_counted (led_to task into)
  starts_good task into cost deep e =
      good_of t w (task ∷ Running (waiting into) ∷ rest)
      (record {
        whole = record { objects = g.objects; handlers = g.handlers; bindings = g.bindings; sources = g.sources; held = g.held; floating = g.floating; objects_first = g.objects_first };
        alike = u.alike;
        pool = subst (λ m. PeersGood d w.peers (length w.builder + m)) (sym u.alike.makes) g.peers;
        builder = refl;
        build = u.build w.builder (task ∷ Running (waiting into) ∷ rest);
        sets = record {
          alone = (let none = g.sets.alone in omega (arith, none));
          first = (let none = g.sets.first in omega (arith, none));
          held = λ some. e.held (let none = g.sets.first in omega (arith, some, none));
        };
        budget = cost + (steps_after + g.agenda.2);
        good = (
          cost,
          deep,
          steps_after + g.agenda.2,
          e.good,
          (let low = g.agenda.4 in let start = (taken t).shallow in let deep = e.shallow in omega (arith, low, start, deep)),
          omega arith,
          above t w (waiting into) (down d (view w) task) steps_after refl (serves_itself d rest (view w)) e.takes (waits_good task into cost deep e),
        );
        queues = queues_wait task into u.unfrozen;
        few = (let old = g.few in let makes = u.alike.items is_making in omega (arith, old, makes));
        spent = (let makes = u.alike.items is_making in let left = (taken t).cheap in let cheap = e.cheap in omega (arith, makes, left, cheap));
      })
    where
      u : Unseen d task f (waiting into) rest
      u = unseen d task f (waiting into) rest e.started

  -- ** the step

  pub starts_fine : (task : Task) (into : Option ℕ) (cost deep : ℕ) → Starts task into cost deep →
      instruction_step d w rest (past f) i ≡ in_front rest (machine.goes_on w (task ∷ []) (record (past f) { into = into })) → StepIsFine t
  starts_fine task into cost deep e does within =
      fine_where t within (led_to task into) (ap (left (suc n)) does ∙ starts_leads w task rest (waiting into) (suc n)) (starts_good task into cost deep e)

  -- a task from which nothing comes down, where no register is written
  pub record Sends (task : Task) (cost deep : ℕ) : Type 0 where
    pub started : is_started task ≡ true
    pub more : ends i ≡ false
    pub good : TaskGood d a.weighed.costs a.weighed.depths (view w) none (Running (waiting f.into) ∷ rest) task cost deep
    pub cheap : cost ≤ start_cost (graph d) a.weighed.costs (start_of d (r t).ks i)
    pub shallow : deep ≤ start_depth a.weighed.depths (start_of d (r t).ks i)
    pub none_down : down d (view w) task ≡ none
    pub kinds_are : after d (r t).p (r t).ks i ≡ (r t).ks
    pub held : 0 < is_due_set task → next_unheld (mentions d (led_to task f.into)) w.objects ≡ None

  awaits_none : (ks : Kinds) (into : Option ℕ) → into ≡ None → (up : Down) → up ≡ none → Comes into up × TakesNone up × (awaited ks into up ≡ ks)
  awaits_none ks into e up is = subst (λ up. Comes into up × TakesNone up × (awaited ks into up ≡ ks)) (sym is) (subst (λ into. Comes into none × TakesNone none × (awaited ks into none ≡ ks)) (sym e) (tt, tt, refl))

  pub sends_fine : (task : Task) (cost deep : ℕ) → Sends task cost deep → instruction_step d w rest (past f) i ≡ in_front rest (machine.goes_on w (task ∷ []) (past f)) → StepIsFine t
  sends_fine task cost deep e does =
      let x = awaits_none (r t).ks f.into (none_into t) (down d (view w) task) e.none_down in
      starts_fine task f.into cost deep
      (record {
        started = e.started;
        more = e.more;
        good = e.good;
        cheap = e.cheap;
        shallow = e.shallow;
        comes = x.0;
        takes = x.1;
        closed = ap (keeps (opened (drop (suc f.at) (r t).b.code))) (none_into t);
        comes_down = x.2 ∙ sym e.kinds_are;
        held = e.held;
      }) does
