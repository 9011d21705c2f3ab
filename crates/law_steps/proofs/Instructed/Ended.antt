-- The agenda that is left where a program ends: what lay below it, of which the first task has perhaps changed or ended.
use Rattle.std.proofs.Common.{◌≡◌, refl, sym, subst, ◌∙◌, ℕ, suc, ◌+◌, ◌≤◌, Bool, true, false, cond, List, [], ◌∷◌, length, drop, arith}
use Rattle.std.specs.Prelude.{nat_eq}
use Rattle.ui_machine.specs.Seq.{total}
use Rattle.ui_machine.specs.Definition.{Definition}
use Rattle.ui_machine.specs.Definition.Programs.{Instruction}
use Rattle.ui_machine.specs.State.Tasks.{Running, Task}
use Rattle.ui_machine.specs.State.Config.{BuilderEntry}
use Rattle.ui_machine.specs.Rules.Build.{is_making}
use Rattle.law_typing.specs.Graph.{graph}
use Rattle.law_typing.specs.Graph.Depths.{depth}
use Rattle.law_typing.specs.Laws.WellRead.{ends}
use Rattle.law_typing.specs.Laws.StepsKeepGood.{IsGood}
use Rattle.law_typing.specs.Good.Standing.{view}
use Rattle.law_typing.specs.Good.Objects.{PeersGood}
use Rattle.law_typing.specs.Good.ComingDown.{none}
use Rattle.law_typing.specs.Good.Builds.{BuildGood}
use Rattle.law_typing.specs.Good.Agenda.{AgendaGood, frames}
use Rattle.law_typing.specs.Good.Freezes.{frozen_by, below_lowest, QueuesGood, is_due_set, is_due_source}
use Rattle.law_steps.specs.Kept.Alike.{Alike}
use Rattle.law_steps.proofs.Kept.Left.{each_to}
use Rattle.law_steps.proofs.Instructed.Frozen.{is_bracket}
use Rattle.law_steps.proofs.Instructed.Around.{Due, taken, good_of}
use Rattle.law_steps.proofs.Instructed.Landing.{none_open}
use Rattle.law_steps.proofs.Instructed.Lists.{Lists, with_lists, ListsGood, lists_moved}

lowest_below : (d : Definition) (id : ℕ) (tasks : List Task) → below_lowest d id tasks ≤ frames tasks
lowest_below d id [] = omega arith
lowest_below d id (task ∷ tasks) = go (nat_eq (total (frozen_by d id) tasks) 0) (lowest_below d id tasks)
  where
    go : (b : Bool) → below_lowest d id tasks ≤ frames tasks → cond b (frames tasks) (below_lowest d id tasks) ≤ frames (task ∷ tasks)
    go true less = omega arith
    go false less = omega (arith, less)

-- without its first task the lowest that holds an object frozen has no more frames below it
pub lowest_falls : (d : Definition) (id : ℕ) (task : Task) (tasks : List Task) → below_lowest d id tasks ≤ below_lowest d id (task ∷ tasks)
lowest_falls d id task tasks = go (nat_eq (total (frozen_by d id) tasks) 0) (lowest_below d id tasks)
  where
    go : (b : Bool) → below_lowest d id tasks ≤ frames tasks → below_lowest d id tasks ≤ cond b (frames tasks) (below_lowest d id tasks)
    go true less = less
    go false less = omega arith

none_later : (f : Task → ℕ) (agenda : List Task) → total f agenda ≡ 0 → total f (drop 1 agenda) ≡ 0
none_later f [] e = e
none_later f (task ∷ agenda) e = omega (arith, e)

alike_both : (a b c : List Task) → Alike a b → Alike b c → Alike a c
alike_both a b c p q = record {
  items = λ f. q.items f ∙ p.items f;
  unset = λ number. q.unset number ∙ p.unset number;
  request_step = q.request_step ∙ p.request_step;
  makes = q.makes ∙ p.makes;
}

module _ {d : Definition} {i : Instruction} (t : Due d i) (plain : is_bracket i ≡ false) (last : ends i ≡ true) where
  open t use {a, most_counted, w, f, rest, n, g}

  -- what is to be shown of it, in a world with these lists
  pub record Ended (l : Lists) (agenda : List Task) : Type 0 where
    pub lists : ListsGood t plain l
    pub alike : Alike rest agenda
    pub frozen : (id : ℕ) → total (frozen_by d id) agenda ≡ total (frozen_by d id) rest
    pub lowest : (id : ℕ) → below_lowest d id agenda ≤ below_lowest d id rest
    pub no_set : total is_due_set agenda ≡ 0
    pub no_source : total is_due_source agenda ≡ 0
    pub build : (builder : List BuilderEntry) → BuildGood d builder agenda rest → BuildGood d builder agenda agenda
    pub budget : ℕ
    pub less : budget ≤ g.agenda.2
    pub good : AgendaGood d a.weighed.costs a.weighed.depths (view (with_lists w l)) (depth (graph d) a.weighed.depths) none agenda budget

  first_gone : Alike (Running f ∷ rest) rest
  first_gone = record {
    items = λ f. omega arith;
    unset = λ number. omega arith;
    request_step = omega arith;
    makes = omega arith;
  }

  -- the program held nothing frozen
  held_none : (id : ℕ) → frozen_by d id (Running f) ≡ 0
  held_none id = rw (none_open t last) refl

  queues_left : (l : Lists) (agenda : List Task) → Ended l agenda → QueuesGood d a.weighed.depths (depth (graph d) a.weighed.depths) agenda (suc n) w.objects
  queues_left l agenda e id o is =
      let q = g.queues id o is in
      record {
        count = (let old = q.count in let same = e.frozen id in let held = held_none id in omega (arith, old, same, held));
        few = (let old = q.few in omega (arith, old));
        none = q.none;
        deep = each_to _ _ o.queue (λ slot low. (let x = e.lowest id in let y = lowest_falls d id (Running f) rest in omega (arith, low, x, y))) q.deep;
      }

  pub ended_well : (l : Lists) (agenda : List Task) → Ended l agenda → IsGood d a most_counted (record { world = with_lists w l; agenda = agenda; counted = suc n })
  ended_well l agenda e =
      let moved = lists_moved t plain l e.lists in
      let all = alike_both (Running f ∷ rest) rest agenda first_gone e.alike in
      good_of t (with_lists w l) agenda
      (record {
        whole = moved.whole;
        alike = all;
        pool = subst (λ made. PeersGood d w.peers (length w.builder + made)) (sym all.makes) moved.pool;
        builder = refl;
        build = e.build w.builder;
        sets = record {
          alone = none_later is_due_source agenda e.no_source;
          first = none_later is_due_set agenda e.no_set;
          held = λ some. absurd (let none = e.no_set in omega (arith, some, none));
        };
        budget = e.budget;
        good = e.good;
        queues = queues_left l agenda e;
        few = (let old = g.few in let same = all.items is_making in omega (arith, old, same));
        spent = (let cheap = (taken t).cheap in let same = all.items is_making in let less = e.less in omega (arith, cheap, same, less));
      })
