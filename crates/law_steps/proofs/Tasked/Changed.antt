-- A step that changes objects or counts: what is to be shown of the world and the agenda that it leaves.
use Rattle.std.proofs.Common.{◌≡◌, refl, sym, ap, subst, ◌∙◌, ℕ, suc, ◌+◌, ◌<◌, ◌≤◌, Bool, true, false, List, ◌∷◌, length, drop, Option, Some, Ok, arith, lt-ltb}
use Rattle.std.specs.Prelude.{nat_eq}
use Rattle.std.proofs.lemmas.Bool.{eqb-true, eqb-false}
use Rattle.ui_machine.specs.declared.arm.Arm.TheVariants as arms
use Rattle.ui_machine.specs.Seq.{total}
use Rattle.ui_machine.specs.Outcome.{Answer, only_if}
use Rattle.ui_machine.specs.Definition.{Definition}
use Rattle.ui_machine.specs.Definition.Values.{Value}
use Rattle.ui_machine.specs.State.Objects.{Object, Objects, living, live, put}
use Rattle.ui_machine.specs.State.Tasks.{Task}
use Rattle.ui_machine.specs.State.Config.{World, Config, Started}
use Rattle.ui_machine.specs.Rules.Build.{to_make}
use Rattle.ui_machine.specs.Steps.{act, uncounted, counted, most_steps}
use Rattle.law_typing.specs.Graph.Channels.{property}
use Rattle.law_typing.specs.Graph.Tables.{Tables, entry}
use Rattle.law_typing.specs.Verdict.Accepted.{Each}
use Rattle.law_typing.specs.Laws.StepsKeepGood.{IsGood}
use Rattle.law_typing.specs.Good.Standing.{view}
use Rattle.law_typing.specs.Good.Objects.{PeersGood}
use Rattle.law_typing.specs.Good.ComingDown.{none}
use Rattle.law_typing.specs.Good.Agenda.{AgendaGood}
use Rattle.law_typing.specs.Good.Builds.{is_for_builder, BuildGood}
use Rattle.law_typing.specs.Good.Freezes.{frozen_by, below_lowest, QueueGood, QueuesGood, carried, is_due_set, is_due_source, SetsGood}
use Rattle.law_steps.specs.Kept.Write.{Whole}
use Rattle.law_steps.proofs.Kept.Left.{each_to}
use Rattle.law_steps.proofs.Kept.WriteProofs.{find_here, find_apart}
use Rattle.law_steps.proofs.Tasked.First.{First, none_later, objects_told, StepIsFine, fine_where, costs, depths, most, making}
use Rattle.law_static.proofs.StartProofs.{carried_falls}

-- what is said and reported is read by nothing
pub whole_said : (d : Definition) (costs depths : Tables) (agenda : List Task) (w : World) (lines : List (List ℕ)) (v : Option Value) → Whole d costs depths agenda w →
    Whole d costs depths agenda (record w { transcript = lines; result = v })
whole_said d costs depths agenda w lines v g = record {
  objects = objects_told d w lines v g.objects;
  handlers = g.handlers;
  bindings = g.bindings;
  sources = g.sources;
  held = g.held;
  floating = g.floating;
  objects_first = g.objects_first;
}

-- where no set is due, and no source below the first task
pub no_sets : (d : Definition) (c : Config) → total is_due_set c.agenda ≡ 0 → total is_due_source (drop 1 c.agenda) ≡ 0 → SetsGood d c
no_sets d c unset alone = record { alone = alone; first = none_later is_due_set c.agenda unset; held = λ some. absurd (omega (arith, some, unset)) }

-- ** queues

-- agendas of which one freezes what the other does, and not above
pub record AsFrozen (d : Definition) (a b : List Task) : Type 0 where
  pub frozen : (id : ℕ) → total (frozen_by d id) b ≡ total (frozen_by d id) a
  pub lowest : (id : ℕ) → 0 < total (frozen_by d id) b → below_lowest d id b ≤ below_lowest d id a

-- a queue stays good
pub queue_moved : (d : Definition) (depths : Tables) (most : ℕ) (a b : List Task) (n m id : ℕ) (o : Object) → AsFrozen d a b → n ≤ m → QueueGood d depths most a n id o →
    QueueGood d depths most b m id o
queue_moved d depths most a b n m id o same more q = record {
  count = (let old = q.count in let frozen = same.frozen id in omega (arith, old, frozen));
  few = (let old = q.few in omega (arith, old, more));
  none = q.none;
  deep = go (nat_eq o.freezes 0) refl;
}
  where
    go : (z : Bool) → nat_eq o.freezes 0 ≡ z → Each (λ slot. suc (below_lowest d id b) + entry depths.channels (property o.place slot) ≤ most) o.queue
    go true e = subst (Each (λ slot. suc (below_lowest d id b) + entry depths.channels (property o.place slot) ≤ most)) (sym (q.none (eqb-true o.freezes 0 e))) tt
    go false e =
        let some = eqb-false o.freezes 0 e in
        let old = q.count in
        let frozen = same.frozen id in
        let low = same.lowest id (positive o.freezes some old frozen) in
        each_to _ _ o.queue (λ slot deep. (omega (arith, deep, low))) q.deep
      where
        positive : (k : ℕ) → (k ≡ 0 → ⊥) → k ≡ total (frozen_by d id) a → total (frozen_by d id) b ≡ total (frozen_by d id) a → 0 < total (frozen_by d id) b
        positive k some is same = omega (arith, some, is, same)

-- so do all, where one object is written over
pub queues_written : (d : Definition) (depths : Tables) (most : ℕ) (a b : List Task) (n m : ℕ) (os : Objects) (id : ℕ) (o new : Object) → AsFrozen d a b → n ≤ m → living os id ≡ Some o →
    QueuesGood d depths most a n os → QueueGood d depths most b m id new → QueuesGood d depths most b m (put os id (Some new))
queues_written d depths most a b n m os id o new same more is g here j x e = go (nat_eq id j) refl
  where
    go : (z : Bool) → nat_eq id j ≡ z → QueueGood d depths most b m j x
    go true t =
        let at = eqb-true id j t in
        let found = ap (living (put os id (Some new))) (sym at) ∙ find_here os id o new is in
        let one : new ≡ x = (let f = sym found ∙ e in cc) in
        subst (λ x. QueueGood d depths most b m j x) one (subst (λ j. QueueGood d depths most b m j new) at here)
    go false t = queue_moved d depths most a b n m j x same more (g j x (sym (find_apart os id new j (eqb-false id j t)) ∙ e))

module _ {d : Definition} {task : Task} (t : First d task) where
  open t use {a, most_counted, w, rest, n, g}

  -- what is to be shown of the world, the agenda and the count that the step leaves
  pub record Changes (v : World) (agenda : List Task) (m : ℕ) : Type 0 where
    pub whole : Whole d (costs t) (depths t) agenda v
    pub pool : PeersGood d v.peers (length v.builder + total is_for_builder agenda)
    pub build : BuildGood d v.builder agenda agenda
    pub sets : SetsGood d (record { world = v; agenda = agenda; counted = m })
    pub queues : QueuesGood d (depths t) (most t) agenda m v.objects
    pub alive : live v.objects ≡ live w.objects
    pub to_make : to_make agenda ≡ to_make (task ∷ rest)
    pub makes : total is_for_builder agenda ≤ total is_for_builder (task ∷ rest)
    pub budget : ℕ
    pub good : AgendaGood d (costs t) (depths t) (view v) (most t) none agenda budget
    pub spent : m + (budget + total (carried d (costs t) (making t)) v.objects) ≤ n + (g.agenda.0 + g.agenda.2 + total (carried d (costs t) (making t)) w.objects)

  pub changed_well : (v : World) (agenda : List Task) (m : ℕ) → Changes v agenda m → IsGood d a most_counted (record { world = v; agenda = agenda; counted = m })
  changed_well v agenda m e = record {
    objects = e.whole.objects;
    handlers = e.whole.handlers;
    bindings = e.whole.bindings;
    sources = e.whole.sources;
    peers = e.pool;
    build = e.build;
    held = e.whole.held;
    floating = e.whole.floating;
    sets = e.sets;
    objects_first = e.whole.objects_first;
    budget = e.budget;
    agenda = e.good;
    queues = e.queues;
    few = (let old = g.few in let same = e.to_make in let alive = e.alive in omega (arith, old, same, alive));
    spent = (
        let old = g.spent in
        let split = g.agenda.5 in
        let new = e.spent in
        let same = e.to_make in
        let alive = e.alive in
        let queued_less = carried_falls d (costs t) (total is_for_builder agenda) (making t) v.objects e.makes in
        omega (arith, old, split, new, same, alive, queued_less));
  }

  -- a counted step is fine where its task has paid for it
  pub fine_counted : (answer : Answer Started) (c : Config) → act d w t.reply (task ∷ rest) n ≡ counted rest n answer → 1 ≤ g.agenda.0 → uncounted rest (suc n) answer ≡ Ok c → IsGood d a most_counted c →
      StepIsFine t
  fine_counted answer c is paid leads good =
      let within = t.within in
      let old = g.spent in
      let split = g.agenda.5 in
      let room : n < most_steps = omega (arith, within, old, split, paid) in
      fine_where t c (is ∙ (ap (λ b. only_if b arms.Steps (uncounted rest (suc n) answer)) (lt-ltb n most_steps room) ∙ leads)) good
