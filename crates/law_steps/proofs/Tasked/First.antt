-- What is good where a task is the first one, and what is to be shown of the world and the agenda that its step leaves.
use Rattle.std.proofs.Common.{◌≡◌, refl, sym, ap, subst, ℕ, zero, suc, ◌+◌, ◌<◌, ◌≤◌, List, [], ◌∷◌, length, drop, Option, None, Ok, arith}
use Rattle.std.specs.Prelude.{⊤}
use Rattle.ui_machine.specs.Seq.{total}
use Rattle.ui_machine.specs.Definition.{Definition}
use Rattle.ui_machine.specs.Definition.Values.{Value}
use Rattle.ui_machine.specs.State.Objects.{live}
use Rattle.ui_machine.specs.State.Peers.{Reply}
use Rattle.ui_machine.specs.State.References.{mentions, next_unheld}
use Rattle.ui_machine.specs.State.Tasks.{Task}
use Rattle.ui_machine.specs.State.Config.{World, Config}
use Rattle.ui_machine.specs.Rules.Build.{to_make}
use Rattle.ui_machine.specs.Steps.{act, first_of, most_steps}
use Rattle.law_typing.specs.Graph.{graph}
use Rattle.law_typing.specs.Graph.Channels.{property}
use Rattle.law_typing.specs.Graph.Tables.{Tables, entry}
use Rattle.law_typing.specs.Graph.Depths.{depth}
use Rattle.law_typing.specs.Verdict.Accepted.{Each, Accepted}
use Rattle.law_typing.specs.Laws.WellRead.{WellRead}
use Rattle.law_typing.specs.Laws.StepsKeepGood.{IsGood, Fine, Replies}
use Rattle.law_typing.specs.Good.Standing.{Standing, standing, view}
use Rattle.law_typing.specs.Good.Objects.{ObjectsGood, PeersGood}
use Rattle.law_typing.specs.Good.ComingDown.{none}
use Rattle.law_typing.specs.Good.Agenda.{AgendaGood}
use Rattle.law_typing.specs.Good.Builds.{is_for_builder, BuildGood}
use Rattle.law_typing.specs.Good.Freezes.{frozen_by, below_lowest, QueuesGood, carried, is_due_set, is_due_source}
use Rattle.law_static.proofs.StartProofs.{carried_falls}
use Rattle.law_steps.specs.Kept.Write.{Whole}
use Rattle.law_steps.specs.Kept.Alike.{Alike}
use Rattle.law_steps.proofs.Kept.AlikeProofs.{whole_stays, build_stays}
use Rattle.law_steps.proofs.Kept.Left.{each_to}
use Rattle.law_steps.proofs.Kept.Lists.{objects_stay}
use Rattle.law_steps.specs.Tasked.First.{at_first, IsFineAbove, IsFine}

-- a task is the first one, where all is good and nothing is to be finalised before it
pub record First (d : Definition) (task : Task) : Type 0 where
  pub well : WellRead d
  pub a : Accepted d
  pub most_counted : ℕ
  pub within : most_counted ≤ most_steps
  pub w : World
  pub rest : List Task
  pub n : ℕ
  pub g : IsGood d a most_counted (at_first w task rest n)
  pub settled : next_unheld (mentions d (at_first w task rest n)) w.objects ≡ None
  pub reply : Option Reply
  pub replies : Replies d (at_first w task rest n) reply

-- the step that takes it is fine
abbrev pub StepIsFine : {d : Definition} {task : Task} → First d task → Type 0
StepIsFine {d} {task} t =
    Fine d t.a.weighed.costs t.a.weighed.depths t.most_counted (depth (graph d) t.a.weighed.depths) (act d t.w t.reply (task ∷ t.rest) t.n)

pub fine_above : {task : Task} (Sort : List Task → Type 0) → ((d : Definition) (t : First d task) → Sort t.rest → StepIsFine t) → IsFineAbove Sort task
fine_above {task} Sort h d well a most_counted within w rest n sort g settled reply replies =
    subst (λ o. Fine d a.weighed.costs a.weighed.depths most_counted (depth (graph d) a.weighed.depths) (first_of d reply (at_first w task rest n) o)) (sym settled)
    (h d
    (record {
      well = well;
      a = a;
      most_counted = most_counted;
      within = within;
      w = w;
      rest = rest;
      n = n;
      g = g;
      settled = settled;
      reply = reply;
      replies = replies;
    })
    sort)

pub fine_of : {task : Task} → ((d : Definition) (t : First d task) → StepIsFine t) → IsFine task
fine_of h = fine_above (λ rest. ⊤) (λ d t sort. h d t)

pub none_later : (f : Task → ℕ) (agenda : List Task) → total f agenda ≡ 0 → total f (drop 1 agenda) ≡ 0
none_later f [] e = e
none_later f (task ∷ agenda) e = omega (arith, e)

-- what is said and reported is read by nothing
pub objects_told : (d : Definition) (w : World) (lines : List (List ℕ)) (v : Option Value) → ObjectsGood d w → ObjectsGood d (record w { transcript = lines; result = v })
objects_told d w lines v g = objects_stay d w (record w { transcript = lines; result = v }) g

module _ {d : Definition} {task : Task} (t : First d task) where
  open t use {well, a, most_counted, w, rest, n, g}

  abbrev pub costs : Tables
  costs = a.weighed.costs

  abbrev pub depths : Tables
  depths = a.weighed.depths

  abbrev pub most : ℕ
  most = depth (graph d) depths

  abbrev pub s : Standing
  s = standing w.objects

  -- the objects that the builder is making
  abbrev pub making : ℕ
  making = total is_for_builder (task ∷ rest)

  -- what is to be shown of the world and the agenda that the step leaves, where no object changes
  pub record Leaves (v : World) (agenda : List Task) : Type 0 where
    pub objects : v.objects ≡ w.objects
    pub whole : Whole d costs depths agenda v
    pub pool : PeersGood d v.peers (length v.builder + total is_for_builder agenda)
    pub to_make : to_make agenda ≡ to_make (task ∷ rest)
    pub makes : total is_for_builder agenda ≤ total is_for_builder (task ∷ rest)
    pub build : BuildGood d v.builder agenda agenda
    -- as much is frozen, and what is by no higher task
    pub frozen : (id : ℕ) → total (frozen_by d id) agenda ≡ total (frozen_by d id) (task ∷ rest)
    pub lowest : (id : ℕ) → 0 < total (frozen_by d id) agenda → below_lowest d id agenda ≤ below_lowest d id (task ∷ rest)
    pub no_set : total is_due_set agenda ≡ 0
    pub no_source : total is_due_source (drop 1 agenda) ≡ 0
    -- the agenda, within the steps that there were
    pub budget : ℕ
    pub less : budget ≤ g.agenda.0 + g.agenda.2
    pub good : AgendaGood d costs depths (view v) most none agenda budget

  queues_left : (v : World) (agenda : List Task) → Leaves v agenda → QueuesGood d depths most agenda n w.objects
  queues_left v agenda e id o is =
      let q = g.queues id o is in
      record {
        count = (let old = q.count in let same = e.frozen id in omega (arith, old, same));
        few = q.few;
        none = q.none;
        deep = of o.freezes refl;
      }
    where
      of : (k : ℕ) → o.freezes ≡ k → Each (λ slot. suc (below_lowest d id agenda) + entry depths.channels (property o.place slot) ≤ most) o.queue
      of zero thawed = subst (Each (λ slot. suc (below_lowest d id agenda) + entry depths.channels (property o.place slot) ≤ most)) (sym ((g.queues id o is).none thawed)) tt
      of (suc k) some =
          each_to _ _ o.queue
          (λ slot low. (
          let old = (g.queues id o is).count in
          let same = e.frozen id in
          let x = e.lowest id (omega (arith, old, same, some)) in
          omega (arith, low, x)))
          (g.queues id o is).deep

  pub good_of : (v : World) (agenda : List Task) → Leaves v agenda → IsGood d a most_counted (record { world = v; agenda = agenda; counted = n })
  good_of v agenda e = record {
    objects = e.whole.objects;
    handlers = e.whole.handlers;
    bindings = e.whole.bindings;
    sources = e.whole.sources;
    peers = e.pool;
    build = e.build;
    held = e.whole.held;
    floating = e.whole.floating;
    sets = record {
      alone = e.no_source;
      first = none_later is_due_set agenda e.no_set;
      held = λ some. absurd (let none = e.no_set in omega (arith, some, none));
    };
    objects_first = e.whole.objects_first;
    budget = e.budget;
    agenda = e.good;
    queues = subst (QueuesGood d depths most agenda n) (sym e.objects) (queues_left v agenda e);
    few = (let old = g.few in let same = e.to_make in let live_same = ap live e.objects in omega (arith, old, same, live_same));
    spent = (
        let old = g.spent in
        let split = g.agenda.5 in
        let less = e.less in
        let same = e.to_make in
        let live_same = ap live e.objects in
        let queued_same = ap (total (carried d costs (total is_for_builder agenda))) e.objects in
        let queued_less = carried_falls d costs (total is_for_builder agenda) (total is_for_builder (task ∷ rest)) w.objects e.makes in
        omega (arith, old, split, less, same, live_same, queued_same, queued_less));
  }

  -- the step is fine where what it leads to is good
  pub fine_where : (c : Config) → act d w t.reply (task ∷ rest) n ≡ Ok c → IsGood d a most_counted c → StepIsFine t
  fine_where c leads good = subst (Fine d costs depths most_counted most) (sym leads) good

  -- what was good of the world
  pub whole_was : Whole d costs depths (task ∷ rest) w
  whole_was = record {
    objects = g.objects;
    handlers = g.handlers;
    bindings = g.bindings;
    sources = g.sources;
    held = g.held;
    floating = g.floating;
    objects_first = g.objects_first;
  }

  -- the world stays good where a line is said and a value reported, and the agendas are alike
  pub whole_told : (agenda : List Task) (lines : List (List ℕ)) (v : Option Value) → Alike (task ∷ rest) agenda → Whole d costs depths agenda (record w { transcript = lines; result = v })
  whole_told agenda lines v alike =
      whole_stays d costs depths (task ∷ rest) agenda (record w { transcript = lines; result = v }) alike
      (record {
        objects = objects_told d w lines v g.objects;
        handlers = g.handlers;
        bindings = g.bindings;
        sources = g.sources;
        held = g.held;
        floating = g.floating;
        objects_first = g.objects_first;
      })

  pub pool_alike : (agenda : List Task) → Alike (task ∷ rest) agenda → PeersGood d w.peers (length w.builder + total is_for_builder agenda)
  pool_alike agenda alike = subst (λ made. PeersGood d w.peers (length w.builder + made)) (sym alike.makes) g.peers

  pub build_alike : (agenda : List Task) → Alike (task ∷ rest) agenda → BuildGood d w.builder agenda (task ∷ rest)
  build_alike agenda alike = build_stays d w.builder (task ∷ rest) agenda (task ∷ rest) alike.makes g.build
