-- The build makes a binding: its first transfer is due if it synchronises at once. Where an end is disposed it is too late for it.
use Rattle.std.proofs.Common.{◌≡◌, refl, sym, ap, subst, ◌∙◌, ℕ, ◌+◌, ◌≤◌, Bool, true, false, cond, List, [], ◌∷◌, ◌++◌, drop, Some, slice_get, arith}
use Rattle.std.specs.Prelude.{◌||◌}
use Rattle.ui_machine.specs.Seq.{read, total}
use Rattle.ui_machine.specs.Definition.{Definition}
use Rattle.ui_machine.specs.Definition.Places.{Bind}
use Rattle.ui_machine.specs.Definition.Properties.{has_flags}
use Rattle.ui_machine.specs.Rules.Build.{of_items, is_making, new_binding, first_transfer, with_binding, building_binding}
use Rattle.ui_machine.specs.Rules.Sets.{is_disposed}
use Rattle.ui_machine.specs.State.Config.{World, unbuilt, built, starts}
use Rattle.ui_machine.specs.State.Objects.{living}
use Rattle.ui_machine.specs.State.Tasks.{Item, binds, Task, Transferring, Building}
use Rattle.ui_machine.specs.Steps.{uncounted}
use Rattle.law_typing.specs.Graph.Channels.{is_pair, source_of}
use Rattle.law_typing.specs.Laws.WellRead.{IsObject}
use Rattle.law_typing.specs.Laws.StepsKeepGood.{IsGood}
use Rattle.law_typing.specs.Good.Standing.{standing, view}
use Rattle.law_typing.specs.Good.Agenda.{AgendaGood}
use Rattle.law_typing.specs.Good.Objects.{PeersGood}
use Rattle.law_typing.specs.Good.Bindings.{is_binding}
use Rattle.law_typing.specs.Good.Builds.{is_for_builder, item_cost, item_depth, BuildGood}
use Rattle.law_typing.specs.Good.ComingDown.{none}
use Rattle.law_typing.specs.Good.DueCosts.{unsets, transfer_cost, transfer_depth}
use Rattle.law_typing.specs.Good.Emissions.{TransferringGood}
use Rattle.law_typing.specs.Good.Freezes.{frozen_by, is_due_set, is_due_source}
use Rattle.law_typing.proofs.Lists.{each_in}
use Rattle.law_static.specs.Items.{IsBind}
use Rattle.law_static.proofs.FollowProofs.{bindings_follow}
use Rattle.law_static.proofs.SubclassProofs.{get_in}
use Rattle.law_steps.specs.Kept.Bindings.{NextBinding}
use Rattle.law_steps.proofs.Kept.AttachProofs.{handlers_wait_less}
use Rattle.law_steps.proofs.Kept.BindingsProofs.{binding_made}
use Rattle.law_steps.proofs.Kept.Lists.{objects_stay}
use Rattle.law_steps.proofs.Tasked.Built.{none_below, held_object, objects_first_next, queues_next, build_next, bindings_next, left_good}
use Rattle.law_steps.proofs.Tasked.Changed.{no_sets, changed_well}
use Rattle.law_steps.proofs.Tasked.First.{First, StepIsFine, fine_where, fine_of, costs, depths, most}
use Rattle.law_steps.proofs.Tasked.Moving.{cost_same, depth_same}
use Rattle.law_steps.proofs.Tasked.Pairs.{source_end, not_setting}
use Rattle.law_steps.specs.Tasked.BuildBindings.{BindingsAreFine}

-- ** what the machine does

binds_lead : (d : Definition) (w : World) (number source target : ℕ) (b : Bind) (items : List Item) → slice_get d.bindings number ≡ Some b → read unbuilt w.builder b.source ≡ built source →
    read unbuilt w.builder b.target ≡ built target →
    building_binding d w number items
    ≡ cond (is_disposed (living w.objects source) || is_disposed (living w.objects target)) (starts w (Building items ∷ []))
    (starts (with_binding w (new_binding number b source target)) (first_transfer number b ++ Building items ∷ []))
unfolding building_binding
binds_lead d w number source target b items is from to = rw (is, from, to) refl

-- ** the step

module _ {d : Definition} (number : ℕ) (items : List Item) (t : First d (Building (binds number ∷ items))) where
  open t use {well, a, w, rest, n, g}

  abbrev item : Item
  item = binds number

  b : IsBind d g.build.0 items number
  b = bindings_follow d a g.build.0 items number g.build.1

  ends : IsObject d b.bind.source × IsObject d b.bind.target
  ends = each_in (λ (b : Bind). IsObject d b.source × IsObject d b.target) d.bindings well.bindings b.bind (get_in d.bindings number b.bind b.is)

  source : (id : ℕ) × (read unbuilt w.builder b.bind.source ≡ built id)
  source = held_object item items t refl b.made b.bind.source ends.0

  target : (id : ℕ) × (read unbuilt w.builder b.bind.target ≡ built id)
  target = held_object item items t refl b.made b.bind.target ends.1

  none_more : (first : List Task) (f : Task → ℕ) → total f (first ++ Building items ∷ []) ≡ 0 → total f (first ++ Building items ∷ rest) ≡ 0
  none_more first f free = subst (λ r. total f (first ++ Building items ∷ r) ≡ 0) (sym g.agenda.3.1) free

  -- what is left of the items
  abbrev left : ℕ
  left = total (item_cost d (costs t)) items

  -- ** it is too late

  abbrev late : List Task
  late = Building items ∷ rest

  late_good : IsGood d a t.most_counted (record { world = w; agenda = late; counted = n })
  late_good =
      changed_well t w late n
      (record {
        whole = record {
          objects = g.objects;
          handlers = handlers_wait_less d (costs t) (depths t) (standing w.objects) (Building (item ∷ items) ∷ rest) late w.last_handler w.handlers (λ f. omega arith) g.handlers;
          bindings = bindings_next item items t refl late (omega arith) (λ x. none_more [] (unsets x) refl);
          sources = g.sources;
          held = g.held;
          floating = g.floating;
          objects_first = objects_first_next item items t refl late w.bindings (none_more [] is_for_builder refl);
        };
        pool = g.peers;
        build = build_next item items t refl late (none_more [] is_for_builder refl);
        sets = no_sets d (record { world = w; agenda = late; counted = n }) (let none = g.sets.first in omega (arith, none)) g.sets.alone;
        queues = queues_next item items t refl late (λ id. none_more [] (frozen_by d id) refl);
        alive = refl;
        to_make = omega arith;
        makes = omega arith;
        budget = left;
        good = left_good item items t refl (view w);
        spent = (let cheap = g.agenda.3.2 in omega (arith, cheap));
      })

  -- ** it is made

  abbrev v : World
  v = with_binding w (new_binding number b.bind source.0 target.0)

  -- with no more than one transfer due, which is paid for by the item
  record Due (first : List Task) : Type 0 where
    pub counts : (f : Task → ℕ) → f (Transferring number false) ≡ 0 → total f (first ++ Building items ∷ []) ≡ f (Building items)
    pub cost : ℕ
    pub cheap : cost ≤ item_cost d (costs t) item
    pub good : AgendaGood d (costs t) (depths t) (view v) (most t) none (first ++ Building items ∷ rest) (cost + left)
    pub build : (agenda : List Task) → BuildGood d w.builder agenda (Building items ∷ rest) → BuildGood d w.builder agenda (first ++ Building items ∷ rest)
    pub alone : total is_due_source (drop 1 (first ++ Building items ∷ rest)) ≡ 0

  counted : (first : List Task) → Due first → (f : Task → ℕ) → f (Transferring number false) ≡ 0 → total f (first ++ Building items ∷ rest) ≡ f (Building items)
  counted first due f free = subst (λ r. total f (first ++ Building items ∷ r) ≡ f (Building items)) (sym g.agenda.3.1) (due.counts f free)

  next_binding : (first : List Task) → Due first →
      NextBinding d (standing w.objects) (Building (item ∷ items) ∷ rest) (first ++ Building items ∷ rest) number b.bind source.0 target.0
  next_binding first due =
      let alone = λ (f : Task → ℕ). none_below item items t refl f in
      record {
        is = b.is;
        from = g.held b.bind.source source.0 source.1;
        to = g.held b.bind.target target.0 target.1;
        next = (let next = b.next in let none = alone (of_items is_binding) in omega (arith, next, none));
        items = (let count = counted first due (of_items is_binding) refl in let none = alone (of_items is_binding) in omega (arith, count, none));
        unset = λ x. (let count = counted first due (unsets x) refl in let none = alone (unsets x) in omega (arith, count, none));
        free = (let none = alone (unsets number) in omega (arith, none));
      }

  made_good : (first : List Task) → Due first → IsGood d a t.most_counted (record { world = v; agenda = first ++ Building items ∷ rest; counted = n })
  made_good first due =
      let agenda : List Task = first ++ Building items ∷ rest in
      changed_well t v agenda n
      (record {
        whole = record {
          objects = objects_stay d w v g.objects;
          handlers =
              handlers_wait_less d (costs t) (depths t) (standing w.objects) (Building (item ∷ items) ∷ rest) agenda w.last_handler w.handlers
              (λ f. (let count = counted first due (of_items f) refl in omega (arith, count))) g.handlers;
          bindings = binding_made d (standing w.objects) (Building (item ∷ items) ∷ rest) agenda w.bindings number b.bind source.0 target.0 (next_binding first due) g.bindings;
          sources = g.sources;
          held = g.held;
          floating = g.floating;
          objects_first = objects_first_next item items t refl agenda v.bindings (counted first due is_for_builder refl);
        };
        pool = subst (PeersGood d w.peers) (let none = counted first due is_for_builder refl in let alone = none_below item items t refl is_for_builder in omega (arith, none, alone)) g.peers;
        build = due.build agenda (build_next item items t refl agenda (counted first due is_for_builder refl));
        sets = no_sets d (record { world = v; agenda = agenda; counted = n }) (counted first due is_due_set refl) due.alone;
        queues = queues_next item items t refl agenda (λ id. counted first due (frozen_by d id) refl);
        alive = refl;
        to_make = (let count = counted first due (of_items is_making) refl in let none = none_below item items t refl (of_items is_making) in omega (arith, count, none));
        makes = (let none = counted first due is_for_builder refl in omega (arith, none));
        budget = due.cost + left;
        good = due.good;
        spent = (let cheap = g.agenda.3.2 in let own = due.cheap in omega (arith, cheap, own));
      })

  -- nothing is due
  none_due : Due []
  none_due = record {
    counts = λ f free. omega arith;
    cost = 0;
    cheap = omega arith;
    good = subst (AgendaGood d (costs t) (depths t) (view v) (most t) none (Building items ∷ rest)) (omega arith) (left_good item items t refl (view v));
    build = λ agenda build. build;
    alone = g.sets.alone;
  }

  -- the first transfer is due
  abbrev cost : ℕ
  cost = transfer_cost d (costs t) [] false (Some b.bind)

  unset_none : (x : ℕ) → total (unsets x) (Building items ∷ rest) ≡ 0
  unset_none x = none_more [] (unsets x) refl

  transfer_good : has_flags 2 b.bind.flags ≡ true → TransferringGood d (costs t) (depths t) (view v) (Building items ∷ rest) number false cost (item_depth d (depths t) item)
  transfer_good flag = record {
    free = unset_none number;
    goes_back = λ e. absurd (cc);
    cheap = (let same = cost_same d [] (Building items ∷ rest) unset_none (costs t) false (slice_get d.bindings number) in let own = ap (transfer_cost d (costs t) [] false) b.is in omega (arith, same, own));
    shallow = (let same = depth_same d [] (Building items ∷ rest) unset_none (depths t) false (slice_get d.bindings number) in
        let own = ap (transfer_depth d (depths t) [] false) b.is in
        let deep : item_depth d (depths t) item ≡ transfer_depth d (depths t) [] false (Some b.bind) = rw (b.is, flag) refl in
        omega (arith, same, own, deep));
    one = counts (is_pair b.bind) refl;
  }
    where
      counts : (p : Bool) → is_pair b.bind ≡ p → 1 ≤ cost
      counts true pair = let not = not_setting d a [] number b.bind (record { is = b.is; pair = pair }) (source_of b.bind) (source_end b.bind) refl in rw (pair, not) (omega arith)
      counts false one = rw one (omega arith)

  one_due : has_flags 2 b.bind.flags ≡ true → Due (Transferring number false ∷ [])
  one_due flag = record {
    counts = λ f free. omega (arith, free);
    cost = cost;
    cheap = (let own : item_cost d (costs t) item ≡ cost = rw (b.is, flag) refl in omega (arith, own));
    good = (
      cost,
      item_depth d (depths t) item,
      left,
      (tt, transfer_good flag),
      (let low = g.agenda.4 in let own = g.agenda.3.3.0 in omega (arith, low, own)),
      omega arith,
      left_good item items t refl (view v),
    );
    build = λ agenda build. build;
    alone = none_more [] is_due_source refl;
  }

  bind_fine : StepIsFine t
  bind_fine = go (is_disposed (living w.objects source.0) || is_disposed (living w.objects target.0)) (ap (uncounted rest n) (binds_lead d w number source.0 target.0 b.bind items b.is source.1 target.1))
    where
      go : (late : Bool) →
          uncounted rest n (building_binding d w number items)
          ≡ uncounted rest n (cond late (starts w (Building items ∷ [])) (starts v (first_transfer number b.bind ++ Building items ∷ []))) → StepIsFine t
      go true leads = fine_where t (record { world = w; agenda = Building items ∷ rest; counted = n }) leads late_good
      go false leads = by (has_flags 2 b.bind.flags) refl
        where
          by : (flag : Bool) → has_flags 2 b.bind.flags ≡ flag → StepIsFine t
          by true e =
              fine_where t (record { world = v; agenda = Transferring number false ∷ Building items ∷ rest; counted = n })
              (leads ∙ ap (λ z. uncounted rest n (starts v (cond z (Transferring number false ∷ []) [] ++ Building items ∷ []))) e)
              (made_good (Transferring number false ∷ []) (one_due e))
          by false e =
              fine_where t (record { world = v; agenda = Building items ∷ rest; counted = n })
              (leads ∙ ap (λ z. uncounted rest n (starts v (cond z (Transferring number false ∷ []) [] ++ Building items ∷ []))) e)
              (made_good [] none_due)

pub bindings_are_fine : BindingsAreFine
bindings_are_fine number items = fine_of (λ d t. bind_fine number items t)
