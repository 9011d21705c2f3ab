-- The build makes an object.
use Rattle.std.proofs.Common.{◌≡◌, inl, inr, ◌⊎◌, refl, sym, ap, subst, ◌∙◌, ℕ, suc, ◌+◌, ◌<◌, ◌≤◌, Bool, true, false, cond, List, [], ◌∷◌, ◌++◌, length, Option, None, Some, Ok, slice_get, arith}
use Rattle.std.specs.Prelude.{nat_eq, is_none, is_some, option_map}
use Rattle.std.proofs.lemmas.Bool.{eqb-true, eq-eqb}
use Rattle.ui_machine.specs.declared.arm.Arm.TheVariants as arms
use Rattle.ui_machine.specs.Seq.{read, total}
use Rattle.ui_machine.specs.Definition.{Definition}
use Rattle.ui_machine.specs.Definition.Places.{Place}
use Rattle.ui_machine.specs.Definition.Lookups.{place_at, type_of}
use Rattle.ui_machine.specs.Outcome.{only_if}
use Rattle.ui_machine.specs.Output.Lines as lines
use Rattle.ui_machine.specs.Rules.Build.{of_items, is_making, first_peer, peer_for, building_object}
use Rattle.ui_machine.specs.Rules.Construction.{has_shape, new_object, with_object, peer_to_take, construction, making}
use Rattle.ui_machine.specs.Rules.Transform.{same_bool}
use Rattle.ui_machine.specs.State.Bindings.{Binding}
use Rattle.ui_machine.specs.State.Config.{World, said, starts}
use Rattle.ui_machine.specs.State.Objects.{Object, living}
use Rattle.ui_machine.specs.State.Peers.{Peer, peer_number, is_left, first_left}
use Rattle.ui_machine.specs.State.Tasks.{Item, makes, ConstructStep, Task, Constructing, Building}
use Rattle.ui_machine.specs.Steps.{uncounted}
use Rattle.law_typing.specs.Graph.{graph, raised_by_making}
use Rattle.law_typing.specs.Graph.Costs.{making_cost}
use Rattle.law_typing.specs.Graph.Depths.{deepest}
use Rattle.law_typing.specs.Verdict.Accepted.{Each}
use Rattle.law_typing.specs.Laws.WellRead.{PlaceRead}
use Rattle.law_typing.specs.Laws.StepsKeepGood.{IsGood}
use Rattle.law_typing.specs.Good.Standing.{standing, view}
use Rattle.law_typing.specs.Good.Objects.{PoolGood, PeersGood}
use Rattle.law_typing.specs.Good.Agenda.{AgendaGood}
use Rattle.law_typing.specs.Good.Bindings.{BindingsGood}
use Rattle.law_typing.specs.Good.Builds.{is_for_builder, item_cost, item_depth, BuildGood, ConstructingGood}
use Rattle.law_typing.specs.Good.ComingDown.{none}
use Rattle.law_typing.specs.Good.Handlers.{connecting_cost}
use Rattle.law_typing.specs.Good.Freezes.{to_thaw, frozen_by, QueueGood, QueuesGood, carried, is_carrying_over}
use Rattle.law_static.specs.Makings.{Makes}
use Rattle.law_static.proofs.SourceProofs.{none_carried}
use Rattle.law_static.proofs.BuildCostProofs.{read_making}
use Rattle.law_static.proofs.ConstructionProofs.{constructions_fit, constructions_shallow, constructions_thaw}
use Rattle.law_static.proofs.MakingCostProofs.{construction_costs}
use Rattle.law_static.proofs.MakingsProofs.{objects_come_first, items_cost_less}
use Rattle.law_static.proofs.PlanCostProofs.{total_append}
use Rattle.law_steps.specs.Kept.Made.{IsNew}
use Rattle.law_steps.specs.Kept.New.{next_identity, OneMoreStands}
use Rattle.law_steps.specs.Kept.Write.{Whole}
use Rattle.law_steps.proofs.Kept.AttachProofs.{handlers_wait_less}
use Rattle.law_steps.proofs.Kept.Left.{each_to}
use Rattle.law_steps.proofs.Kept.LentProofs.{peers_lent, new_peer_good}
use Rattle.law_steps.proofs.Kept.Lists.{objects_stay}
use Rattle.law_steps.proofs.Kept.MadeProofs.{new_whole_good}
use Rattle.law_steps.proofs.Kept.NewProofs.{found, new_stands}
use Rattle.law_steps.proofs.Instructed.MakeProofs.{defaults_valid, making_begins}
use Rattle.law_steps.specs.Tasked.BuildObjects.{ObjectsAreFine}
use Rattle.law_steps.proofs.Tasked.First.{First, fine_where, StepIsFine, fine_of, costs, depths, most}

-- ** the peer

-- the peer of a place's object, where each that is named is left
pub record Left (pool : List Peer) (name : List ℕ) : Type 0 where
  pub number : ℕ
  pub peer : Peer
  pub is : peer_number pool name ≡ Some number
  pub has : slice_get pool number ≡ Some peer
  pub free : peer.holder ≡ None

pub record Takes (pool : List Peer) (names : List (List ℕ)) (shaped : Bool) : Type 0 where
  pub same : first_peer pool names ≡ cond shaped (first_left pool names) None
  pub some : is_some (first_peer pool names) ≡ shaped
  pub there : shaped ≡ true → is_some (first_left pool names) ≡ true

takes_of : (pool : List Peer) (names : List (List ℕ)) (shaped : Bool) → length names ≡ cond shaped 1 0 → Each (Left pool) names → Takes pool names shaped
takes_of pool [] true count all = absurd (omega (arith, count))
takes_of pool [] false count all = record { same = refl; some = refl; there = λ e. absurd (cc) }
takes_of pool (name ∷ []) true count all =
    let l = all.0 in
    let free : is_left (slice_get pool l.number) ≡ true = ap is_left l.has ∙ ap (λ o. is_none o) l.free in
    let first : first_left pool (name ∷ []) ≡ Some l.number = rw (l.is, free) refl in
    record { same = l.is ∙ sym first; some = ap (λ o. is_some o) l.is; there = λ e. ap (λ o. is_some o) first }
takes_of pool (name ∷ []) false count all = absurd (omega (arith, count))
takes_of pool (name ∷ other ∷ more) true count all = absurd (omega (arith, count))
takes_of pool (name ∷ other ∷ more) false count all = absurd (omega (arith, count))

same_itself : (a b : Bool) → b ≡ a → same_bool a b ≡ true
same_itself true true e = refl
same_itself false false e = refl
same_itself true false e = absurd (cc)
same_itself false true e = absurd (cc)

peer_is : (d : Definition) (w : World) (p : Place) → Takes w.peers p.peers (has_shape d p.class) → peer_for d w p ≡ Ok (peer_to_take d w p)
peer_is d w p t =
    ap (λ b. only_if b arms.Code (Ok (first_peer w.peers p.peers))) (same_itself (has_shape d p.class) (is_some (first_peer w.peers p.peers)) t.some)
    ∙ ap (λ (o : Option ℕ). Ok o) t.same

-- ** what the machine does

builds : (d : Definition) (w : World) (place : ℕ) (items : List Item) (p : Place) (peer : Option ℕ) (v : World) (task : Task) → place_at d place ≡ Some p → peer_for d w p ≡ Ok peer →
    making d w place peer true ≡ Ok (record { world = v; tasks = task ∷ [] }) → building_object d w place items ≡ starts v (task ∷ Building items ∷ [])
unfolding building_object
builds d w place items p peer v task at is made = rw (at, is, made) refl

-- ** bindings

none_yet : (k most : ℕ) (bs : List Binding) → Each (λ (b : Binding). b.number + k < most) bs → most ≤ k → bs ≡ []
none_yet k most [] all less = refl
none_yet k most (b ∷ bs) all less = absurd (let low = all.0 in omega (arith, low, less))

-- ** the step

module _ {d : Definition} (place : ℕ) (items : List Item) (t : First d (Building (makes place ∷ items))) where
  open t use {well, a, w, rest, n, g}

  abbrev before : List Item
  before = g.build.0

  m : Makes d before items place
  m = objects_come_first d well before items place g.build.1

  abbrev p : Place
  p = m.object.0

  at : place_at d place ≡ Some p
  at = m.object.1

  read_well : PlaceRead d place p
  read_well = well.places place p at

  none_below : (f : Task → ℕ) → total f rest ≡ 0
  none_below f = ap (total f) g.agenda.3.1

  next_place : place ≡ length w.builder
  next_place = let order = m.order in let count = g.build.2 in let alone = none_below is_for_builder in omega (arith, order, count, alone)

  takes : Takes w.peers p.peers (has_shape d p.class)
  takes =
      takes_of w.peers p.peers (has_shape d p.class) (read_well.peers m.object.2)
      (each_to (PoolGood d w.peers (length w.builder + total is_for_builder (Building (makes place ∷ items) ∷ rest)) place p) (Left w.peers) p.peers
      (λ name pool. record {
        number = pool.number;
        peer = pool.peer;
        is = pool.is;
        has = pool.has;
        free = pool.left m.object.2 (let here = next_place in let alone = none_below is_for_builder in omega (arith, here, alone));
      })
      (g.peers place p at))

  abbrev o : Object
  o = new_object d place p (peer_to_take d w p)

  abbrev new : ℕ
  new = next_identity w

  abbrev made : World
  made = with_object d w o

  abbrev v : World
  v = said d made (lines.construct new (type_of d p.class).name)

  abbrev todo : List ConstructStep
  todo = construction d w place p

  abbrev agenda : List Task
  agenda = Constructing new todo true ∷ Building items ∷ rest

  stands : OneMoreStands (standing w.objects) (standing made.objects) new place
  stands = (new_stands d w o).0

  no_bindings : w.bindings ≡ []
  no_bindings = none_yet _ (length d.bindings) w.bindings g.bindings.made (let all = m.bindings in omega (arith, all))

  -- ** the world

  -- what was good of it, with the agenda to come
  whole_before : Whole d (costs t) (depths t) agenda w
  whole_before = record {
    objects = g.objects;
    handlers = handlers_wait_less d (costs t) (depths t) (standing w.objects) (Building (makes place ∷ items) ∷ rest) agenda w.last_handler w.handlers (λ f. omega arith) g.handlers;
    bindings = subst (BindingsGood d (standing w.objects) agenda) (sym no_bindings) (record { each = tt; rising = tt; made = tt });
    sources = g.sources;
    held = g.held;
    floating = g.floating;
    objects_first = record {
      before = λ some. (no_bindings, (let alone = none_below is_carrying_over in omega (arith, alone)));
      one = (let alone = none_below is_for_builder in omega (arith, alone));
    };
  }

  whole : Whole d (costs t) (depths t) agenda v
  whole =
      let peer = new_peer_good d w place (length w.builder + total is_for_builder (Building (makes place ∷ items) ∷ rest)) p at g.peers takes.there in
      let is_new : IsNew d w place p o = record { at = at; is = refl; free = peer.0; peer = peer.1 } in
      let x =
      new_whole_good d well.types (costs t) (depths t) agenda w place p o is_new
      (λ r there same. (let less = items_cost_less d (costs t) before (makes place ∷ items) g.build.1 r there in
      let alone = none_below (of_items (connecting_cost d (costs t) r.channel)) in
      omega (arith, less, alone)))
      whole_before in
      record {
        objects = objects_stay d made v x.objects;
        handlers = x.handlers;
        bindings = x.bindings;
        sources = x.sources;
        held = x.held;
        floating = x.floating;
        objects_first = x.objects_first;
      }

  pool : PeersGood d v.peers (length v.builder + total is_for_builder agenda)
  pool =
      peers_lent d well.peers w place (length w.builder + total is_for_builder (Building (makes place ∷ items) ∷ rest)) (length w.builder + total is_for_builder agenda) new p at
      (inr (let here = next_place in omega (arith, here))) (omega arith) g.peers

  build_good : BuildGood d w.builder agenda agenda
  build_good = (
    before ++ makes place ∷ [],
    g.build.1 ∙ sym (one_on before (makes place) items),
    (let count = g.build.2 in let split = total_append is_making before (makes place ∷ []) in omega (arith, count, split)),
    g.build.3,
  )
    where
      one_on : (xs : List Item) (i : Item) (ys : List Item) → (xs ++ i ∷ []) ++ ys ≡ xs ++ i ∷ ys
      one_on [] i ys = refl
      one_on (x ∷ xs) i ys = ap (λ (zs : List Item). x ∷ zs) (one_on xs i ys)

  -- ** the queues

  this_queue : QueueGood d (depths t) (most t) agenda n new o
  this_queue =
      let once = constructions_thaw d w place p in
      let own : frozen_by d new (Constructing new todo true) ≡ to_thaw todo = ap (λ b. cond b (to_thaw todo) 0) (eq-eqb new new refl) in
      let alone = none_below (frozen_by d new) in
      record {
        count = omega (arith, once, own, alone);
        few = omega arith;
        none = λ z. absurd (omega (arith, z));
        deep = tt;
      }

  other_queue : (j : ℕ) (y : Object) → living w.objects j ≡ Some y → QueueGood d (depths t) (most t) agenda n j y
  other_queue j y is =
      let q = g.queues j y is in
      let apart : frozen_by d j (Constructing new todo true) ≡ 0 = ap (λ b. cond b (to_thaw todo) 0) (not_new (nat_eq new j) refl) in
      let alone = none_below (frozen_by d j) in
      let thawed : y.freezes ≡ 0 = (let old = q.count in omega (arith, old, alone)) in
      record {
        count = omega (arith, thawed, apart, alone);
        few = q.few;
        none = q.none;
        deep = subst (Each _) (sym (q.none thawed)) tt;
      }
    where
      not_new : (b : Bool) → nat_eq new j ≡ b → nat_eq new j ≡ false
      not_new true e =
          absurd (let none = ap (standing w.objects) (sym (eqb-true new j e)) ∙ stands.none in let here = ap (option_map (λ (o : Object). o.place)) is in let f = sym none ∙ here in cc)
      not_new false e = e

  -- nothing waits, since nothing is frozen
  none_waits : (i : ℕ) (y : Object) → read None w.objects i ≡ Some y → y.queue ≡ []
  none_waits i y is =
      let q = g.queues (suc i) y is in
      let alone = none_below (frozen_by d (suc i)) in
      q.none (let old = q.count in omega (arith, old, alone))

  queues_good : QueuesGood d (depths t) (most t) agenda n v.objects
  queues_good j y e = go (found w.objects o j y e)
    where
      go : (living w.objects j ≡ Some y) ⊎ ((j ≡ new) × (y ≡ o)) → QueueGood d (depths t) (most t) agenda n j y
      go (inl is) = other_queue j y is
      go (inr is) = subst (λ j. QueueGood d (depths t) (most t) agenda n j y) (sym is.0) (subst (QueueGood d (depths t) (most t) agenda n new) (sym is.1) this_queue)

  -- ** the construction

  making_is : read [] (graph d).makings place ≡ raised_by_making d place p
  making_is = (read_making d 0 place place d.places p (omega arith) at).0

  abbrev cost : ℕ
  cost = making_cost (graph d) (costs t) (raised_by_making d place p)

  abbrev deep : ℕ
  deep = 1 + deepest (depths t) (raised_by_making d place p)

  cost_is : item_cost d (costs t) (makes place) ≡ cost
  cost_is = ap (making_cost (graph d) (costs t)) making_is

  deep_is : item_depth d (depths t) (makes place) ≡ deep
  deep_is = ap (λ cs. 1 + deepest (depths t) cs) making_is

  constructs_good : ConstructingGood d (costs t) (depths t) (view v) new todo true cost deep
  constructs_good = record {
    place = place;
    is = stands.here;
    for_builder = λ e. next_place;
    for_program = λ e. absurd (cc);
    fits = constructions_fit d well.types a (standing v.objects) w place p (λ place id is. stands.stay id place (g.held place id is)) at read_well;
    cheap = construction_costs d a w place p at read_well;
    shallow = each_to _ _ todo (λ m low. omega (arith, low)) (constructions_shallow d a w place p at read_well);
    one = omega arith;
  }

  makes_well : IsGood d a t.most_counted (record { world = v; agenda = agenda; counted = n })
  makes_well = record {
    objects = whole.objects;
    handlers = whole.handlers;
    bindings = whole.bindings;
    sources = whole.sources;
    peers = pool;
    build = build_good;
    held = whole.held;
    floating = whole.floating;
    sets = record {
      alone = (let none = g.sets.alone in omega (arith, none));
      first = (let none = g.sets.first in omega (arith, none));
      held = λ some. absurd (let none = g.sets.first in omega (arith, some, none));
    };
    objects_first = whole.objects_first;
    budget = cost + total (item_cost d (costs t)) items;
    agenda = (
      cost,
      deep,
      total (item_cost d (costs t)) items,
      (tt, constructs_good, λ e. (items, ap (λ (r : List Task). Building items ∷ r) g.agenda.3.1)),
      (let low = g.agenda.4 in let own = g.agenda.3.3.0 in let is = deep_is in omega (arith, low, own, is)),
      omega arith,
      (
        total (item_cost d (costs t)) items,
        g.agenda.1,
        0,
        (tt, g.agenda.3.1, omega arith, g.agenda.3.3.1),
        g.agenda.4,
        omega arith,
        subst (λ r. AgendaGood d (costs t) (depths t) (view v) (most t) none r 0) (sym g.agenda.3.1) tt,
      ),
    );
    queues = queues_good;
    few = (let old = g.few in let more = (new_stands d w o).1 in omega (arith, old, more));
    spent = (let old = g.spent in
        let split = g.agenda.5 in
        let cheap = g.agenda.3.2 in
        let is = cost_is in
        let more = (new_stands d w o).1 in
        let sum = total_append (carried d (costs t) (total is_for_builder agenda)) w.objects (Some o ∷ []) in
        let none = none_carried d (costs t) (total is_for_builder agenda) w.objects none_waits in
        omega (arith, old, split, cheap, is, more, sum, none));
  }

  make_fine : StepIsFine t
  make_fine =
      fine_where t (record { world = v; agenda = agenda; counted = n })
      (ap (uncounted rest n)
      (builds d w place items p (peer_to_take d w p) v (Constructing new todo true) at (peer_is d w p takes)
      (making_begins d w place p (peer_to_take d w p) true at read_well.concrete (defaults_valid d well.types p.class))))
      makes_well

pub objects_are_fine : ObjectsAreFine
objects_are_fine place items = fine_of (λ d t. make_fine place items t)
