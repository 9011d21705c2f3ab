-- A construction thaws its object: what waited in the queue is due, above the rest of the construction.
use Rattle.std.proofs.Common.{◌≡◌, refl, sym, ap, subst, ◌∙◌, ℕ, suc, ◌+◌, ◌-◌, ◌<◌, ◌≤◌, Bool, true, false, cond, List, [], ◌∷◌, Option, Some, arith}
use Rattle.std.specs.Prelude.{nat_eq, option_map}
use Rattle.std.proofs.lemmas.Bool.{eq-eqb, eqb-true, eqb-false}
use Rattle.ui_machine.specs.Seq.{total}
use Rattle.ui_machine.specs.Definition.{Definition}
use Rattle.ui_machine.specs.Definition.Lookups.{spec_of}
use Rattle.ui_machine.specs.Definition.Properties.{Spec, is_readable}
use Rattle.ui_machine.specs.Rules.Build.{is_making}
use Rattle.ui_machine.specs.Rules.Construction.{thawing_made}
use Rattle.ui_machine.specs.Rules.NotifyQueue.{less_frozen}
use Rattle.ui_machine.specs.State.Config.{World, with_objects, starts}
use Rattle.ui_machine.specs.State.Objects.{Object, living, put, changed}
use Rattle.ui_machine.specs.State.Tasks.{ConstructStep, thaws, Task, Thawing, Constructing}
use Rattle.ui_machine.specs.Steps.{uncounted}
use Rattle.law_typing.specs.Graph.Channels.{property, spec_at, spec_if}
use Rattle.law_typing.specs.Rules.Brackets.{has_pair}
use Rattle.law_typing.specs.Graph.{graph}
use Rattle.law_typing.specs.Graph.Costs.{with_other, node_cost}
use Rattle.law_typing.specs.Graph.Tables.{entry}
use Rattle.law_typing.specs.Verdict.Accepted.{Each}
use Rattle.law_typing.specs.Laws.StepsKeepGood.{IsGood}
use Rattle.law_typing.specs.Good.Standing.{standing, View}
use Rattle.law_typing.specs.Good.ComingDown.{none}
use Rattle.law_typing.specs.Good.Agenda.{AgendaGood, frames}
use Rattle.law_typing.specs.Good.DueCosts.{due_cost, due_depth, queued_cost}
use Rattle.law_typing.specs.Good.Emissions.{ThawingGood}
use Rattle.law_typing.specs.Good.Freezes.{to_thaw, frozen_by, below_lowest, QueueGood, QueuesGood, carried}
use Rattle.law_steps.specs.Kept.Alike.{Alike}
use Rattle.law_steps.specs.Kept.Write.{Kept}
use Rattle.law_steps.proofs.Kept.AlikeProofs.{whole_stays}
use Rattle.law_steps.proofs.Kept.ChangesProofs.{thaw_is_like}
use Rattle.law_steps.proofs.Kept.Left.{each_to}
use Rattle.law_steps.proofs.Kept.WriteProofs.{write_keeps, find_here, find_apart}
use Rattle.law_static.proofs.StartProofs.{due_within, queued_has, unpaired_alone}
use Rattle.law_steps.proofs.Instructed.NotifyProofs.{sum_over}
use Rattle.law_steps.proofs.Instructed.ThawProofs.{Thawed, thaw_leaves, thawing_good, less_is, each_two, total_at_most}
use Rattle.law_steps.proofs.Tasked.BeginningProofs.{Placed, placed}
use Rattle.law_steps.proofs.Tasked.Changed.{no_sets, changed_well}
use Rattle.law_steps.proofs.Tasked.First.{First, StepIsFine, fine_where, fine_of, whole_was, pool_alike, build_alike, costs, depths, most, making}
use Rattle.law_steps.specs.Tasked.Starting.{ConstructionsThaw}

thaw_leads : (w : World) (id : ℕ) (todo : List ConstructStep) (held : Bool) (o : Object) (less : ℕ) → living w.objects id ≡ Some o → o.freezes ≡ suc less →
    thawing_made w id todo held ≡ starts (with_objects w (put w.objects id (Some (less_frozen less o).state))) (Thawing id (less_frozen less o).answer ∷ Constructing id todo held ∷ [])
unfolding thawing_made changed
thaw_leads w id todo held o less is count = rw (is, less_is o less count) refl

module _ {d : Definition} (id : ℕ) (todo : List ConstructStep) (held : Bool) (t : First d (Constructing id (thaws ∷ todo) held)) (p : Placed d t.w id t.g.agenda.3.1.place) where
  open t use {a, w, rest, n, g}

  abbrev o : Object
  o = p.o

  abbrev task : Task
  task = Constructing id (thaws ∷ todo) held

  abbrev next : Task
  next = Constructing id todo held

  one_less : (j : ℕ) → frozen_by d j task ≡ cond (nat_eq id j) 1 0 + frozen_by d j next
  one_less j = go (nat_eq id j)
    where
      go : (b : Bool) → cond b (1 + to_thaw todo) 0 ≡ cond b 1 0 + cond b (to_thaw todo) 0
      go true = refl
      go false = omega arith

  -- what is left of its freezes
  abbrev less : ℕ
  less = frozen_by d id next + total (frozen_by d id) rest

  count_is : o.freezes ≡ suc less
  count_is =
      let q = (g.queues id o p.lives).count in
      let one = one_less id in
      let same = ap {B = ℕ} (λ b. cond b 1 0) (eq-eqb id id refl) in
      omega (arith, q, one, same)

  abbrev new : Object
  new = (less_frozen less o).state

  abbrev slots : List ℕ
  slots = (less_frozen less o).answer

  left_of : Thawed less o new slots
  left_of = thaw_leaves less o

  abbrev v : World
  v = with_objects w (put w.objects id (Some new))

  abbrev agenda : List Task
  agenda = Thawing id slots ∷ next ∷ rest

  now_alike : Alike (task ∷ rest) agenda
  now_alike = record { items = λ f. omega arith; unset = λ number. omega arith; request_step = omega arith; makes = omega arith }

  kept : Kept d (costs t) (depths t) (task ∷ rest) w v
  kept = write_keeps d (costs t) (depths t) (task ∷ rest) w id o new p.lives (thaw_is_like d w id less o p.good count_is) (whole_was t)

  -- ** the queues

  lowest : (j : ℕ) → (b : Bool) → nat_eq (total (frozen_by d j) (next ∷ rest)) 0 ≡ b → (place : ℕ) (queue : List ℕ) → (total (frozen_by d j) (next ∷ rest) ≡ 0 → queue ≡ []) →
      Each (λ slot. suc (below_lowest d j (task ∷ rest)) + entry (depths t).channels (property place slot) ≤ most t) queue →
      Each (λ slot. suc (cond b (frames (next ∷ rest)) (below_lowest d j (next ∷ rest))) + entry (depths t).channels (property place slot) ≤ most t) queue
  lowest j true z place queue empty deep = subst (Each _) (sym (empty (eqb-true (total (frozen_by d j) (next ∷ rest)) 0 z))) tt
  lowest j false z place queue empty deep = deep

  queues_good : QueuesGood d (depths t) (most t) agenda n v.objects
  queues_good j y e = go (nat_eq id j) refl
    where
      here_is : id ≡ j → y ≡ new
      here_is same = let f = ap (living v.objects) same in let h = find_here w.objects id o new p.lives in let k = sym e ∙ (sym f ∙ h) in cc

      this : QueueGood d (depths t) (most t) agenda n id new
      this =
          let q = g.queues id o p.lives in
          record {
            count = (let left = left_of.count in omega (arith, left));
            few = (let old = q.few in let left = left_of.count in let count = count_is in omega (arith, old, left, count));
            none = λ z. left_of.none (sym left_of.count ∙ z);
            deep =
                lowest id (nat_eq (total (frozen_by d id) (next ∷ rest)) 0) refl new.place new.queue (λ z. left_of.none z)
                (subst (λ place. Each (λ slot. suc (below_lowest d id (task ∷ rest)) + entry (depths t).channels (property place slot) ≤ most t) new.queue) (sym left_of.place) (left_of.waits _ q.deep));
          }

      other : nat_eq id j ≡ false → living w.objects j ≡ Some y → QueueGood d (depths t) (most t) agenda n j y
      other apart is =
          let q = g.queues j y is in
          let same : frozen_by d j task ≡ frozen_by d j next = (let one = one_less j in let zero = ap {B = ℕ} (λ b. cond b 1 0) apart in omega (arith, one, zero)) in
          let count : y.freezes ≡ total (frozen_by d j) (next ∷ rest) = (let old = q.count in omega (arith, old, same)) in
          record {
            count = (let c = count in omega (arith, c));
            few = q.few;
            none = q.none;
            deep = lowest j (nat_eq (total (frozen_by d j) (next ∷ rest)) 0) refl y.place y.queue (λ z. q.none (count ∙ z)) q.deep;
          }

      go : (b : Bool) → nat_eq id j ≡ b → QueueGood d (depths t) (most t) agenda n j y
      go true s =
          let same = eqb-true id j s in
          subst (QueueGood d (depths t) (most t) agenda n j) (sym (here_is same)) (subst (λ j. QueueGood d (depths t) (most t) agenda n j new) same this)
      go false s = other s (sym (find_apart w.objects id new j (eqb-false id j s)) ∙ e)

  -- ** what is due

  abbrev cost : ℕ
  cost = total (λ slot. due_cost d (costs t) (next ∷ rest) (property o.place slot)) slots

  abbrev deep : ℕ
  deep = most t - suc (frames rest)

  -- what waits carries what is due: the whole node while the builder makes an object, and what a program makes has no paired property
  paid : (slot : ℕ) → due_cost d (costs t) (next ∷ rest) (property o.place slot) ≤ queued_cost d (costs t) (making t) o.place slot
  paid slot = go held refl
    where
      within : due_cost d (costs t) (next ∷ rest) (property o.place slot) ≤ node_cost (graph d) (costs t) (property o.place slot)
      within = (due_within d a (next ∷ rest) o.place slot).0

      go : (b : Bool) → held ≡ b → due_cost d (costs t) (next ∷ rest) (property o.place slot) ≤ queued_cost d (costs t) (making t) o.place slot
      go true e =
          let one = ap {B = ℕ} (λ b. cond b 1 0) e in
          let some : nat_eq (making t) 0 ≡ false = not_zero (making t) (omega (arith, one)) in
          let node = ap (λ b. cond b (entry (costs t).channels (property o.place slot)) (node_cost (graph d) (costs t) (property o.place slot))) some in
          let due = within in
          omega (arith, node, due)
        where
          not_zero : (n : ℕ) → 0 < n → nat_eq n 0 ≡ false
          not_zero n some = of (nat_eq n 0) refl
            where
              of : (b : Bool) → nat_eq n 0 ≡ b → b ≡ false
              of true e = absurd (let none = eqb-true n 0 e in omega (arith, none, some))
              of false e = refl
      go false e =
          let none = ap (has_pair d) p.at ∙ g.agenda.3.1.for_program e in
          let alone = ap (with_other (costs t) (entry (costs t).channels (property o.place slot))) (unpaired_alone d o.place slot none) in
          let has = queued_has d (costs t) (making t) o.place slot in
          let due = within in
          omega (arith, alone, has, due)

  cost_within : cost + carried d (costs t) (making t) (Some new) ≤ carried d (costs t) (making t) (Some o)
  cost_within =
      let whole = left_of.costs (λ slot. queued_cost d (costs t) (making t) o.place slot) in
      let due =
      total_at_most (λ slot. due_cost d (costs t) (next ∷ rest) (property o.place slot)) (λ slot. queued_cost d (costs t) (making t) o.place slot) slots paid in
      let placed = ap (λ place. total (λ slot. queued_cost d (costs t) (making t) place slot) new.queue) left_of.place in
      omega (arith, whole, due, placed)

  shallow : less ≡ 0 → Each (λ slot. entry (depths t).channels (property o.place slot) ≤ deep) o.queue
  shallow z =
      let unfrozen : total (frozen_by d id) rest ≡ 0 = omega (arith, z) in
      each_to _ _ o.queue (λ slot fits. omega (arith, fits))
      (subst (λ b. Each (λ slot. suc (cond b (frames rest) (below_lowest d id rest)) + entry (depths t).channels (property o.place slot) ≤ most t) o.queue)
      (eq-eqb (total (frozen_by d id) rest) 0 unfrozen) (g.queues id o p.lives).deep)

  both : (slot : ℕ) → entry (depths t).channels (property o.place slot) ≤ deep → (spec : Spec) × (spec_of d o.class slot ≡ Some spec) × (is_readable spec ≡ true) →
      (due_depth d (depths t) (next ∷ rest) (property o.place slot) ≤ deep) × (spec : Spec) × (spec_at d o.place slot ≡ Some spec) × (is_readable spec ≡ true)
  both slot low has = (
    (let due = (due_within d a (next ∷ rest) o.place slot).1 in omega (arith, due, low)),
    has.0,
    ap (spec_at_place slot) p.at ∙ (ap (spec_if d slot) p.in_class ∙ has.1),
    has.2,
  )
    where
      spec_at_place : ℕ → ℕ → Option Spec
      spec_at_place slot place = spec_at d place slot

  due_good : ThawingGood d (costs t) (depths t) (standing w.objects) (next ∷ rest) id slots cost deep
  due_good =
      thawing_good d (costs t) (depths t) (standing w.objects) (next ∷ rest) id o.place cost deep slots (ap (option_map (λ (o : Object). o.place)) p.lives) (omega arith)
      (left_of.due _ (λ z. each_two _ _ _ o.queue both (shallow z) p.good.queue))

  thaws_well : IsGood d a t.most_counted (record { world = v; agenda = agenda; counted = n })
  thaws_well =
      let c = g.agenda.3.1 in
      changed_well t v agenda n
      (record {
        whole = whole_stays d (costs t) (depths t) (task ∷ rest) agenda v now_alike kept.whole;
        pool = pool_alike t agenda now_alike;
        build = build_alike t agenda now_alike;
        sets = no_sets d (record { world = v; agenda = agenda; counted = n }) (let unset = g.sets.first in omega (arith, unset)) (let alone = g.sets.alone in omega (arith, alone));
        queues = queues_good;
        alive = kept.alive;
        to_make = now_alike.items is_making;
        makes = (let same = now_alike.makes in omega (arith, same));
        budget = cost + (g.agenda.0 + g.agenda.2);
        good = subst (λ (v : View). AgendaGood d (costs t) (depths t) v (most t) none agenda (cost + (g.agenda.0 + g.agenda.2))) (sym kept.seen) (
          cost,
          deep,
          g.agenda.0 + g.agenda.2,
          (tt, due_good),
          (let low = g.agenda.4 in let one = c.one in omega (arith, low, one)),
          omega arith,
          (
            g.agenda.0,
            g.agenda.1,
            g.agenda.2,
            (tt, record { place = c.place; is = c.is; for_builder = c.for_builder; for_program = c.for_program; fits = c.fits.1; cheap = (let cheap = c.cheap in omega (arith, cheap)); shallow = c.shallow.1; one = c.one }, g.agenda.3.2),
            g.agenda.4,
            omega arith,
            g.agenda.6,
          ),
        );
        spent = (let sum = sum_over (carried d (costs t) (making t)) refl w.objects id o new p.lives in let within = cost_within in omega (arith, sum, within));
      })

pub constructions_thaw : ConstructionsThaw
constructions_thaw id todo held = fine_of (λ d t. good d t)
  where
    good : (d : Definition) (t : First d (Constructing id (thaws ∷ todo) held)) → StepIsFine t
    good d t =
        let p = placed d t.well t.w t.g.objects id t.g.agenda.3.1.place t.g.agenda.3.1.is in
        fine_where t (record { world = v id todo held t p; agenda = agenda id todo held t p; counted = t.n })
        (ap (uncounted t.rest t.n) (thaw_leads t.w id todo held p.o (less id todo held t p) p.lives (count_is id todo held t p)))
        (thaws_well id todo held t p)
