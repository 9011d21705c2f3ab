-- A due set: the value is refused, or written; and then it is notified at once, or waits in the queue of a frozen object, or nothing is raised.
use Rattle.std.proofs.Common.{◌≡◌, refl, sym, ap, subst, ◌∙◌, ℕ, zero, suc, ◌+◌, ◌<◌, ◌≤◌, Bool, true, false, cond, List, [], ◌∷◌, ◌++◌, Option, None, Some, Ok, slice_get, arith}
use Rattle.std.specs.Prelude.{nat_eq, slice_set, option_map, is_some, ◌||◌}
use Rattle.std.proofs.lemmas.Bool.{eqb-false}
use Rattle.ui_machine.specs.Seq.{total}
use Rattle.ui_machine.specs.Definition.{Definition}
use Rattle.ui_machine.specs.Definition.Lookups.{spec_of}
use Rattle.ui_machine.specs.Definition.Places.{Place}
use Rattle.ui_machine.specs.Definition.Properties.{Spec, is_readable, is_lax}
use Rattle.ui_machine.specs.Definition.Values.{Value}
use Rattle.ui_machine.specs.Definition.Values as values
use Rattle.ui_machine.specs.Output.Lines as lines
use Rattle.ui_machine.specs.Output.Text.{text_of_line}
use Rattle.ui_machine.specs.Rules.Build.{is_making}
use Rattle.ui_machine.specs.Rules.NotifyQueue.{queued}
use Rattle.ui_machine.specs.Rules.Sets.{has_kind, spec_at, lives, raising, raising_if, notifies, without_disposed, written, setting}
use Rattle.ui_machine.specs.Rules.Transform.{same_value}
use Rattle.ui_machine.specs.Rules.Validation.{clamp, is_valid}
use Rattle.ui_machine.specs.State.Config.{World, said, starts, with_objects}
use Rattle.ui_machine.specs.State.Objects.{Object, Objects, living, put, changed, with_value, class_in}
use Rattle.ui_machine.specs.State.Tasks.{Task, Setting, Notifying}
use Rattle.ui_machine.specs.Steps.{uncounted}
use Rattle.law_typing.specs.Rules.RegisterKinds.{class_at}
use Rattle.law_typing.specs.Graph.{graph}
use Rattle.law_typing.specs.Graph.Channels.{property, spec_if}
use Rattle.law_typing.specs.Graph.Channels as channels
use Rattle.law_typing.specs.Graph.Costs.{node_cost}
use Rattle.law_typing.specs.Graph.Tables.{entry}
use Rattle.law_typing.specs.Laws.StepsKeepGood.{IsGood}
use Rattle.law_typing.specs.Good.Standing.{standing, view, View, class_by, lives_by}
use Rattle.law_typing.specs.Good.Objects.{ObjectsGood, ObjectGood}
use Rattle.law_typing.specs.Good.ComingDown.{none}
use Rattle.law_typing.specs.Good.Agenda.{AgendaGood}
use Rattle.law_typing.specs.Good.Builds.{is_for_builder}
use Rattle.law_typing.specs.Good.DueCosts.{is_setting_below, queued_cost}
use Rattle.law_typing.specs.Good.Freezes.{frozen_by, below_lowest, QueueGood, QueuesGood, carried, is_due_source}
use Rattle.law_typing.proofs.Lists.{both_parts}
use Rattle.law_steps.specs.Kept.Alike.{Alike}
use Rattle.law_steps.specs.Kept.Write.{Whole, Kept}
use Rattle.law_steps.proofs.Kept.AlikeProofs.{whole_stays}
use Rattle.law_steps.proofs.Kept.ChangesProofs.{value_is_like, queue_is_like, each_queued}
use Rattle.law_steps.proofs.Kept.NewProofs.{at_place}
use Rattle.law_steps.proofs.Kept.WriteProofs.{write_keeps, find_here}
use Rattle.law_static.proofs.FitsProofs.{classes_agree}
use Rattle.law_static.proofs.StartProofs.{queued_within, setting_in}
use Rattle.law_steps.proofs.Instructed.Ended.{lowest_falls}
use Rattle.law_steps.proofs.Instructed.NotifyProofs.{put_itself, sum_over, queued_more}
use Rattle.law_steps.proofs.Instructed.ReadProofs.{spec_is}
use Rattle.law_steps.proofs.Tasked.Changed.{AsFrozen, no_sets, queue_moved, queues_written, whole_said, changed_well}
use Rattle.law_steps.proofs.Tasked.Done.{done}
use Rattle.law_steps.proofs.Tasked.First.{First, none_later, fine_where, StepIsFine, fine_of, whole_was, pool_alike, build_alike, costs, depths, most, making}
use Rattle.law_steps.proofs.Tasked.Lowest.{lowest_above}
use Rattle.law_steps.proofs.Tasked.Queued.{lowest_stands, node_is_due, depth_is_due, making_sets_none, setting_has}
use Rattle.law_steps.proofs.Tasked.Holding.{lowest_holds}
use Rattle.law_steps.proofs.Tasked.Validated.{validated, kept_valid}
use Rattle.law_steps.specs.Tasked.Setting.{DueSetsAreFine}

-- ** the property

-- the object at a place, and its property
pub record Owns (d : Definition) (w : World) (id place slot : ℕ) (spec : Spec) : Type 0 where
  pub o : Object
  pub lives : living w.objects id ≡ Some o
  pub at : o.place ≡ place
  pub of_class : class_at d place ≡ Some o.class
  pub has : spec_of d o.class slot ≡ Some spec
  pub good : ObjectGood d w (standing w.objects) id o

pub owns : (d : Definition) (w : World) → ObjectsGood d w → (id place slot : ℕ) (spec : Spec) → standing w.objects id ≡ Some place → channels.spec_at d place slot ≡ Some spec → Owns d w id place slot spec
owns d w objects id place slot spec is has =
    let x = at_place w.objects id place is in
    let o = objects id x.0 x.1 in
    let class : class_at d place ≡ Some x.0.class = ap (class_at d) (sym x.2) ∙ (ap (option_map (λ (p : Place). p.class)) o.is ∙ ap (λ (c : ℕ). Some c) (sym o.class)) in
    record { o = x.0; lives = x.1; at = x.2; of_class = class; has = sym (ap (spec_if d slot) class) ∙ has; good = o }

-- a value that lives by the places of objects lives
pub lives_there : (os : Objects) (v : Value) → lives_by (standing os) v ≡ true → lives os v ≡ true
lives_there os (values.bool b) e = refl
lives_there os (values.whole k n) e = refl
lives_there os (values.text t) e = refl
lives_there os (values.enum t n) e = refl
lives_there os (values.flags t n) e = refl
lives_there os (values.object None) e = refl
lives_there os (values.object (Some i)) e = go (living os i) refl e
  where
    go : (o : Option Object) → living os i ≡ o → is_some (option_map (λ (o : Object). o.place) o) ≡ true → is_some o ≡ true
    go None is e = absurd (cc)
    go (Some o) is e = refl

-- ** what the machine does

abbrev with_value_in : Object → ℕ → Value → Object
with_value_in o slot v = record o { values = slice_set o.values slot v }

-- what is written
abbrev to_write : Definition → World → Spec → Value → Value
to_write d w s v = without_disposed w.objects s (clamp (class_in w.objects) d.types s v)

-- whether it is
abbrev is_taken : Definition → World → Spec → Value → Bool
is_taken d w s v = same_value (clamp (class_in w.objects) d.types s v) v || is_lax s

refuses : (d : Definition) (w : World) (id slot : ℕ) (s : Spec) (v : Value) → spec_at d w.objects id slot ≡ Ok s → has_kind v s.kind ≡ true → lives w.objects v ≡ true → is_taken d w s v ≡ false →
    setting d w id slot v ≡ starts (said d w (lines.refused id s.name v)) []
unfolding setting
refuses d w id slot s v a b c e = rw (a, b, c, e) refl

writes : (d : Definition) (w : World) (id slot : ℕ) (s : Spec) (v : Value) (o : Object) (old : Value) → spec_at d w.objects id slot ≡ Ok s → has_kind v s.kind ≡ true → lives w.objects v ≡ true →
    is_taken d w s v ≡ true → living w.objects id ≡ Some o → slice_get o.values slot ≡ Some old →
    setting d w id slot v
    ≡ raising_if (notifies s old (to_write d w s v)) (said d (with_objects w (put w.objects id (Some (with_value_in o slot (to_write d w s v))))) (lines.set id s.name (to_write d w s v))) id slot
unfolding setting written changed with_value
writes d w id slot s v o old a b c e lives is = rw (a, b, c, e, lives, is) refl

raises_now : (w : World) (id slot : ℕ) (o : Object) → living w.objects id ≡ Some o → nat_eq o.freezes 0 ≡ true → raising w id slot ≡ starts (with_objects w (put w.objects id (Some o))) (Notifying id slot ∷ [])
unfolding raising changed
raises_now w id slot o lives thawed = rw (lives, thawed) refl

raises_later : (w : World) (id slot : ℕ) (o : Object) → living w.objects id ≡ Some o → nat_eq o.freezes 0 ≡ false →
    raising w id slot ≡ starts (with_objects w (put w.objects id (Some (record o { queue = queued o.queue slot })))) []
unfolding raising changed
raises_later w id slot o lives frozen = rw (lives, frozen) refl

notifies_readable : (s : Spec) (old new : Value) → notifies s old new ≡ true → is_readable s ≡ true
notifies_readable s old new e = (both_parts (is_readable s) _ e).0

-- ** the value is written

module _ {d : Definition} (id slot : ℕ) (v : Value) (t : First d (Setting id slot v)) where
  open t use {well, a, w, rest, n, g}

  abbrev spec : Spec
  spec = g.agenda.3.1.due.spec

  abbrev place : ℕ
  place = g.agenda.3.1.due.place

  abbrev task : Task
  task = Setting id slot v

  alike_rest : Alike (task ∷ rest) rest
  alike_rest = record { items = λ f. omega arith; unset = λ number. omega arith; request_step = omega arith; makes = omega arith }

  alike_notifying : Alike (task ∷ rest) (Notifying id slot ∷ rest)
  alike_notifying = record { items = λ f. omega arith; unset = λ number. omega arith; request_step = omega arith; makes = omega arith }

  as_before : AsFrozen d (task ∷ rest) (task ∷ rest)
  as_before = record { frozen = λ id. refl; lowest = λ id some. omega arith }

  as_rest : AsFrozen d (task ∷ rest) rest
  as_rest = record { frozen = λ id. omega arith; lowest = λ id some. lowest_falls d id task rest }

  as_notifying : AsFrozen d (task ∷ rest) (Notifying id slot ∷ rest)
  as_notifying = record {
    frozen = λ id. omega arith;
    lowest = λ x some. (
        let above = lowest_above d x (Notifying id slot) rest (omega (arith, some)) in
        let was = lowest_above d x task rest (omega (arith, some)) in
        omega (arith, above, was));
  }

  module _ (p : Owns d w id place slot spec) (new : Value) (valid : is_valid (class_by d (standing w.objects)) d.types spec new ≡ true) (lines : List (List ℕ)) where
    abbrev o1 : Object
    o1 = with_value_in p.o slot new

    abbrev w1 : World
    w1 = record (with_objects w (put w.objects id (Some o1))) { transcript = lines; result = w.result }

    kept1 : Kept d (costs t) (depths t) (task ∷ rest) w (with_objects w (put w.objects id (Some o1)))
    kept1 = write_keeps d (costs t) (depths t) (task ∷ rest) w id p.o o1 p.lives (value_is_like d w id slot p.o spec new p.good p.has valid) (whole_was t)

    whole1 : Whole d (costs t) (depths t) (task ∷ rest) w1
    whole1 = whole_said d (costs t) (depths t) (task ∷ rest) (with_objects w (put w.objects id (Some o1))) lines w.result kept1.whole

    lives1 : living w1.objects id ≡ Some o1
    lives1 = find_here w.objects id p.o o1 p.lives

    queue1 : (agenda : List Task) → AsFrozen d (task ∷ rest) agenda → QueueGood d (depths t) (most t) agenda n id o1
    queue1 agenda same =
        let q = queue_moved d (depths t) (most t) (task ∷ rest) agenda n n id p.o same (omega arith) (g.queues id p.o p.lives) in
        record { count = q.count; few = q.few; none = q.none; deep = q.deep }

    queues1 : (agenda : List Task) → AsFrozen d (task ∷ rest) agenda → QueuesGood d (depths t) (most t) agenda n w1.objects
    queues1 agenda same = queues_written d (depths t) (most t) (task ∷ rest) agenda n n w.objects id p.o o1 same (omega arith) p.lives g.queues (queue1 agenda same)

    sum1 : total (carried d (costs t) (making t)) w1.objects ≡ total (carried d (costs t) (making t)) w.objects
    sum1 = let sum = sum_over (carried d (costs t) (making t)) refl w.objects id p.o o1 p.lives in omega (arith, sum)

    -- nothing is raised
    silent_good : IsGood d a t.most_counted (record { world = w1; agenda = rest; counted = n })
    silent_good =
        changed_well t w1 rest n
        (record {
          whole = whole_stays d (costs t) (depths t) (task ∷ rest) rest w1 alike_rest whole1;
          pool = pool_alike t rest alike_rest;
          build = build_alike t rest alike_rest;
          sets = no_sets d (record { world = w1; agenda = rest; counted = n }) g.sets.first (none_later is_due_source rest g.sets.alone);
          queues = queues1 rest as_rest;
          alive = kept1.alive;
          to_make = alike_rest.items is_making;
          makes = (let same = alike_rest.makes in omega (arith, same));
          budget = g.agenda.2;
          good = subst (λ (v : View). AgendaGood d (costs t) (depths t) v (most t) none rest g.agenda.2) (sym kept1.seen) g.agenda.6;
          spent = (let sum = sum1 in omega (arith, sum));
        })

    -- it is notified at once
    notified_good : is_readable spec ≡ true → IsGood d a t.most_counted (record { world = w1; agenda = Notifying id slot ∷ rest; counted = n })
    notified_good readable =
        changed_well t w1 (Notifying id slot ∷ rest) n
        (record {
          whole = whole_stays d (costs t) (depths t) (task ∷ rest) (Notifying id slot ∷ rest) w1 alike_notifying whole1;
          pool = pool_alike t (Notifying id slot ∷ rest) alike_notifying;
          build = build_alike t (Notifying id slot ∷ rest) alike_notifying;
          sets = no_sets d (record { world = w1; agenda = Notifying id slot ∷ rest; counted = n }) (let none = g.sets.first in omega (arith, none)) g.sets.alone;
          queues = queues1 (Notifying id slot ∷ rest) as_notifying;
          alive = kept1.alive;
          to_make = alike_notifying.items is_making;
          makes = (let same = alike_notifying.makes in omega (arith, same));
          budget = g.agenda.0 + g.agenda.2;
          good = subst (λ (v : View). AgendaGood d (costs t) (depths t) v (most t) none (Notifying id slot ∷ rest) (g.agenda.0 + g.agenda.2)) (sym kept1.seen)
              (g.agenda.0, g.agenda.1, g.agenda.2, (tt, record { due = g.agenda.3.1.due; readable = readable }), g.agenda.4, omega arith, g.agenda.6);
          spent = (let sum = sum1 in omega (arith, sum));
        })

    -- it waits in the queue of a frozen object
    module _ (readable : is_readable spec ≡ true) (frozen : nat_eq p.o.freezes 0 ≡ false) where
      abbrev o2 : Object
      o2 = record o1 { queue = queued p.o.queue slot }

      abbrev w2 : World
      w2 = with_objects w1 (put w1.objects id (Some o2))

      kept2 : Kept d (costs t) (depths t) (task ∷ rest) w1 w2
      kept2 = write_keeps d (costs t) (depths t) (task ∷ rest) w1 id o1 o2 lives1 (queue_is_like d w1 id slot o1 spec (whole1.objects id o1 lives1) p.has readable) whole1

      some_frozen : 0 < p.o.freezes
      some_frozen = let apart = eqb-false p.o.freezes 0 frozen in omega (arith, apart)

      -- what the notification carries is within what is due: its own part always, its node while the builder makes an object
      cheap : queued_cost d (costs t) (making t) place slot ≤ g.agenda.0
      cheap = go (nat_eq (making t) 0) refl
        where
          go : (b : Bool) → nat_eq (making t) 0 ≡ b → queued_cost d (costs t) (making t) place slot ≤ g.agenda.0
          go true e =
              let own = ap (λ b. cond b (entry (costs t).channels (property place slot)) (node_cost (graph d) (costs t) (property place slot))) e in
              let due = g.agenda.3.1.due.cheap in
              omega (arith, own, due)
          go false e =
              let some = eqb-false (making t) 0 e in
              let none_sets = making_sets_none d (costs t) task rest w.bindings place slot g.objects_first (omega (arith, some)) in
              let same = node_is_due d (costs t) rest (property place slot) none_sets in
              let within = queued_within d (costs t) (making t) place slot in
              let due = g.agenda.3.1.due.cheap in
              omega (arith, same, within, due)

      held_below : 0 < total (frozen_by d id) rest
      held_below = let count = (g.queues id p.o p.lives).count in let some = some_frozen in omega (arith, count, some)

      -- the frames of its notification are above the lowest bracket: the set itself has them, or where a pair is setting the thaw to come
      shallow : suc (below_lowest d id rest) + entry (depths t).channels (property p.o.place slot) ≤ most t
      shallow = go (is_setting_below d rest (property place slot)) refl
        where
          go : (b : Bool) → is_setting_below d rest (property place slot) ≡ b → suc (below_lowest d id rest) + entry (depths t).channels (property p.o.place slot) ≤ most t
          go false none_sets =
              let same = depth_is_due d (costs t) rest (property place slot) (depths t) none_sets in
              let due = g.agenda.3.1.due.shallow in
              let some = held_below in
              let stands = lowest_stands d id rest some in
              let fits = g.agenda.4 in
              let at = ap (λ place. entry (depths t).channels (property place slot)) p.at in
              omega (arith, same, due, stands, fits, at)
          go true sets =
              let none_made : total is_for_builder rest ≡ 0 = none_making (making t) refl sets in
              let deep = lowest_holds d t.well a (view w) (most t) id place (property place slot) p.o.class (g.agenda.3.1.due.is) p.of_class (setting_in d a (costs t) rest place slot sets)
              (setting_has d (costs t) rest place slot sets) none rest g.agenda.2 tt none_made held_below g.agenda.6 in
              let at = ap (λ place. entry (depths t).channels (property place slot)) p.at in
              omega (arith, deep, at)
            where
              none_making : (m : ℕ) → making t ≡ m → is_setting_below d rest (property place slot) ≡ true → total is_for_builder rest ≡ 0
              none_making zero e sets = omega (arith, e)
              none_making (suc m) e sets = absurd (let none = making_sets_none d (costs t) task rest w.bindings place slot g.objects_first (omega (arith, e)) in cc)

      queue2 : QueueGood d (depths t) (most t) rest n id o2
      queue2 =
          let q = queue1 rest as_rest in
          record {
            count = q.count;
            few = q.few;
            none = λ zero. absurd (eqb-false p.o.freezes 0 frozen zero);
            deep = each_queued (λ slot. suc (below_lowest d id rest) + entry (depths t).channels (property p.o.place slot) ≤ most t) p.o.queue slot q.deep shallow;
          }

      sum2 : total (carried d (costs t) (making t)) w2.objects ≤ total (carried d (costs t) (making t)) w.objects + queued_cost d (costs t) (making t) place slot
      sum2 =
          let first = sum1 in
          let sum = sum_over (carried d (costs t) (making t)) refl w1.objects id o1 o2 lives1 in
          let more = queued_more (λ slot. queued_cost d (costs t) (making t) p.o.place slot) p.o.queue slot in
          let at = ap (λ place. queued_cost d (costs t) (making t) place slot) p.at in
          omega (arith, first, sum, more, at)

      queued_good : IsGood d a t.most_counted (record { world = w2; agenda = rest; counted = n })
      queued_good =
          changed_well t w2 rest n
          (record {
            whole = whole_stays d (costs t) (depths t) (task ∷ rest) rest w2 alike_rest kept2.whole;
            pool = pool_alike t rest alike_rest;
            build = build_alike t rest alike_rest;
            sets = no_sets d (record { world = w2; agenda = rest; counted = n }) g.sets.first (none_later is_due_source rest g.sets.alone);
            queues = queues_written d (depths t) (most t) (task ∷ rest) rest n n w1.objects id o1 o2 as_rest (omega arith) lives1 (queues1 (task ∷ rest) as_before) queue2;
            alive = kept2.alive ∙ kept1.alive;
            to_make = alike_rest.items is_making;
            makes = (let same = alike_rest.makes in omega (arith, same));
            budget = g.agenda.2;
            good = subst (λ (v : View). AgendaGood d (costs t) (depths t) v (most t) none rest g.agenda.2) (sym (kept2.seen ∙ kept1.seen)) g.agenda.6;
            spent = (let sum = sum2 in let paid = cheap in omega (arith, sum, paid));
          })

  -- ** the step

  owned : Owns d w id place slot spec
  owned = let due = g.agenda.3.1.due in owns d w g.objects id due.place slot due.spec due.is due.has

  -- what is written is valid
  valid_new : is_valid (class_by d (standing w.objects)) d.types spec (to_write d w spec v) ≡ true
  valid_new =
      let p = owned in
      let read = well.types.specs p.o.class slot spec p.has in
      subst (λ f. is_valid f d.types spec (without_disposed w.objects spec (clamp (class_in w.objects) d.types spec v)) ≡ true) (classes_agree d w g.objects)
      (kept_valid (class_in w.objects) d.types w.objects spec (clamp (class_in w.objects) d.types spec v) (validated d spec read well.types (class_in w.objects) v g.agenda.3.1.kind))

  set_fine : StepIsFine t
  set_fine = go (is_taken d w spec v) refl
    where
      p : Owns d w id place slot spec
      p = owned

      at : spec_at d w.objects id slot ≡ Ok spec
      at = spec_is d w id slot p.o spec p.lives p.has

      there : lives w.objects v ≡ true
      there = lives_there w.objects v g.agenda.3.1.lives

      new : Value
      new = to_write d w spec v

      refused : is_taken d w spec v ≡ false → StepIsFine t
      refused e =
          let said_lines = w.transcript ++ text_of_line d.types (lines.refused id spec.name v) ∷ [] in
          fine_where t (record { world = record w { transcript = said_lines; result = w.result }; agenda = rest; counted = n })
          (ap (uncounted rest n) (refuses d w id slot spec v at g.agenda.3.1.kind there e))
          (done t said_lines w.result
          (record { alike = alike_rest; frozen = λ id. refl; build = λ build. build; good = g.agenda.6 }))

      said_lines : List (List ℕ)
      said_lines = w.transcript ++ text_of_line d.types (lines.set id spec.name (to_write d w spec v)) ∷ []

      raised : (old : Value) → (b : Bool) → notifies spec old (to_write d w spec v) ≡ b → (z : Bool) → nat_eq p.o.freezes 0 ≡ z →
          uncounted rest n (setting d w id slot v) ≡ uncounted rest n (raising_if b (w1 p (to_write d w spec v) valid_new said_lines) id slot) → StepIsFine t
      raised old false e z f does = fine_where t (record { world = w1 p (to_write d w spec v) valid_new said_lines; agenda = rest; counted = n }) does (silent_good p (to_write d w spec v) valid_new said_lines)
      raised old true e true f does =
          let x = w1 p (to_write d w spec v) valid_new said_lines in
          let here = lives1 p (to_write d w spec v) valid_new said_lines in
          fine_where t (record { world = x; agenda = Notifying id slot ∷ rest; counted = n })
          (does
          ∙ (ap (uncounted rest n) (raises_now x id slot (o1 p (to_write d w spec v) valid_new said_lines) here f)
          ∙ ap (λ os. uncounted rest n (starts (with_objects x os) (Notifying id slot ∷ []))) (put_itself x.objects id (o1 p (to_write d w spec v) valid_new said_lines) here)))
          (notified_good p (to_write d w spec v) valid_new said_lines (notifies_readable spec old (to_write d w spec v) e))
      raised old true e false f does =
          let x = w1 p (to_write d w spec v) valid_new said_lines in
          let here = lives1 p (to_write d w spec v) valid_new said_lines in
          let readable = notifies_readable spec old (to_write d w spec v) e in
          fine_where t (record { world = w2 p (to_write d w spec v) valid_new said_lines readable f; agenda = rest; counted = n })
          (does ∙ ap (uncounted rest n) (raises_later x id slot (o1 p (to_write d w spec v) valid_new said_lines) here f))
          (queued_good p (to_write d w spec v) valid_new said_lines readable f)

      go : (b : Bool) → is_taken d w spec v ≡ b → StepIsFine t
      go false e = refused e
      go true e =
          let old = p.good.values slot spec p.has in
          raised old.value (notifies spec old.value (to_write d w spec v)) refl (nat_eq p.o.freezes 0) refl
          (ap (uncounted rest n) (writes d w id slot spec v p.o old.value at g.agenda.3.1.kind there e p.lives old.is))

pub due_sets_are_fine : DueSetsAreFine
due_sets_are_fine id slot v = fine_of (λ d t. set_fine id slot v t)
