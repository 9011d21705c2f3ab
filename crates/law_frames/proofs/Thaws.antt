-- What falls still falls where a program notifies or thaws.
use Rattle.std.proofs.Common.{◌≡◌, inl, inr, refl, sym, ap, subst, ◌∙◌, ℕ, zero, suc, ◌-◌, ◌<◌, Bool, true, false, cond, List, [], ◌∷◌, ◌++◌, Some, Ok, arith}
use Rattle.std.specs.Prelude.{IfOk, nat_lt, option_map}
use Rattle.ui_machine.specs.declared.arm.Arm.TheVariants as arms
use Rattle.ui_machine.specs.Seq.{total}
use Rattle.ui_machine.specs.Definition.{Definition}
use Rattle.ui_machine.specs.Definition.Lookups.{slot_of}
use Rattle.ui_machine.specs.Definition.Programs as words
use Rattle.ui_machine.specs.Definition.Programs.{Instruction}
use Rattle.ui_machine.specs.Definition.Properties.{is_readable}
use Rattle.ui_machine.specs.Instructions.Jumps.{past}
use Rattle.ui_machine.specs.Instructions.Properties.{notify_from_program, slot_at, then_goes_on}
use Rattle.ui_machine.specs.Instructions.Registers.{operand_in}
use Rattle.ui_machine.specs.Instructions.Objects.{thaw_notify}
use Rattle.ui_machine.specs.Outcome.{After, only_if}
use Rattle.ui_machine.specs.Rules.NotifyQueue.{frozen_less, less_frozen, raised}
use Rattle.ui_machine.specs.Rules.Sets.{raising, spec_at}
use Rattle.ui_machine.specs.State.Config.{World, Started, with_objects}
use Rattle.ui_machine.specs.State.Objects.{Object, Objects, changed, living, object_at, put}
use Rattle.ui_machine.specs.State.Tasks.{Notifying, Running, Task, Thawing}
use Rattle.machine_laws.proofs.KeptProofs.{bind_keeps, cond_keeps, kept_at}
use Rattle.law_typing.specs.Good.Freezes.{QueuesGood, frozen_by}
use Rattle.law_typing.specs.Good.Standing.{Standing, standing}
use Rattle.law_typing.specs.Graph.{graph}
use Rattle.law_typing.specs.Graph.Channels.{property}
use Rattle.law_typing.specs.Graph.Depths.{depth}
use Rattle.law_typing.specs.Graph.Tables.{Tables, entry, of_program}
use Rattle.law_typing.specs.Laws.{IsIn}
use Rattle.law_typing.specs.Laws.StepsKeepGood.{IsGood}
use Rattle.law_typing.proofs.Lists.{each_in}
use Rattle.law_steps.proofs.Kept.WriteProofs.{find_here}
use Rattle.law_typing.specs.Rules.Typing as typing
use Rattle.law_steps.specs.Instructed.Running.{at_top}
use Rattle.law_steps.proofs.Instructed.Around.{Due, r, taken}
use Rattle.law_steps.proofs.Instructed.Operand.{Named, named}
use Rattle.law_steps.proofs.Instructed.Typed.{changing_none_is, property_is}
use Rattle.law_steps.proofs.Instructed.ThawProofs.{thaw_leaves}
use Rattle.law_frames.specs.Frames.{waited_height, Falls, FallsAt, IsHeld}
use Rattle.law_frames.proofs.Going.{GoesOn}
use Rattle.law_frames.proofs.Emissions.{known_is}
use Rattle.law_frames.proofs.Leading.{all_each, frozen_somewhere}
use Rattle.law_frames.proofs.Programs.{Led, goes, starts_on, starts_one}
use Rattle.law_frames.proofs.Staying.{held_again, same_place}
use Rattle.law_frames.proofs.Raising.{answered, only_found, operand_same, raises_low, slot_found}
use Rattle.law_frames.proofs.Tasks.{Nothing}

-- ** notifications

module _ {d : Definition} (object : ℕ) (name : List ℕ) (t : Due d (words.notify object name)) (f : FallsAt d t.a.weighed.depths (at_top t.w t.f t.rest t.n)) where
  open t use {w}

  abbrev table : Tables
  table = t.a.weighed.depths

  -- the property that is notified
  abbrev pub Told : ℕ → ℕ → Type 0
  Told id slot = (operand_in w (past t.f) object ≡ Ok id) × (slot_at d w id name ≡ Ok slot)

  notify_operand : (class : ℕ) × (typing.operand d (r t).ks object ≡ Ok class)
  notify_operand =
      let x = changing_none_is (r t).ks (typing.property_of d (r t).ks object name) _ (taken t).typed in
      let p = property_is d (r t).ks object name x.0 x.1 in
      (p.class, p.operand)

  o : Named t object notify_operand.0
  o = named t object notify_operand.0 notify_operand.1

  told_low : (id slot : ℕ) → Told id slot → (o.id ≡ id) × (entry table.channels (property o.o.place slot) < of_program table t.f.program)
  told_low id slot told =
      let same = operand_same t f object notify_operand.0 o id told.0 in
      let number = slot_found d w o.id slot name o.o o.lives (subst (λ id. slot_at d w id name ≡ Ok slot) (sym same) told.1) in
      (same, raises_low t f object notify_operand.0 o (λ class. slot_of d class name) property slot number refl)

  -- what waits is held
  told_held : (v : World) (new : List Task) → ((id : ℕ) → total (frozen_by d id) (new ++ Running (past t.f) ∷ t.rest) ≡ total (frozen_by d id) (Running (past t.f) ∷ t.rest)) →
      IsGood d t.a t.most_counted (record { world = v; agenda = new ++ Running (past t.f) ∷ t.rest; counted = suc t.n }) → GoesOn Told w v → Falls d table (standing v.objects) v.handlers (Running (past t.f) ∷ t.rest) →
      (id slot : ℕ) (x : Object) → living v.objects id ≡ Some x → IsIn slot x.queue → Told id slot → IsHeld d table (standing v.objects) id (entry table.channels (property x.place slot)) (Running (past t.f) ∷ t.rest)
  told_held v new free good goes falls id slot x is there told =
      let low = told_low id slot told in
      let here : living v.objects o.id ≡ Some x = subst (λ i. living v.objects i ≡ Some x) (sym low.0) is in
      let place : x.place ≡ o.o.place = goes.places o.id o.o x o.lives here in
      let all = frozen_somewhere d table (depth (graph d) table) (new ++ Running (past t.f) ∷ t.rest) (suc t.n) v good.queues id slot x is there in
      let some = free id in
      held_again d table (standing v.objects) v.handlers id (entry table.channels (property x.place slot)) (Running (past t.f) ∷ t.rest) falls
      (subst (λ place. entry table.channels (property place slot) < of_program table t.f.program) (sym place) low.1) (omega (arith, all, some))

  tells_none : (v : World) → Led t f Told (record { world = v; tasks = Running (past t.f) ∷ [] })
  tells_none v = starts_on t f Told v [] (past t.f) refl (λ good goes falls. falls) (λ id slot o is there. refl) (λ good goes falls. told_held v [] (λ id. refl) good goes falls)

  tells_one : (v : World) (id slot : ℕ) → Told id slot → Led t f Told (record { world = v; tasks = Notifying id slot ∷ Running (past t.f) ∷ [] })
  tells_one v id slot told =
      let low = told_low id slot told in
      starts_on t f Told v (Notifying id slot ∷ []) (past t.f) refl
      (λ good goes falls. (
        record {
          place = o.o.place;
          is = (let stands : standing w.objects id ≡ Some o.o.place = ap (standing w.objects) (sym low.0) ∙ ap (option_map (λ (o : Object). o.place)) o.lives in
              same_place w.objects v.objects goes.places id o.o.place good.agenda.3.1.due.place stands good.agenda.3.1.due.is ∙ stands);
          under = low.1;
          apart = tt;
        },
        falls,
      ))
      (λ id slot o is there. refl)
      (λ good goes falls i s x is there may. inr (told_held v (Notifying id slot ∷ []) (λ id. omega arith) good goes falls i s x is there may))

  pub notifies : IfOk (notify_from_program d w (past t.f) object name) (Led t f Told)
  unfolding notify_from_program then_goes_on raising
  notifies = bind_keeps (operand_in w (past t.f) object) _ (Led t f Told) (λ id asked. bind_keeps (slot_at d w id name) _ (Led t f Told) (λ slot found.
      bind_keeps (spec_at d w.objects id slot) _ (Led t f Told) (λ s _. cond_keeps (is_readable s) _ _ (Led t f Told)
      (bind_keeps (raising w id slot) _ (Led t f Told) (λ s is. kept_at (λ (s : Started). Led t f Told (record { world = s.world; tasks = s.tasks ++ Running (past t.f) ∷ [] })) (raising w id slot) s
      (bind_keeps (changed w.objects id (raised slot)) _ _ (λ r _. by (with_objects w r.state) id slot (asked, found) r.answer)) is))
      (tells_none w))))
    where
      by : (v : World) (id slot : ℕ) → Told id slot → (b : Bool) → Led t f Told (record { world = v; tasks = cond b (Notifying id slot ∷ []) [] ++ Running (past t.f) ∷ [] })
      by v id slot told true = tells_one v id slot told
      by v id slot told false = tells_none v

-- ** thaws

-- what a thaw notifies waited, and no freeze is left
pub thaw_answer : (os : Objects) (id : ℕ) (r : After Objects (List ℕ)) → changed os id frozen_less ≡ Ok r → (slot : ℕ) → IsIn slot r.answer →
    (o : Object) × (living os id ≡ Some o) × IsIn slot o.queue × (new : Object) × (living r.state id ≡ Some new) × (new.place ≡ o.place) × (new.freezes ≡ 0)
unfolding changed
thaw_answer os id r e slot there =
    let x = answered (object_at os id) _ r e in
    let y = answered (frozen_less x.0) _ r x.2 in
    let lives = known_is arms.Operand (living os id) x.0 x.1 in
    let m = only_is (nat_lt 0 x.0.freezes) (less_frozen (x.0.freezes - 1) x.0) y.0 y.1 in
    let whole : record { state = put os id (Some y.0.state); answer = y.0.answer } ≡ r = (let f = y.2 in cc f) in
    let answer : y.0.answer ≡ r.answer = ap (λ (r : After Objects (List ℕ)). r.answer) whole in
    let state : put os id (Some y.0.state) ≡ r.state = ap (λ (r : After Objects (List ℕ)). r.state) whole in
    let waited = by (x.0.freezes - 1) x.0 slot (subst (λ (m : After Object (List ℕ)). IsIn slot m.answer) (sym m) (subst (IsIn slot) (sym answer) there)) in (
      x.0,
      lives,
      waited.0,
      y.0.state,
      subst (λ z. living z id ≡ Some y.0.state) state (find_here os id x.0 y.0.state lives),
      sym (ap (λ (m : After Object (List ℕ)). m.state.place) m) ∙ waited.1,
      sym (ap (λ (m : After Object (List ℕ)). m.state.freezes) m) ∙ waited.2,
    )
  where
    only_is : (b : Bool) (x y : After Object (List ℕ)) → only_if b arms.Freeze (Ok x) ≡ Ok y → x ≡ y
    only_is b x y e = only_found b arms.Freeze x y e

    by : (k : ℕ) (o : Object) (slot : ℕ) → IsIn slot (less_frozen k o).answer → IsIn slot o.queue × ((less_frozen k o).state.place ≡ o.place) × ((less_frozen k o).state.freezes ≡ 0)
    by zero o slot there = (each_in (λ x. IsIn x o.queue) (less_frozen zero o).answer ((thaw_leaves zero o).due (λ x. IsIn x o.queue) (λ z. all_each (λ x. IsIn x o.queue) o.queue (λ x here. here))) slot there, refl, refl)
    by (suc k) o slot there = absurd there

-- where nothing holds the object frozen, nothing is held
pub none_held : (d : Definition) (depths : Tables) (s : Standing) (id n : ℕ) (tasks : List Task) → IsHeld d depths s id n tasks → 0 < total (frozen_by d id) tasks
none_held d depths s id n [] held = absurd held
none_held d depths s id n (task ∷ tasks) (inl x) = let some = x.0 in omega (arith, some)
none_held d depths s id n (task ∷ tasks) (inr held) = let some = none_held d depths s id n tasks held in omega (arith, some)

module _ {d : Definition} (object : ℕ) (t : Due d (words.thaw object)) (f : FallsAt d t.a.weighed.depths (at_top t.w t.f t.rest t.n)) where
  open t use {w}

  pub thaws : IfOk (thaw_notify w (past t.f) object) (Led t f Nothing)
  unfolding thaw_notify
  thaws = bind_keeps (operand_in w (past t.f) object) _ (Led t f Nothing) (λ id _. bind_keeps (changed w.objects id frozen_less) _ (Led t f Nothing) (λ x is.
      starts_one t f (with_objects w x.state) (Thawing id x.answer) (past t.f) refl (λ id. refl)
      (λ good goes. all_each _ x.answer (λ slot there. low id x is good.queues slot there))))
    where
      low : (id : ℕ) (x : After Objects (List ℕ)) → changed w.objects id frozen_less ≡ Ok x →
          QueuesGood d t.a.weighed.depths (depth (graph d) t.a.weighed.depths) (Thawing id x.answer ∷ Running (past t.f) ∷ t.rest) (suc t.n) x.state → (slot : ℕ) → IsIn slot x.answer →
          waited_height d t.a.weighed.depths slot (standing x.state id) < of_program t.a.weighed.depths t.f.program
      low id x is queues slot there =
          let y = thaw_answer w.objects id x is slot there in
          let n = entry t.a.weighed.depths.channels (property y.0.place slot) in
          let held = each_in (λ slot. IsHeld d t.a.weighed.depths (standing w.objects) id (entry t.a.weighed.depths.channels (property y.0.place slot)) (Running t.f ∷ t.rest)) y.0.queue (f.queues id y.0 y.1) slot y.2 in
          let count = (queues id y.3 y.4).count in
          let none = y.6 in
          let height : waited_height d t.a.weighed.depths slot (standing x.state id) ≡ n =
          ap (waited_height d t.a.weighed.depths slot) (ap (option_map (λ (o : Object). o.place)) y.4) ∙ ap (λ p. entry t.a.weighed.depths.channels (property p slot)) y.5 in
          by n held (omega (arith, count, none)) height
        where
          by : (n : ℕ) → IsHeld d t.a.weighed.depths (standing w.objects) id n (Running t.f ∷ t.rest) → total (frozen_by d id) t.rest ≡ 0 → waited_height d t.a.weighed.depths slot (standing x.state id) ≡ n →
              waited_height d t.a.weighed.depths slot (standing x.state id) < of_program t.a.weighed.depths t.f.program
          by n (inl h) none same = let low = h.1 in omega (arith, low, same)
          by n (inr h) none same = absurd (let some = none_held d t.a.weighed.depths (standing w.objects) id n t.rest h in omega (arith, some, none))
