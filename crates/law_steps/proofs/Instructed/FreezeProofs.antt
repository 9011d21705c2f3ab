-- A program freezes an object.
use Rattle.std.proofs.Common.{◌≡◌, refl, sym, ap, subst, ◌∙◌, ℕ, zero, suc, ◌+◌, ◌≤◌, Bool, true, false, cond, List, ◌∷◌, drop, Option, None, Some, Ok, arith, lt-ltb}
use Rattle.std.specs.Prelude.{nat_eq, nat_lt}
use Rattle.std.proofs.lemmas.Bool.{eqb-true, eqb-false}
use Rattle.ui_machine.specs.Seq.{read, total}
use Rattle.ui_machine.specs.Definition.{Definition}
use Rattle.ui_machine.specs.Definition.Programs.{Instruction}
use Rattle.ui_machine.specs.Definition.Programs as words
use Rattle.ui_machine.specs.State.Objects.{Object, Objects, living, put, changed}
use Rattle.ui_machine.specs.State.Tasks.{Frame, Running, Task}
use Rattle.ui_machine.specs.State.Config.{World, with_objects}
use Rattle.ui_machine.specs.Rules.NotifyQueue.{most_freezes}
use Rattle.ui_machine.specs.Instructions.{in_front}
use Rattle.ui_machine.specs.Instructions.Registers.{operand_in}
use Rattle.ui_machine.specs.Instructions.Objects.{freezing}
use Rattle.ui_machine.specs.Instructions.Jumps.{past}
use Rattle.ui_machine.specs.Steps.{most_steps, left}
use Rattle.law_typing.specs.Rules.Typing as typing
use Rattle.law_typing.specs.Rules.Brackets.{opened, less_one}
use Rattle.law_typing.specs.Graph.{graph}
use Rattle.law_typing.specs.Graph.Depths.{depth}
use Rattle.law_typing.specs.Laws.StepsKeepGood.{IsGood}
use Rattle.law_typing.specs.Good.Standing.{standing, view, View, RegistersFit}
use Rattle.law_typing.specs.Good.Programs.{code_left}
use Rattle.law_typing.specs.Good.Freezes.{frozen_by, QueueGood, QueuesGood, carried}
use Rattle.law_static.specs.Code.{gone_on}
use Rattle.law_static.proofs.CodeProofs.{from_at}
use Rattle.law_steps.specs.Kept.Agenda.{Serves}
use Rattle.law_steps.specs.Kept.Write.{Kept}
use Rattle.law_steps.proofs.Kept.WriteProofs.{find_here, find_apart, write_keeps}
use Rattle.law_steps.proofs.Kept.DisposeProofs.{sum_put}
use Rattle.law_steps.proofs.Kept.ChangesProofs.{freeze_is_like}
use Rattle.law_steps.specs.Instructed.Running.{at_top}
use Rattle.law_steps.specs.Instructed.Freezing.{FreezesAreFine}
use Rattle.law_steps.proofs.Instructed.Around.{Due, making, r, here, taken, code_is, goes_to, past_good, left_steps, steps_left, fine_where, waits_not, StepIsFine, fine_of}
use Rattle.law_steps.proofs.Instructed.Written.{serves_itself}
use Rattle.law_steps.proofs.Instructed.Typed.{changing_none_is}
use Rattle.law_steps.proofs.Instructed.Operand.{Named, named}
use Rattle.law_steps.proofs.Instructed.Counts.{names_it, frozen_is, total_less}

-- the object once more frozen
abbrev frozen : Object → Object
frozen o = record o { freezes = suc o.freezes }

freeze_leads : (w : World) (rest : List Task) (f : Frame) (n object id : ℕ) (o : Object) → operand_in w f object ≡ Ok id → living w.objects id ≡ Some o →
    nat_lt o.freezes most_freezes ≡ true → left n (in_front rest (freezing w f object)) ≡ Ok (at_top (with_objects w (put w.objects id (Some (frozen o)))) f rest n)
unfolding freezing changed in_front left
freeze_leads w rest f n object id o e is room = rw (e, is, room) refl

-- a sum over the objects, where one is written over by one that counts the same
sum_same : (f : Option Object → ℕ) → f None ≡ 0 → (os : Objects) (id : ℕ) (o new : Object) → living os id ≡ Some o → f (Some new) ≡ f (Some o) → total f (put os id (Some new)) ≡ total f os
sum_same f none os zero o new is same = absurd (cc)
sum_same f none os (suc i) o new is same = let h = sum_put f none (Some new) os i in let s = ap f is in omega (arith, h, s, same)

module _ {d : Definition} (object : ℕ) (t : Due d (words.freeze object)) (x : (class : ℕ) × Named t object class) where
  open t use {a, most_counted, w, f, rest, n, g}

  abbrev id : ℕ
  id = x.1.id

  abbrev o : Object
  o = x.1.o

  abbrev v : World
  v = with_objects w (put w.objects id (Some (frozen o)))

  abbrev next : Frame
  next = gone_on f f.registers

  kept : Kept d a.weighed.costs a.weighed.depths (Running f ∷ rest) w v
  kept =
      write_keeps d a.weighed.costs a.weighed.depths (Running f ∷ rest) w id o (frozen o) x.1.lives (freeze_is_like d w id o x.1.good)
      (record { objects = g.objects; handlers = g.handlers; bindings = g.bindings; sources = g.sources; held = g.held; floating = g.floating; objects_first = g.objects_first })

  -- one more bracket is open on it
  one_more : (j : ℕ) → frozen_by d j (Running next) ≡ cond (nat_eq id j) 1 0 + frozen_by d j (Running f)
  one_more j =
      let code = drop (suc f.at) (r t).b.code in
      let open_next : opened (code_left d next) ≡ opened code = ap opened (ap (drop (suc f.at)) (code_is t)) in
      let open_here : opened (code_left d f) ≡ less_one object (opened code) = ap opened (ap (drop f.at) (code_is t) ∙ from_at (r t).b.code f.at (words.freeze object) (here t)) in
      let names = λ (r : ℕ). names_it j (read None f.registers r) in
      let before : frozen_by d j (Running f) ≡ total names (less_one object (opened code)) = frozen_is d j f ∙ ap (total names) open_here in
      let after : frozen_by d j (Running next) ≡ total names (opened code) = frozen_is d j next ∙ ap (total names) open_next in
      let split = total_less names object (opened code) (taken t).brackets in
      let named : names object ≡ cond (nat_eq id j) 1 0 = ap (names_it j) x.1.names in
      omega (arith, before, after, split, named)

  queues_good : QueuesGood d a.weighed.depths (depth (graph d) a.weighed.depths) (Running next ∷ rest) (suc n) v.objects
  queues_good j y e = go (nat_eq id j) refl
    where
      here_is : id ≡ j → (y ≡ frozen o) × (living w.objects j ≡ Some o)
      here_is same = ((let f = ap (living v.objects) same in let h = find_here w.objects id o (frozen o) x.1.lives in let k = sym e ∙ (sym f ∙ h) in cc), ap (living w.objects) (sym same) ∙ x.1.lives)

      counts : (b : Bool) → nat_eq id j ≡ b → frozen_by d j (Running next) ≡ cond b 1 0 + frozen_by d j (Running f)
      counts b s = one_more j ∙ ap (λ b. cond b 1 0 + frozen_by d j (Running f)) s

      again : y ≡ frozen o → living w.objects j ≡ Some o → frozen_by d j (Running next) ≡ 1 + frozen_by d j (Running f) →
          QueueGood d a.weighed.depths (depth (graph d) a.weighed.depths) (Running next ∷ rest) (suc n) j y
      again same is more =
          let q = g.queues j o is in
          subst (QueueGood d a.weighed.depths (depth (graph d) a.weighed.depths) (Running next ∷ rest) (suc n) j) (sym same)
          (record {
            count = (let old = q.count in omega (arith, old, more));
            few = (let old = q.few in omega (arith, old));
            none = λ z. absurd (omega (arith, z));
            deep = q.deep;
          })

      other : living w.objects j ≡ Some y → frozen_by d j (Running next) ≡ 0 + frozen_by d j (Running f) →
          QueueGood d a.weighed.depths (depth (graph d) a.weighed.depths) (Running next ∷ rest) (suc n) j y
      other is as_much =
          let q = g.queues j y is in
          record {
            count = (let old = q.count in omega (arith, old, as_much));
            few = (let old = q.few in omega (arith, old));
            none = q.none;
            deep = q.deep;
          }

      go : (b : Bool) → nat_eq id j ≡ b → QueueGood d a.weighed.depths (depth (graph d) a.weighed.depths) (Running next ∷ rest) (suc n) j y
      go true s = let h = here_is (eqb-true id j s) in again h.0 h.1 (counts true s)
      go false s = other (sym (find_apart w.objects id (frozen o) j (eqb-false id j s)) ∙ e) (counts false s)

  freezes_well : typing.after d (r t).p (r t).ks (words.freeze object) ≡ (r t).ks → IsGood d a most_counted (at_top v next rest (suc n))
  freezes_well kinds_are =
      goes_to t v next (left_steps t)
      (record {
        whole = kept.whole;
        served = subst (Serves d rest (view w)) (sym kept.seen) (serves_itself d rest (view w));
        pool = g.peers;
        same = refl;
        running =
            past_good t (standing v.objects) f.registers refl (r t).counted
            (subst (λ (v : View). RegistersFit d v.stands (typing.after d (r t).p (r t).ks (words.freeze object)) f.registers) (sym kept.seen)
            (subst (λ ks. RegistersFit d (standing w.objects) ks f.registers) (sym kinds_are) (r t).fit));
        queues = queues_good;
        few = (let same = kept.alive in omega (arith, same));
        queued = (let left = steps_left t in let same = sum_same (carried d a.weighed.costs (making t)) refl w.objects id o (frozen o) x.1.lives refl in omega (arith, left, same));
      })

  room : most_counted ≤ most_steps → nat_lt o.freezes most_freezes ≡ true
  room within =
      let few = (g.queues id o x.1.lives).few in
      let spent = g.spent in
      lt-ltb o.freezes most_freezes (omega (arith, few, spent, within))

freeze_fine : {d : Definition} (object : ℕ) (t : Due d (words.freeze object)) → StepIsFine t
freeze_fine {d} object t within =
    let k = changing_none_is (r t).ks (typing.operand d (r t).ks object) _ (taken t).typed in
    let x : (class : ℕ) × Named t object class = (k.0, named t object k.0 k.1) in
    fine_where t within (at_top (with_objects t.w (put t.w.objects x.1.id (Some (frozen x.1.o)))) (past t.f) t.rest (suc t.n))
    (freeze_leads t.w t.rest (past t.f) (suc t.n) object x.1.id x.1.o x.1.asked x.1.lives (room object t x within))
    (waits_not t (with_objects t.w (put t.w.objects x.1.id (Some (frozen x.1.o)))) (gone_on t.f t.f.registers) (freezes_well object t x k.2))

pub freezes_are_fine : FreezesAreFine
freezes_are_fine object = fine_of (λ d t. freeze_fine object t)
