-- A program thaws an object: its last thaw makes what waited in the queue due.
use Rattle.std.proofs.Common.{◌≡◌, refl, sym, ap, subst, ◌∙◌, ℕ, zero, suc, ◌+◌, ◌-◌, ◌≤◌, Bool, true, false, cond, List, [], ◌∷◌, ◌++◌, length, drop, Option, None, Some, Ok, arith, lt-ltb}
use Rattle.std.specs.Prelude.{nat_eq, option_map, reverse}
use Rattle.std.proofs.lemmas.Bool.{eqb-true, eqb-false, eq-eqb}
use Rattle.std.proofs.lemmas.List.{reverse-append}
use Rattle.ui_machine.specs.declared.arm.Arm.TheVariants as arms
use Rattle.ui_machine.specs.Outcome.{only_if}
use Rattle.ui_machine.specs.Seq.{read, total}
use Rattle.ui_machine.specs.Definition.Places.{Place}
use Rattle.ui_machine.specs.Definition.Properties.{Spec, is_readable}
use Rattle.ui_machine.specs.Definition.{Definition}
use Rattle.ui_machine.specs.Definition.Lookups.{spec_of}
use Rattle.ui_machine.specs.Definition.Programs as words
use Rattle.ui_machine.specs.State.Objects.{Object, living, put, changed}
use Rattle.ui_machine.specs.State.Tasks.{Frame, Task, Thawing, Running}
use Rattle.ui_machine.specs.State.Config.{World, Config, with_objects}
use Rattle.ui_machine.specs.Rules.NotifyQueue.{less_frozen, frozen_less}
use Rattle.ui_machine.specs.Rules.Build.{is_making}
use Rattle.ui_machine.specs.Instructions.{in_front}
use Rattle.ui_machine.specs.Instructions.Registers.{operand_in}
use Rattle.ui_machine.specs.Instructions.Objects.{thaw_notify}
use Rattle.ui_machine.specs.Instructions.Jumps.{past}
use Rattle.ui_machine.specs.Steps.{left}
use Rattle.law_typing.specs.Rules.RegisterKinds.{class_at}
use Rattle.law_typing.specs.Rules.Typing as typing
use Rattle.law_typing.specs.Rules.Brackets.{opened}
use Rattle.law_typing.specs.Graph.{graph, start_of}
use Rattle.law_typing.specs.Graph.Costs.{other_end, start_cost}
use Rattle.law_typing.specs.Graph.Channels.{Channel, property, spec_at, spec_if}
use Rattle.law_typing.specs.Graph.Tables.{Tables, entry}
use Rattle.law_typing.specs.Graph.Depths.{depth}
use Rattle.law_typing.specs.Verdict.Accepted.{Each}
use Rattle.law_typing.specs.Laws.StepsKeepGood.{IsGood}
use Rattle.law_typing.specs.Good.Standing.{Standing, standing, view, View, RegistersFit}
use Rattle.law_typing.specs.Good.Objects.{PeersGood}
use Rattle.law_typing.specs.Good.ComingDown.{none}
use Rattle.law_typing.specs.Good.Programs.{code_left}
use Rattle.law_typing.specs.Good.Agenda.{frames}
use Rattle.law_typing.specs.Good.DueCosts.{is_setting_below, over_cost, due_cost, due_depth, queued_cost}
use Rattle.law_typing.specs.Good.Emissions.{ThawingGood}
use Rattle.law_typing.specs.Good.Freezes.{frozen_by, below_lowest, QueueGood, QueuesGood, carried}
use Rattle.law_typing.proofs.Lists.{each_append}
use Rattle.law_static.specs.Code.{gone_on}
use Rattle.law_static.proofs.PlanCostProofs.{total_append}
use Rattle.law_static.proofs.CodeProofs.{from_at}
use Rattle.law_static.proofs.StartProofs.{thaws_reach, pairs_pay, due_within, queued_has}
use Rattle.law_static.proofs.SourceProofs.{each_to}
use Rattle.law_steps.specs.Kept.Agenda.{Serves}
use Rattle.law_steps.specs.Kept.Write.{Kept}
use Rattle.law_steps.proofs.Kept.WriteProofs.{find_here, find_apart, write_keeps}
use Rattle.law_steps.proofs.Kept.ChangesProofs.{thaw_is_like}
use Rattle.law_steps.specs.Instructed.Thawing.{ThawsAreFine}
use Rattle.law_steps.proofs.Instructed.Around.{Due, making, r, here, taken, code_is, good_of, above, past_good, left_steps, steps_left, fine_where, none_into, StepIsFine, fine_of}
use Rattle.law_steps.proofs.Instructed.Written.{serves_itself}
use Rattle.law_steps.proofs.Instructed.Typed.{changing_none_is}
use Rattle.law_steps.proofs.Instructed.Operand.{Named, named}
use Rattle.law_steps.proofs.Instructed.Counts.{names_it, frozen_is}
use Rattle.law_steps.proofs.Instructed.Started.{Unseen, unseen}
use Rattle.law_steps.proofs.Instructed.NotifyProofs.{sum_over}

-- ** lists

back : {A : Type 0} (x : A) (xs : List A) → reverse (x ∷ xs) ≡ reverse xs ++ x ∷ []
back x xs = reverse-append (x ∷ []) xs

-- what is counted and what holds of a list, said of it in reverse
total_back : {A : Type 0} (f : A → ℕ) (xs : List A) → total f (reverse xs) ≡ total f xs
total_back f [] = refl
total_back f (x ∷ xs) =
    let h = total_back f xs in
    let split = total_append f (reverse xs) (x ∷ []) in
    let turned = ap (total f) (back x xs) in
    omega (arith, h, split, turned)

each_back : {A : Type 0} (P : A → Type 0) (xs : List A) → Each P xs → Each P (reverse xs)
each_back P [] all = tt
each_back P (x ∷ xs) all = subst (Each P) (sym (back x xs)) (each_append P (reverse xs) (x ∷ []) (each_back P xs all.1) (all.0, tt))

pub each_two : {A : Type 0} (P Q R : A → Type 0) (xs : List A) → ((x : A) → P x → Q x → R x) → Each P xs → Each Q xs → Each R xs
each_two P Q R [] f one two = tt
each_two P Q R (x ∷ xs) f one two = (f x one.0 two.0, each_two P Q R xs f one.1 two.1)

pub total_at_most : {A : Type 0} (f g : A → ℕ) (xs : List A) → ((x : A) → f x ≤ g x) → total f xs ≤ total g xs
total_at_most f g [] less = omega arith
total_at_most f g (x ∷ xs) less = let h = less x in let rest = total_at_most f g xs less in omega (arith, h, rest)

pub total_both : {A : Type 0} (f g : A → ℕ) (xs : List A) → total (λ x. f x + g x) xs ≡ total f xs + total g xs
total_both f g [] = refl
total_both f g (x ∷ xs) = let h = total_both f g xs in omega (arith, h)

-- what is due costs no more than its own part and the way over
due_parts : (d : Definition) (costs : Tables) (below : List Task) (c : Channel) → due_cost d costs below c ≤ entry costs.channels c + over_cost costs (other_end (graph d) c)
due_parts d costs below c = go (is_setting_below d below c)
  where
    go : (b : Bool) → entry costs.channels c + cond b 0 (over_cost costs (other_end (graph d) c)) ≤ entry costs.channels c + over_cost costs (other_end (graph d) c)
    go true = omega arith
    go false = omega arith

-- ** an object with one freeze less

-- what waited is in the queue or due, and is due only where no freeze is left
pub record Thawed (left : ℕ) (o : Object) (new : Object) (slots : List ℕ) : Type 1 where
  pub place : new.place ≡ o.place
  pub count : new.freezes ≡ left
  pub costs : (f : ℕ → ℕ) → total f slots + total f new.queue ≡ total f o.queue
  pub waits : (P : ℕ → Type 0) → Each P o.queue → Each P new.queue
  pub due : (P : ℕ → Type 0) → (left ≡ 0 → Each P o.queue) → Each P slots
  pub none : left ≡ 0 → new.queue ≡ []

pub thaw_leaves : (left : ℕ) (o : Object) → Thawed left o (less_frozen left o).state (less_frozen left o).answer
thaw_leaves zero o = record {
  place = refl;
  count = refl;
  costs = λ f. (let h = total_back f o.queue in omega (arith, h));
  waits = λ P all. tt;
  due = λ P all. each_back P o.queue (all refl);
  none = λ z. refl;
}
thaw_leaves (suc n) o = record {
  place = refl;
  count = refl;
  costs = λ f. omega arith;
  waits = λ P all. all;
  due = λ P all. tt;
  none = λ z. absurd (omega (arith, z));
}

-- what is left of a thaw is good where each notification is, and all of them together cost no more than this
pub thawing_good : (d : Definition) (costs depths : Tables) (s : Standing) (below : List Task) (id place steps deep : ℕ) (slots : List ℕ) → s id ≡ Some place →
    total (λ slot. due_cost d costs below (property place slot)) slots ≤ steps →
    Each (λ slot. (due_depth d depths below (property place slot) ≤ deep) × (spec : Spec) × (spec_at d place slot ≡ Some spec) × (is_readable spec ≡ true)) slots →
    ThawingGood d costs depths s below id slots steps deep
thawing_good d costs depths s below id place steps deep [] is cheap each = tt
thawing_good d costs depths s below id place steps deep (slot ∷ slots) is cheap each = (place, is, cheap, each)

-- ** what the machine does

pub less_is : (o : Object) (less : ℕ) → o.freezes ≡ suc less → frozen_less o ≡ Ok (less_frozen less o)
less_is o less count =
    ap (λ b. only_if b arms.Freeze (Ok (less_frozen (o.freezes - 1) o))) (lt-ltb 0 o.freezes (omega (arith, count)))
    ∙ ap (λ (n : ℕ). Ok (less_frozen n o)) (let e : o.freezes - 1 ≡ less = omega (arith, count) in e)

thaw_leads : (w : World) (rest : List Task) (f : Frame) (n object id : ℕ) (o : Object) (less : ℕ) → operand_in w f object ≡ Ok id → living w.objects id ≡ Some o → o.freezes ≡ suc less →
    left n (in_front rest (thaw_notify w f object))
    ≡ Ok (record {
      world = with_objects w (put w.objects id (Some (less_frozen less o).state));
      agenda = Thawing id (less_frozen less o).answer ∷ Running f ∷ rest;
      counted = n;
    })
unfolding thaw_notify changed in_front left
thaw_leads w rest f n object id o less e is count = rw (e, is, less_is o less count) refl

module _ {d : Definition} (object : ℕ) (t : Due d (words.thaw object)) (x : (class : ℕ) × Named t object class) where
  open t use {a, most_counted, w, f, rest, n, g}

  abbrev id : ℕ
  id = x.1.id

  abbrev o : Object
  o = x.1.o

  abbrev next : Frame
  next = gone_on f f.registers

  -- one bracket less is open on it
  one_less : (j : ℕ) → frozen_by d j (Running f) ≡ cond (nat_eq id j) 1 0 + frozen_by d j (Running next)
  one_less j =
      let code = drop (suc f.at) (r t).b.code in
      let open_next : opened (code_left d next) ≡ opened code = ap opened (ap (drop (suc f.at)) (code_is t)) in
      let open_here : opened (code_left d f) ≡ object ∷ opened code = ap opened (ap (drop f.at) (code_is t) ∙ from_at (r t).b.code f.at (words.thaw object) (here t)) in
      let names = λ (r : ℕ). names_it j (read None f.registers r) in
      let before : frozen_by d j (Running f) ≡ total names (object ∷ opened code) = frozen_is d j f ∙ ap (total names) open_here in
      let after : frozen_by d j (Running next) ≡ total names (opened code) = frozen_is d j next ∙ ap (total names) open_next in
      let named : names object ≡ cond (nat_eq id j) 1 0 = ap (names_it j) x.1.names in
      omega (arith, before, after, named)

  here_less : frozen_by d id (Running f) ≡ suc (frozen_by d id (Running next))
  here_less = let one = one_less id in let same = ap {B = ℕ} (λ b. cond b 1 0) (eq-eqb id id refl) in omega (arith, one, same)

  -- what is left of its freezes
  abbrev less : ℕ
  less = frozen_by d id (Running next) + total (frozen_by d id) rest

  count_is : o.freezes ≡ suc less
  count_is = let q = (g.queues id o x.1.lives).count in let one = here_less in omega (arith, q, one)

  abbrev new : Object
  new = (less_frozen less o).state

  abbrev slots : List ℕ
  slots = (less_frozen less o).answer

  left_of : Thawed less o new slots
  left_of = thaw_leaves less o

  abbrev v : World
  v = with_objects w (put w.objects id (Some new))

  abbrev agenda : List Task
  agenda = Thawing id slots ∷ Running next ∷ rest

  kept : Kept d a.weighed.costs a.weighed.depths (Running f ∷ rest) w v
  kept =
      write_keeps d a.weighed.costs a.weighed.depths (Running f ∷ rest) w id o new x.1.lives (thaw_is_like d w id less o x.1.good count_is)
      (record { objects = g.objects; handlers = g.handlers; bindings = g.bindings; sources = g.sources; held = g.held; floating = g.floating; objects_first = g.objects_first })

  -- ** the queues

  -- where no program holds it frozen any more its queue is empty; else the lowest bracket is where it was
  lowest : (j : ℕ) → (b : Bool) → nat_eq (total (frozen_by d j) (Running next ∷ rest)) 0 ≡ b → (place : ℕ) (queue : List ℕ) →
      (total (frozen_by d j) (Running next ∷ rest) ≡ 0 → queue ≡ []) →
      Each (λ slot. suc (below_lowest d j (Running f ∷ rest)) + entry a.weighed.depths.channels (property place slot) ≤ depth (graph d) a.weighed.depths) queue →
      Each (λ slot. suc (cond b (frames (Running next ∷ rest)) (below_lowest d j (Running next ∷ rest))) + entry a.weighed.depths.channels (property place slot) ≤ depth (graph d) a.weighed.depths) queue
  lowest j true z place queue empty deep = subst (Each _) (sym (empty (eqb-true (total (frozen_by d j) (Running next ∷ rest)) 0 z))) tt
  lowest j false z place queue empty deep = deep

  queues_good : QueuesGood d a.weighed.depths (depth (graph d) a.weighed.depths) agenda (suc n) v.objects
  queues_good j y e = go (nat_eq id j) refl
    where
      here_is : id ≡ j → y ≡ new
      here_is same = let f = ap (living v.objects) same in let h = find_here w.objects id o new x.1.lives in let k = sym e ∙ (sym f ∙ h) in cc

      this : QueueGood d a.weighed.depths (depth (graph d) a.weighed.depths) agenda (suc n) id new
      this =
          let q = g.queues id o x.1.lives in
          record {
            count = (let left = left_of.count in omega (arith, left));
            few = (let old = q.few in let left = left_of.count in let count = count_is in omega (arith, old, left, count));
            none = λ z. left_of.none (sym left_of.count ∙ z);
            deep =
                lowest id (nat_eq (total (frozen_by d id) (Running next ∷ rest)) 0) refl new.place new.queue (λ z. left_of.none z)
                (subst (λ place. Each (λ slot. suc (below_lowest d id (Running f ∷ rest)) + entry a.weighed.depths.channels (property place slot) ≤ depth (graph d) a.weighed.depths) new.queue)
                (sym left_of.place) (left_of.waits _ q.deep));
          }

      other : nat_eq id j ≡ false → living w.objects j ≡ Some y → QueueGood d a.weighed.depths (depth (graph d) a.weighed.depths) agenda (suc n) j y
      other apart is =
          let q = g.queues j y is in
          let same : frozen_by d j (Running f) ≡ frozen_by d j (Running next) = (let one = one_less j in let zero = ap {B = ℕ} (λ b. cond b 1 0) apart in omega (arith, one, zero)) in
          let count : y.freezes ≡ total (frozen_by d j) (Running next ∷ rest) = (let old = q.count in omega (arith, old, same)) in
          record {
            count = (let c = count in omega (arith, c));
            few = (let old = q.few in omega (arith, old));
            none = q.none;
            deep = lowest j (nat_eq (total (frozen_by d j) (Running next ∷ rest)) 0) refl y.place y.queue (λ z. q.none (count ∙ z)) q.deep;
          }

      go : (b : Bool) → nat_eq id j ≡ b → QueueGood d a.weighed.depths (depth (graph d) a.weighed.depths) agenda (suc n) j y
      go true s =
          let same = eqb-true id j s in
          subst (QueueGood d a.weighed.depths (depth (graph d) a.weighed.depths) agenda (suc n) j) (sym (here_is same))
          (subst (λ j. QueueGood d a.weighed.depths (depth (graph d) a.weighed.depths) agenda (suc n) j new) same this)
      go false s = other s (sym (find_apart w.objects id new j (eqb-false id j s)) ∙ e)

  -- ** what is due

  -- what the queue might cost
  abbrev cost : ℕ
  cost = total (λ slot. due_cost d a.weighed.costs (Running next ∷ rest) (property o.place slot)) slots

  abbrev deep : ℕ
  deep = depth (graph d) a.weighed.depths - suc (frames rest)

  class_is : class_at d o.place ≡ Some o.class
  class_is = ap (option_map (λ (p : Place). p.class)) x.1.good.is ∙ ap (λ (c : ℕ). Some c) (sym x.1.good.class)

  abbrev carries : ℕ → ℕ
  carries slot = queued_cost d a.weighed.costs (making t) o.place slot

  abbrev over : ℕ → ℕ
  over slot = over_cost a.weighed.costs (other_end (graph d) (property o.place slot))

  -- what waited pays for itself, and the thaw for the ways over and back
  cost_within : cost + carried d a.weighed.costs (making t) (Some new) ≤ carried d a.weighed.costs (making t) (Some o) + start_cost (graph d) a.weighed.costs (start_of d (r t).ks (words.thaw object))
  cost_within =
      let own = left_of.costs carries in
      let ways = left_of.costs over in
      let due =
      total_at_most (λ slot. due_cost d a.weighed.costs (Running next ∷ rest) (property o.place slot)) (λ slot. carries slot + over slot) slots
      (λ slot. (let part = due_parts d a.weighed.costs (Running next ∷ rest) (property o.place slot) in let has = queued_has d a.weighed.costs (making t) o.place slot in omega (arith, part, has))) in
      let split = total_both carries over slots in
      let paid = pairs_pay d a a.weighed.costs o.place o.queue x.1.good.apart in
      let reach = (thaws_reach d a.weighed.costs (r t).ks object o.place o.class x.1.covered class_is).0 in
      let placed = ap (λ place. total (λ slot. queued_cost d a.weighed.costs (making t) place slot) new.queue) left_of.place in
      omega (arith, own, ways, due, split, paid, reach, placed)

  -- where this was the lowest bracket what is due goes no deeper than what is left above the program
  shallow : less ≡ 0 → Each (λ slot. entry a.weighed.depths.channels (property o.place slot) ≤ deep) o.queue
  shallow z =
      let none : total (frozen_by d id) rest ≡ 0 = omega (arith, z) in
      each_to _ _ o.queue (λ slot fits. omega (arith, fits))
      (subst (λ b. Each (λ slot. suc (cond b (frames rest) (below_lowest d id rest)) + entry a.weighed.depths.channels (property o.place slot) ≤ depth (graph d) a.weighed.depths) o.queue)
      (eq-eqb (total (frozen_by d id) rest) 0 none) (g.queues id o x.1.lives).deep)

  both : (slot : ℕ) → entry a.weighed.depths.channels (property o.place slot) ≤ deep → (spec : Spec) × (spec_of d o.class slot ≡ Some spec) × (is_readable spec ≡ true) →
      (due_depth d a.weighed.depths (Running next ∷ rest) (property o.place slot) ≤ deep) × (spec : Spec) × (spec_at d o.place slot ≡ Some spec) × (is_readable spec ≡ true)
  both slot low has = (
    (let due = (due_within d a (Running next ∷ rest) o.place slot).1 in omega (arith, due, low)),
    has.0,
    ap (spec_if d slot) class_is ∙ has.1,
    has.2,
  )

  due_good : ThawingGood d a.weighed.costs a.weighed.depths (standing w.objects) (Running next ∷ rest) id slots cost deep
  due_good =
      thawing_good d a.weighed.costs a.weighed.depths (standing w.objects) (Running next ∷ rest) id o.place cost deep slots
      (ap (option_map (λ (o : Object). o.place)) x.1.lives) (omega arith)
      (left_of.due _ (λ z. each_two _ _ _ o.queue both (shallow z) x.1.good.queue))

  -- ** the step

  u : Unseen d (Thawing id slots) f next rest
  u = unseen d (Thawing id slots) f next rest refl

  abbrev led : Option ℕ → Config
  led into = record { world = v; agenda = Thawing id slots ∷ Running (record next { into = into }) ∷ rest; counted = suc n }

  thaws_well : typing.after d (r t).p (r t).ks (words.thaw object) ≡ (r t).ks → IsGood d a most_counted (led None)
  thaws_well kinds_are =
      good_of t v agenda
      (record {
        whole = kept.whole;
        alike = u.alike;
        pool = subst (λ m. PeersGood d w.peers (length w.builder + m)) (sym u.alike.makes) g.peers;
        builder = refl;
        build = u.build w.builder agenda;
        sets = record {
          alone = (let none = g.sets.alone in omega (arith, none));
          first = (let none = g.sets.first in omega (arith, none));
          held = λ some. absurd (let none = g.sets.first in omega (arith, some, none));
        };
        budget = cost + (left_steps t + g.agenda.2);
        good = (
          cost,
          deep,
          left_steps t + g.agenda.2,
          (tt, subst (λ (v : View). ThawingGood d a.weighed.costs a.weighed.depths v.stands (Running next ∷ rest) id slots cost deep) (sym kept.seen) due_good),
          (let low = g.agenda.4 in let start = (taken t).shallow in omega (arith, low, start)),
          omega arith,
          above t v next none (left_steps t) refl (subst (Serves d rest (view w)) (sym kept.seen) (serves_itself d rest (view w))) tt
              (past_good t (standing v.objects) f.registers refl (r t).counted
              (subst (λ (v : View). RegistersFit d v.stands (typing.after d (r t).p (r t).ks (words.thaw object)) f.registers) (sym kept.seen)
              (subst (λ ks. RegistersFit d (standing w.objects) ks f.registers) (sym kinds_are) (r t).fit))),
        );
        queues = queues_good;
        few = (let old = g.few in let same = kept.alive in let makes = u.alike.items is_making in omega (arith, old, same, makes));
        spent = (let left = steps_left t in
            let sum = sum_over (carried d a.weighed.costs (making t)) refl w.objects id o new x.1.lives in
            let within = cost_within in
            let same = kept.alive in
            let makes = u.alike.items is_making in
            omega (arith, left, sum, within, same, makes));
      })

thaw_fine : {d : Definition} (object : ℕ) (t : Due d (words.thaw object)) → StepIsFine t
thaw_fine {d} object t within =
    let k = changing_none_is (r t).ks (typing.operand d (r t).ks object) _ (taken t).typed in
    let x : (class : ℕ) × Named t object class = (k.0, named t object k.0 k.1) in
    fine_where t within (led object t x t.f.into)
    (thaw_leads t.w t.rest (past t.f) (suc t.n) object x.1.id x.1.o (less object t x) x.1.asked x.1.lives (count_is object t x))
    (subst (λ into. IsGood d t.a t.most_counted (led object t x into)) (sym (none_into t)) (thaws_well object t x k.2))

pub thaws_are_fine : ThawsAreFine
thaws_are_fine object = fine_of (λ d t. thaw_fine object t)
