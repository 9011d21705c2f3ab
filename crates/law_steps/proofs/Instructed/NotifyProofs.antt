-- A program raises a notification: it is made at once, or waits in the queue of a frozen object.
use Rattle.std.proofs.Common.{◌≡◌, refl, sym, ap, subst, ◌∙◌, ℕ, zero, suc, ◌+◌, ◌≤◌, Bool, true, false, cond, List, [], ◌∷◌, ◌++◌, Option, None, Some, Ok, arith}
use Rattle.std.specs.Prelude.{nat_eq, option_map}
use Rattle.std.specs.List.{list_any}
use Rattle.std.proofs.lemmas.Bool.{eqb-true, eqb-false}
use Rattle.ui_machine.specs.Seq.{read, write, total}
use Rattle.ui_machine.specs.Definition.Places.{Place}
use Rattle.ui_machine.specs.Definition.Properties.{Spec, is_readable}
use Rattle.ui_machine.specs.Definition.{Definition}
use Rattle.ui_machine.specs.Definition.Lookups.{slot_of, spec_of}
use Rattle.ui_machine.specs.Definition.Programs as words
use Rattle.ui_machine.specs.State.Objects.{Object, Objects, living, put, changed}
use Rattle.ui_machine.specs.State.Tasks.{Frame, Task, Notifying, Running}
use Rattle.ui_machine.specs.State.Config.{World, with_objects}
use Rattle.ui_machine.specs.Rules.NotifyQueue.{queued}
use Rattle.ui_machine.specs.Rules.Sets.{spec_at, raising}
use Rattle.ui_machine.specs.Instructions.{in_front}
use Rattle.ui_machine.specs.Instructions.Registers.{operand_in, goes_on}
use Rattle.ui_machine.specs.Instructions.Properties.{slot_at, then_goes_on, notify_from_program}
use Rattle.ui_machine.specs.Instructions.Jumps.{past}
use Rattle.ui_machine.specs.Steps.{left}
use Rattle.law_typing.specs.Rules.RegisterKinds.{class_at}
use Rattle.law_typing.specs.Rules.Typing.{after, property_of}
use Rattle.law_typing.specs.Graph.{graph, start_of}
use Rattle.law_typing.specs.Graph.Channels.{property, spec_if}
use Rattle.law_typing.specs.Graph.Tables.{entry}
use Rattle.law_typing.specs.Graph.Costs.{node_cost, start_cost}
use Rattle.law_typing.specs.Graph.Depths.{depth, start_depth}
use Rattle.law_typing.specs.Laws.StepsKeepGood.{IsGood}
use Rattle.law_typing.specs.Good.Standing.{standing, view, View, RegistersFit}
use Rattle.law_typing.specs.Good.Agenda.{frames}
use Rattle.law_typing.specs.Good.DueCosts.{queued_cost}
use Rattle.law_typing.specs.Good.Freezes.{frozen_by, below_lowest, QueueGood, QueuesGood, carried}
use Rattle.law_static.specs.Code.{gone_on}
use Rattle.law_static.proofs.PlanCostProofs.{total_append}
use Rattle.law_static.proofs.StartProofs.{starts_reach, due_within, queued_within}
use Rattle.law_static.proofs.SubclassProofs.{specs_inherit}
use Rattle.law_steps.specs.Kept.Agenda.{Serves}
use Rattle.law_steps.specs.Kept.Write.{Kept}
use Rattle.law_steps.proofs.Kept.WriteProofs.{find_here, find_apart, write_keeps}
use Rattle.law_steps.proofs.Kept.DisposeProofs.{sum_put}
use Rattle.law_steps.proofs.Kept.ChangesProofs.{each_queued, queue_is_like}
use Rattle.law_steps.specs.Instructed.Running.{at_top}
use Rattle.law_steps.specs.Instructed.Notifying.{NotifiesAreFine}
use Rattle.law_steps.proofs.Instructed.Around.{Due, making, r, taken, goes_to, past_good, left_steps, steps_left, fine_where, waits_not, StepIsFine, fine_of}
use Rattle.law_steps.proofs.Instructed.Written.{serves_itself, said_moved, moved_fine, open_same}
use Rattle.law_steps.proofs.Instructed.Frozen.{frozen_same}
use Rattle.law_steps.proofs.Instructed.Typed.{property_is, changing_none_is}
use Rattle.law_steps.proofs.Instructed.Operand.{Named, named}
use Rattle.law_steps.proofs.Instructed.ReadProofs.{slot_is, spec_is}
use Rattle.law_steps.proofs.Instructed.Started.{waiting, sends_fine}

-- ** objects that are written over

-- by itself
pub put_itself : (os : Objects) (id : ℕ) (o : Object) → living os id ≡ Some o → put os id (Some o) ≡ os
put_itself os zero o e = refl
put_itself os (suc i) o e = go os i e
  where
    go : (os : Objects) (i : ℕ) → read None os i ≡ Some o → write None os i (Some o) ≡ os
    go [] i e = absurd (cc)
    go (x ∷ os) zero e = ap (λ x. x ∷ os) (sym e)
    go (x ∷ os) (suc i) e = ap (λ os. x ∷ os) (go os i e)

-- what is counted of them
pub sum_over : (f : Option Object → ℕ) → f None ≡ 0 → (os : Objects) (id : ℕ) (o new : Object) → living os id ≡ Some o → total f (put os id (Some new)) + f (Some o) ≡ total f os + f (Some new)
sum_over f none os zero o new is = absurd (cc)
sum_over f none os (suc i) o new is = let h = sum_put f none (Some new) os i in let s = ap f is in omega (arith, h, s)

-- ** queues

-- with one more slot it costs no more than that more
pub queued_more : (f : ℕ → ℕ) (queue : List ℕ) (slot : ℕ) → total f (queued queue slot) ≤ total f queue + f slot
queued_more f queue slot = go (list_any (λ s. nat_eq s slot) queue)
  where
    go : (b : Bool) → total f (cond b queue (queue ++ slot ∷ [])) ≤ total f queue + f slot
    go true = omega arith
    go false = let h = total_append f queue (slot ∷ []) in omega (arith, h)

-- the lowest bracket is above no more frames than there are
pub lowest_within : (d : Definition) (id : ℕ) (x : Task) (tasks : List Task) → below_lowest d id (x ∷ tasks) ≤ frames tasks
lowest_within d id x [] = omega arith
lowest_within d id x (y ∷ tasks) = go (nat_eq (total (frozen_by d id) (y ∷ tasks)) 0) (lowest_within d id y tasks)
  where
    go : (b : Bool) → below_lowest d id (y ∷ tasks) ≤ frames tasks → cond b (frames (y ∷ tasks)) (below_lowest d id (y ∷ tasks)) ≤ frames (y ∷ tasks)
    go true less = omega arith
    go false less = omega (arith, less)

-- ** what the machine does

made_at_once : (d : Definition) (w : World) (rest : List Task) (f : Frame) (object : ℕ) (name : List ℕ) (id slot : ℕ) (s : Spec) (o : Object) → operand_in w f object ≡ Ok id → slot_at d w id name ≡ Ok slot →
    spec_at d w.objects id slot ≡ Ok s → is_readable s ≡ true → living w.objects id ≡ Some o → nat_eq o.freezes 0 ≡ true →
    in_front rest (notify_from_program d w f object name) ≡ in_front rest (goes_on (with_objects w (put w.objects id (Some o))) (Notifying id slot ∷ []) f)
unfolding notify_from_program then_goes_on raising changed
made_at_once d w rest f object name id slot s o a b c readable is thawed = rw (a, b, c, readable, is, thawed) refl

queued_first : (d : Definition) (w : World) (rest : List Task) (f : Frame) (object : ℕ) (name : List ℕ) (id slot : ℕ) (s : Spec) (o : Object) → operand_in w f object ≡ Ok id → slot_at d w id name ≡ Ok slot →
    spec_at d w.objects id slot ≡ Ok s → is_readable s ≡ true → living w.objects id ≡ Some o → nat_eq o.freezes 0 ≡ false →
    in_front rest (notify_from_program d w f object name) ≡ in_front rest (goes_on (with_objects w (put w.objects id (Some (record o { queue = queued o.queue slot })))) [] f)
unfolding notify_from_program then_goes_on raising changed
queued_first d w rest f object name id slot s o a b c readable is frozen = rw (a, b, c, readable, is, frozen) refl

not_told : (d : Definition) (w : World) (rest : List Task) (f : Frame) (object : ℕ) (name : List ℕ) (id slot : ℕ) (s : Spec) → operand_in w f object ≡ Ok id → slot_at d w id name ≡ Ok slot →
    spec_at d w.objects id slot ≡ Ok s → is_readable s ≡ false → in_front rest (notify_from_program d w f object name) ≡ in_front rest (goes_on w [] f)
unfolding notify_from_program
not_told d w rest f object name id slot s a b c secret = rw (a, b, c, secret) refl

goes_leads : (v : World) (rest : List Task) (f : Frame) (n : ℕ) → left n (in_front rest (goes_on v [] f)) ≡ Ok (at_top v f rest n)
unfolding in_front left
goes_leads v rest f n = refl

-- the property of an operand's object
record Told {d : Definition} (object : ℕ) (name : List ℕ) (t : Due d (words.notify object name)) : Type 0 where
  pub spec : Spec
  pub class : ℕ
  pub named : Named t object class
  pub slot : ℕ
  pub is : slot_of d named.o.class name ≡ Some slot
  pub has : spec_of d named.o.class slot ≡ Some spec
  pub kinds_are : after d (r t).p (r t).ks (words.notify object name) ≡ (r t).ks

module _ {d : Definition} (object : ℕ) (name : List ℕ) (t : Due d (words.notify object name)) (k : Told object name t) where
  open t use {a, most_counted, w, f, rest, n, g}

  abbrev id : ℕ
  id = k.named.id

  abbrev o : Object
  o = k.named.o

  abbrev v : World
  v = with_objects w (put w.objects id (Some (record o { queue = queued o.queue k.slot })))

  abbrev next : Frame
  next = gone_on f f.registers

  at : standing w.objects id ≡ Some o.place
  at = ap (option_map (λ (o : Object). o.place)) k.named.lives

  class_is : class_at d o.place ≡ Some o.class
  class_is = ap (option_map (λ (p : Place). p.class)) k.named.good.is ∙ ap (λ (c : ℕ). Some c) (sym k.named.good.class)

  reach : (node_cost (graph d) a.weighed.costs (property o.place k.slot) ≤ start_cost (graph d) a.weighed.costs (start_of d (r t).ks (words.notify object name)))
      × (entry a.weighed.depths.channels (property o.place k.slot) ≤ start_depth a.weighed.depths (start_of d (r t).ks (words.notify object name)))
  reach = starts_reach d a (λ class. slot_of d class name) property (r t).ks object o.place o.class k.slot k.named.covered class_is k.is

  kept : is_readable k.spec ≡ true → Kept d a.weighed.costs a.weighed.depths (Running f ∷ rest) w v
  kept readable =
      write_keeps d a.weighed.costs a.weighed.depths (Running f ∷ rest) w id o (record o { queue = queued o.queue k.slot }) k.named.lives
      (queue_is_like d w id k.slot o k.spec k.named.good k.has readable)
      (record { objects = g.objects; handlers = g.handlers; bindings = g.bindings; sources = g.sources; held = g.held; floating = g.floating; objects_first = g.objects_first })

  same : (j : ℕ) → frozen_by d j (Running next) ≡ frozen_by d j (Running f)
  same j = frozen_same d j f next (open_same t refl f.registers) (λ r among. refl)

  queues_good : nat_eq o.freezes 0 ≡ false → QueuesGood d a.weighed.depths (depth (graph d) a.weighed.depths) (Running next ∷ rest) (suc n) v.objects
  queues_good frozen j y e = go (nat_eq id j) refl
    where
      here_is : id ≡ j → (y ≡ record o { queue = queued o.queue k.slot }) × (living w.objects j ≡ Some o)
      here_is same = ((let f = ap (living v.objects) same in let h = find_here w.objects id o (record o { queue = queued o.queue k.slot }) k.named.lives in let k = sym e ∙ (sym f ∙ h) in cc), ap (living w.objects) (sym same) ∙ k.named.lives)

      other : (y : Object) → living w.objects j ≡ Some y → QueueGood d a.weighed.depths (depth (graph d) a.weighed.depths) (Running next ∷ rest) (suc n) j y
      other y is =
          let q = g.queues j y is in
          record {
            count = (let old = q.count in let s = same j in omega (arith, old, s));
            few = (let old = q.few in omega (arith, old));
            none = q.none;
            deep = q.deep;
          }

      go : (b : Bool) → nat_eq id j ≡ b → QueueGood d a.weighed.depths (depth (graph d) a.weighed.depths) (Running next ∷ rest) (suc n) j y
      go true s =
          let h = here_is (eqb-true id j s) in
          let q = other o h.1 in
          subst (QueueGood d a.weighed.depths (depth (graph d) a.weighed.depths) (Running next ∷ rest) (suc n) j) (sym h.0)
          (record {
            count = q.count;
            few = q.few;
            none = λ zero. absurd (eqb-false o.freezes 0 frozen zero);
            deep =
                each_queued (λ slot. suc (below_lowest d j (Running next ∷ rest)) + entry a.weighed.depths.channels (property o.place slot) ≤ depth (graph d) a.weighed.depths) o.queue k.slot q.deep
                (let low = lowest_within d j (Running next) rest in let most = g.agenda.4 in let start = (taken t).shallow in let deep = reach.1 in omega (arith, low, most, start, deep));
          })
      go false s = other y (sym (find_apart w.objects id (record o { queue = queued o.queue k.slot }) j (eqb-false id j s)) ∙ e)

  queues_well : is_readable k.spec ≡ true → nat_eq o.freezes 0 ≡ false → IsGood d a most_counted (at_top v next rest (suc n))
  queues_well readable frozen =
      let kept = kept readable in
      goes_to t v next (left_steps t)
      (record {
        whole = kept.whole;
        served = subst (Serves d rest (view w)) (sym kept.seen) (serves_itself d rest (view w));
        pool = g.peers;
        same = refl;
        running =
            past_good t (standing v.objects) f.registers refl (r t).counted
            (subst (λ (v : View). RegistersFit d v.stands (after d (r t).p (r t).ks (words.notify object name)) f.registers) (sym kept.seen)
            (subst (λ ks. RegistersFit d (standing w.objects) ks f.registers) (sym k.kinds_are) (r t).fit));
        queues = queues_good frozen;
        few = (let same = kept.alive in omega (arith, same));
        queued = (let left = steps_left t in
            let sum = sum_over (carried d a.weighed.costs (making t)) refl w.objects id o (record o { queue = queued o.queue k.slot }) k.named.lives in
            let more = queued_more (λ slot. queued_cost d a.weighed.costs (making t) o.place slot) o.queue k.slot in
            let own = queued_within d a.weighed.costs (making t) o.place k.slot in
            let cheap = reach.0 in
            omega (arith, left, sum, more, own, cheap));
      })

  notify_of : StepIsFine t
  notify_of = go (is_readable k.spec) (nat_eq o.freezes 0) refl refl
    where
      go : (readable thawed : Bool) → is_readable k.spec ≡ readable → nat_eq o.freezes 0 ≡ thawed → StepIsFine t
      go false thawed e z =
          moved_fine t refl w (said_moved t refl w.transcript) refl k.kinds_are
          (not_told d w rest (past f) object name id k.slot k.spec k.named.asked (slot_is d w id k.slot o name k.named.lives k.is) (spec_is d w id k.slot o k.spec k.named.lives k.has) e)
      go true false e z = λ within.
          fine_where t within (at_top v (past f) rest (suc n))
          (ap (left (suc n))
          (queued_first d w rest (past f) object name id k.slot k.spec o k.named.asked (slot_is d w id k.slot o name k.named.lives k.is) (spec_is d w id k.slot o k.spec k.named.lives k.has) e k.named.lives z)
          ∙ goes_leads v rest (past f) (suc n)) (waits_not t v next (queues_well e z))
      go true true e z =
          let due = due_within d a (Running (waiting t refl f.into) ∷ rest) o.place k.slot in
          sends_fine t refl (Notifying id k.slot) (start_cost (graph d) a.weighed.costs (start_of d (r t).ks (words.notify object name)))
          (start_depth a.weighed.depths (start_of d (r t).ks (words.notify object name)))
          (record {
            started = refl;
            more = refl;
            good = (
              tt,
              record {
                due = record {
                  place = o.place;
                  is = at;
                  spec = k.spec;
                  has = ap (spec_if d k.slot) class_is ∙ k.has;
                  cheap = (let node = due.0 in let most = reach.0 in omega (arith, node, most));
                  shallow = (let deep = due.1 in let most = reach.1 in omega (arith, deep, most));
                };
                readable = e;
              },
            );
            cheap = omega arith;
            shallow = omega arith;
            none_down = refl;
            kinds_are = k.kinds_are;
            held = λ some. absurd (omega (arith, some));
          })
          (made_at_once d w rest (past f) object name id k.slot k.spec o k.named.asked (slot_is d w id k.slot o name k.named.lives k.is) (spec_is d w id k.slot o k.spec k.named.lives k.has) e k.named.lives z
          ∙ ap (λ os. in_front rest (goes_on (with_objects w os) (Notifying id k.slot ∷ []) (past f))) (put_itself w.objects id o k.named.lives))

notify_fine : {d : Definition} (object : ℕ) (name : List ℕ) (t : Due d (words.notify object name)) → StepIsFine t
notify_fine {d} object name t =
    let x = changing_none_is (r t).ks (property_of d (r t).ks object name) _ (taken t).typed in
    let found = property_is d (r t).ks object name x.0 x.1 in
    let o = named t object found.class found.operand in
    let own = specs_inherit d t.well.types o.o.class found.class found.slot name x.0 o.known o.of_class found.is found.has in
    notify_of object name t (record { spec = x.0; class = found.class; named = o; slot = own.0; is = own.1; has = own.2; kinds_are = x.2 })

pub notifies_are_fine : NotifiesAreFine
notifies_are_fine object name = fine_of (λ d t. notify_fine object name t)
