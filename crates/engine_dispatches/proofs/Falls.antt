-- Uncounted steps make the work less.
use Rattle.std.proofs.Common.{not, ◌≡◌, ℕ, zero, suc, ◌+◌, ◌-◌, ◌*◌, ◌<◌, ◌≤◌, Bool, true, false, cond, nat_eq, nat_lt, ◌&&◌, ◌||◌, List, [], ◌∷◌, ◌++◌, length, Option, Some, None, Ok, Err, refl, ap, arith, length-append}
use Rattle.std.specs.Prelude.{IfOk}
use Rattle.std.specs.List.{list_any}
use Rattle.std.proofs.lemmas.List.{length-reverse}
use Rattle.ui_machine.specs.declared.arm.Arm.{Arm}
use Rattle.ui_machine.specs.declared.arm.Arm.TheVariants as arms
use Rattle.ui_machine.specs.Seq.{read, write, total}
use Rattle.ui_machine.specs.Definition.Values.{Value}
use Rattle.ui_machine.specs.Output.Lines as lines
use Rattle.ui_machine.specs.Rules.Transform.{same_value}
use Rattle.ui_machine.specs.Rules.Validation.{clamp}
use Rattle.ui_machine.specs.Definition.Properties.{Spec, is_lax, is_readable, is_writable, is_construct_only}
use Rattle.ui_machine.specs.Definition.{Definition}
use Rattle.ui_machine.specs.Definition.Lookups.{place_at}
use Rattle.ui_machine.specs.Definition.Places.{Given}
use Rattle.ui_machine.specs.Rules.NotifyQueue.{queued, thawed, raised, frozen_less, less_frozen, thawing}
use Rattle.ui_machine.specs.State.Objects.{Object, Objects, living, put, class_in, asked, value_at, changed, with_value}
use Rattle.ui_machine.specs.State.Tasks.{Item, ConstructStep, Notifying}
use Rattle.ui_machine.specs.State.Config.{World, Started, starts, said}
use Rattle.ui_machine.specs.Outcome.{After, Answer, ◌>>=◌, known, only_if}
use Rattle.ui_machine.specs.Rules.Sets.{spec_at, raising, raising_if, notifies, without_disposed, written, settled, setting, lives, has_kind}
use Rattle.ui_machine.specs.Rules.Construction.{thawing_made, given_value}
use Rattle.ui_machine.specs.Rules.Build.{held_object, set_forward, building_forward}
use Rattle.ui_machine.specs.Rules.Events.{with_result, set_from_event, get_from_event, emit_from_event, release_from_event, given_values, set_given}
use Rattle.ui_machine.specs.Rules.Connections.{detail_in}
use Rattle.engine_world.specs.Measure.{item_weight, weight, waiting_in, waiting}
use Rattle.engine_world.proofs.Floats.{if_ok_at, bind_ok}

-- ** what waits, after one object changed

waiting-write : (os : Objects) (i : ℕ) (o x : Object) → read None os i ≡ Some o → waiting (write None os i (Some x)) + waiting_in (Some o) ≡ waiting os + waiting_in (Some x)
waiting-write [] i o x h = cc
waiting-write (y ∷ os) zero o x h = let e : waiting_in y ≡ waiting_in (Some o) = ap waiting_in h in omega (arith, e)
waiting-write (y ∷ os) (suc i) o x h = omega (arith, waiting-write os i o x h)

waiting-put : (os : Objects) (id : ℕ) (o x : Object) → living os id ≡ Some o → waiting (put os id (Some x)) + waiting_in (Some o) ≡ waiting os + waiting_in (Some x)
waiting-put os zero o x h = cc
waiting-put os (suc i) o x h = waiting-write os i o x h

-- a change of one object that puts no more than so much into its queue, and gives back so much
abbrev Adds : {X : Type 0} → (X → ℕ) → ℕ → (Object → Answer (After Object X)) → Type 0
Adds {X} gives most change = (o : Object) → IfOk (change o) (λ r. waiting_in (Some r.state) + gives r.answer ≤ waiting_in (Some o) + most)

changed_waiting : {X : Type 0} (gives : X → ℕ) (most : ℕ) (os : Objects) (id : ℕ) (change : Object → Answer (After Object X)) → Adds gives most change
    → IfOk (changed os id change) (λ r. waiting r.state + gives r.answer ≤ waiting os + most)
unfolding changed
changed_waiting {X} gives most os id change adds = by (living os id) refl
  where
    P : After Objects X → Type 0
    P = λ r. waiting r.state + gives r.answer ≤ waiting os + most

    by : (o : Option Object) → living os id ≡ o → IfOk (known arms.Operand o >>= λ x. change x >>= λ new. Ok (record { state = put os id (Some new.state); answer = new.answer })) P
    by None e = tt
    by (Some x) e = bind_ok (change x) (λ new. Ok (record { state = put os id (Some new.state); answer = new.answer })) P (λ new is.
        let a = if_ok_at (λ (r : After Object X). waiting_in (Some r.state) + gives r.answer ≤ waiting_in (Some x) + most) (change x) new (adds x) is in
        let p = waiting-put os id x new.state e in
        omega (arith, a, p))

nothing : {X : Type 0} → X → ℕ
nothing x = 0

written_adds : (slot : ℕ) (v : Value) → Adds (nothing {X = Value}) 0 (with_value slot v)
unfolding with_value nothing
written_adds slot v o = bind_ok (value_at slot o) _ (λ r. waiting_in (Some r.state) + 0 ≤ waiting_in (Some o) + 0) (λ old _. omega arith)

length-queued : (q : List ℕ) (slot : ℕ) (b : Bool) → 2 * length (cond b q (q ++ slot ∷ [])) ≤ 2 * length q + 2
length-queued q slot true = omega arith
length-queued q slot false = omega (arith, length-append q (slot ∷ []))

told_weight : Bool → ℕ
told_weight true = 1
told_weight false = 0

raised_adds : (slot : ℕ) → Adds told_weight 2 (raised slot)
unfolding told_weight
raised_adds slot o = by (nat_eq o.freezes 0)
  where
    raise : Bool → Answer (After Object Bool)
    raise b = Ok (cond b (record { state = o; answer = true }) (record { state = record o { queue = queued o.queue slot }; answer = false }))

    by : (b : Bool) → IfOk (raise b) (λ r. waiting_in (Some r.state) + told_weight r.answer ≤ waiting_in (Some o) + 2)
    by true = omega arith
    by false = omega (arith, length-queued o.queue slot (list_any (λ s. nat_eq s slot) o.queue))

length-thawed : (q : List ℕ) → length (thawed q) ≡ length q
length-thawed q = length-reverse q

twice_length : List ℕ → ℕ
twice_length q = 2 * length q

thawed_adds : Adds twice_length 0 frozen_less
unfolding twice_length
thawed_adds o = by (nat_lt 0 o.freezes) (o.freezes - 1)
  where
    by : (b : Bool) (n : ℕ) → IfOk (only_if b arms.Freeze (Ok (less_frozen n o))) (λ r. waiting_in (Some r.state) + 2 * length r.answer ≤ waiting_in (Some o) + 0)
    by false n = tt
    by true zero = omega (arith, length-thawed o.queue)
    by true (suc n) = omega arith

-- ** tasks

-- a step whose task had this weight
pub record Falls (d : Definition) (w : World) (before : ℕ) (s : Started) : Type 0 where
  pub less : total (weight d) s.tasks + waiting s.world.objects < before + waiting w.objects

told_less : (b : Bool) (d : Definition) (id slot : ℕ) → total (weight d) (cond b (Notifying id slot ∷ []) []) ≡ told_weight b
unfolding told_weight
told_less true d id slot = refl
told_less false d id slot = refl

pub raising_falls : (d : Definition) (w : World) (id slot : ℕ) → IfOk (raising w id slot) (Falls d w 3)
unfolding raising
raising_falls d w id slot = bind_ok (changed w.objects id (raised slot)) _ (Falls d w 3) (λ r e.
    let a = if_ok_at (λ (r : After Objects Bool). waiting r.state + told_weight r.answer ≤ waiting w.objects + 2) (changed w.objects id (raised slot)) r (changed_waiting told_weight 2 w.objects id (raised slot) (raised_adds slot)) e in
    record { less = omega (arith, a, told_less r.answer d id slot) })

falls_on : (d : Definition) (w v : World) (a : Answer Started) (before : ℕ) → waiting v.objects ≤ waiting w.objects → IfOk a (Falls d v before) → IfOk a (Falls d w before)
falls_on d w v (Ok s) before h f = let l = f.less in record { less = omega (arith, l, h) }
falls_on d w v (Err arm) before h f = tt

written_falls : (d : Definition) (w : World) (id slot : ℕ) (s : Spec) (v : Value) → IfOk (written d w id slot s v) (Falls d w 3)
unfolding written nothing
written_falls d w id slot s v = bind_ok (changed w.objects id (with_value slot v)) _ (Falls d w 3) (λ r e.
    let a = if_ok_at (λ (r : After Objects Value). waiting r.state + 0 ≤ waiting w.objects + 0) (changed w.objects id (with_value slot v)) r (changed_waiting nothing 0 w.objects id (with_value slot v) (written_adds slot v)) e in
    by (notifies s r.answer v) r (omega (arith, a)))
  where
    by : (b : Bool) (r : After Objects Value) → waiting r.state ≤ waiting w.objects
        → IfOk (raising_if b (said d (record w { objects = r.state }) (lines.set id s.name v)) id slot) (Falls d w 3)
    by true r h = falls_on d w (said d (record w { objects = r.state }) (lines.set id s.name v)) (raising (said d (record w { objects = r.state }) (lines.set id s.name v)) id slot) 3 h (raising_falls d (said d (record w { objects = r.state }) (lines.set id s.name v)) id slot)
    by false r h = record { less = omega (arith, h) }

settled_falls : (d : Definition) (w : World) (id slot : ℕ) (s : Spec) (v valid : Value) → IfOk (settled d w id slot s v valid) (Falls d w 3)
settled_falls d w id slot s v valid = by (same_value valid v || is_lax s)
  where
    by : (b : Bool) → IfOk (cond b (written d w id slot s (without_disposed w.objects s valid)) (starts (said d w (lines.refused id s.name v)) [])) (Falls d w 3)
    by true = written_falls d w id slot s (without_disposed w.objects s valid)
    by false = record { less = omega arith }

only_falls : (d : Definition) (w : World) (before : ℕ) (b : Bool) (arm : Arm) (a : Answer Started) → IfOk a (Falls d w before) → IfOk (only_if b arm a) (Falls d w before)
only_falls d w before true arm a h = h
only_falls d w before false arm a h = tt

pub setting_falls : (d : Definition) (w : World) (id slot : ℕ) (v : Value) → IfOk (setting d w id slot v) (Falls d w 3)
unfolding setting
setting_falls d w id slot v = bind_ok (spec_at d w.objects id slot) _ (Falls d w 3) (λ s _.
    only_falls d w 3 (has_kind v s.kind && lives w.objects v) arms.Value (settled d w id slot s v (clamp (class_in w.objects) d.types s v)) (settled_falls d w id slot s v (clamp (class_in w.objects) d.types s v)))

pub thawing_falls : (d : Definition) (w : World) (id : ℕ) (slots : List ℕ) → IfOk (thawing w id slots) (Falls d w (2 * length slots + 1))
thawing_falls d w id [] = record { less = omega arith }
thawing_falls d w id (slot ∷ slots) = record { less = omega arith }

pub thawing_made_falls : (d : Definition) (w : World) (id : ℕ) (steps : List ConstructStep) (held : Bool) → IfOk (thawing_made w id steps held) (Falls d w (4 * suc (length steps) + 1))
unfolding thawing_made twice_length
thawing_made_falls d w id steps held = bind_ok (changed w.objects id frozen_less) _ (Falls d w (4 * suc (length steps) + 1)) (λ r e.
    let a = if_ok_at (λ (r : After Objects (List ℕ)). waiting r.state + 2 * length r.answer ≤ waiting w.objects + 0) (changed w.objects id frozen_less) r (changed_waiting twice_length 0 w.objects id frozen_less thawed_adds) e in
    record { less = omega (arith, a) })

set_given_falls : (d : Definition) (w : World) (id slot : ℕ) (given : Given) → IfOk (set_given w id slot given) (Falls d w 4)
unfolding set_given
set_given_falls d w id slot given = bind_ok (known arms.Operand (given_value w given)) _ (Falls d w 4) (λ v _. record { less = omega arith })

pub carrying_set_falls : (d : Definition) (w : World) (place slot : ℕ) (given : Given) → IfOk (set_from_event d w place slot given) (Falls d w 4)
unfolding set_from_event
carrying_set_falls d w place slot given = bind_ok (held_object w place) _ (Falls d w 4) (λ id _. bind_ok (spec_at d w.objects id slot) _ (Falls d w 4) (λ s _.
    only_falls d w 4 (is_writable s) arms.Flags (only_if (not (is_construct_only s)) arms.ConstructOnly (set_given w id slot given))
    (only_falls d w 4 (not (is_construct_only s)) arms.ConstructOnly (set_given w id slot given) (set_given_falls d w id slot given))))

set_forward_falls : (d : Definition) (w : World) (id slot to : ℕ) (items : List Item)
    → IfOk (set_forward w id slot to items) (Falls d w (4 + total (item_weight d) items + 1))
unfolding set_forward
set_forward_falls d w id slot to items = bind_ok (held_object w to) _ (Falls d w (4 + total (item_weight d) items + 1)) (λ target _. record { less = omega arith })

pub building_forward_falls : (d : Definition) (w : World) (place slot to : ℕ) (items : List Item)
    → IfOk (building_forward d w place slot to items) (Falls d w (4 + total (item_weight d) items + 1))
unfolding building_forward
building_forward_falls d w place slot to items =
    let before = 4 + total (item_weight d) items + 1 in
    bind_ok (held_object w place) _ (Falls d w before) (λ id _. bind_ok (spec_at d w.objects id slot) _ (Falls d w before) (λ s _.
    only_falls d w before (is_writable s) arms.Flags (only_if (not (is_construct_only s)) arms.ConstructOnly (set_forward w id slot to items))
    (only_falls d w before (not (is_construct_only s)) arms.ConstructOnly (set_forward w id slot to items) (set_forward_falls d w id slot to items))))

pub carrying_get_falls : (d : Definition) (w : World) (place slot : ℕ) → IfOk (get_from_event d w place slot) (Falls d w 4)
unfolding get_from_event
carrying_get_falls d w place slot = bind_ok (held_object w place) _ (Falls d w 4) (λ id _. bind_ok (spec_at d w.objects id slot) _ (Falls d w 4) (λ s _. bind_ok (asked w.objects id (value_at slot)) _ (Falls d w 4) (λ v _.
    only_falls d w 4 (is_readable s) arms.Flags (starts (with_result (said d w (lines.get id s.name v)) v) []) (record { less = omega arith }))))

pub carrying_emit_falls : (d : Definition) (w : World) (place signal : ℕ) (args : List Given) (detail : Option (List ℕ)) → IfOk (emit_from_event d w place signal args detail) (Falls d w 4)
unfolding emit_from_event
carrying_emit_falls d w place signal args detail = bind_ok (held_object w place) _ (Falls d w 4) (λ id _. bind_ok (detail_in d w id signal detail) _ (Falls d w 4) (λ stands _.
    bind_ok (given_values w args) _ (Falls d w 4) (λ vs _. record { less = omega arith })))

pub carrying_release_falls : (d : Definition) (w : World) (place : ℕ) → IfOk (release_from_event d w place) (Falls d w 4)
unfolding release_from_event
carrying_release_falls d w place = bind_ok (known arms.Code (place_at d place)) _ (Falls d w 4) (λ p _. bind_ok (held_object w place) _ (Falls d w 4) (λ id _. record { less = omega arith }))
