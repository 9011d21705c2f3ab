-- What sets, notifications and gets leave of what floats, and of the lines.
use Rattle.std.proofs.Common.{not, ℕ, Bool, true, false, cond, ◌&&◌, ◌||◌, List, [], ◌∷◌, Option, Ok, Err, refl, None, Some}
use Rattle.std.specs.Prelude.{IfOk}
use Rattle.ui_machine.specs.declared.arm.Arm.{Arm}
use Rattle.ui_machine.specs.declared.arm.Arm.TheVariants as arms
use Rattle.ui_machine.specs.Definition.Values.{Value}
use Rattle.ui_machine.specs.Output.Lines as lines
use Rattle.ui_machine.specs.Rules.Transform.{kind_fits, same_value}
use Rattle.ui_machine.specs.Rules.Validation.{clamp}
use Rattle.ui_machine.specs.Definition.Properties.{Spec, is_lax, is_readable, is_writable, is_construct_only}
use Rattle.ui_machine.specs.Definition.Lookups.{place_at, spec_of}
use Rattle.ui_machine.specs.Definition.{Definition}
use Rattle.ui_machine.specs.Definition.Places.{Given}
use Rattle.ui_machine.specs.State.Objects.{class_in, object_at, asked, value_at, changed, with_value}
use Rattle.ui_machine.specs.State.Tasks.{Emission, Item}
use Rattle.ui_machine.specs.State.Config.{World, Started, starts, said}
use Rattle.ui_machine.specs.Outcome.{Answer, known, only_if}
use Rattle.ui_machine.specs.Rules.NotifyQueue.{raised, thawing}
use Rattle.ui_machine.specs.Rules.Sets.{spec_at, raising, raising_if, notifies, without_disposed, written, settled, setting, lives, has_kind}
use Rattle.ui_machine.specs.Rules.EmissionPlan.{beginning_emission, notifying, signal_at}
use Rattle.ui_machine.specs.Rules.Connections.{detail_in}
use Rattle.ui_machine.specs.Rules.Programs.{all_fit}
use Rattle.ui_machine.specs.Rules.Construction.{given_value}
use Rattle.ui_machine.specs.Rules.Events.{with_result, set_from_event, get_from_event, emit_from_event, release_from_event, given_values, set_given}
use Rattle.ui_machine.specs.Rules.Build.{held_object, set_forward, building_forward}
use Rattle.ui_machine.specs.Rules.Transform.{transformed}
use Rattle.ui_machine.specs.Rules.Transfers.{End, carried, carried_by, inverted, inverts, set_by, source_end, target_end, transferring}
use Rattle.ui_machine.specs.State.Bindings.{Binding, binding_of}
use Rattle.ui_machine.proofs.Prefixes.{prefix_same, prefix_one}
use Rattle.engine_world.proofs.Floats.{Quietly, quietly_on, bind_ok}

-- a part of a step that keeps what floats
abbrev pub Calm : World → Started → Type 0
Calm w s = Quietly w s.world

-- ** notifications

pub raising_calm : (w : World) (id slot : ℕ) → IfOk (raising w id slot) (Calm w)
unfolding raising
raising_calm w id slot = bind_ok (changed w.objects id (raised slot)) _ (Calm w) (λ r e. record { floating = refl; grows = prefix_same w.transcript })

calm_on : (w v : World) (a : Answer Started) → Quietly w v → IfOk a (Calm v) → IfOk a (Calm w)
calm_on w v (Ok s) q h = quietly_on q h
calm_on w v (Err arm) q h = tt

pub notifying_calm : (d : Definition) (w : World) (id slot : ℕ) → IfOk (notifying d w id slot) (Calm w)
unfolding notifying
notifying_calm d w id slot = bind_ok (object_at w.objects id) _ (Calm w) (λ o _. bind_ok (known arms.Code (spec_of d o.class slot)) _ (Calm w) (λ p _. bind_ok (signal_at d o.class 0) _ (Calm w) (λ s _. record { floating = refl; grows = prefix_one w.transcript _ })))

-- ** emissions

only_begins : (w : World) (b : Bool) (s : Started) → Calm w s → IfOk (only_if b arms.Argument (Ok s)) (Calm w)
only_begins w true s calm = calm
only_begins w false s calm = tt

pub beginning_calm : (d : Definition) (w : World) (e : Emission) → IfOk (beginning_emission d w e) (Calm w)
unfolding beginning_emission
beginning_calm d w e = bind_ok (object_at w.objects e.object) _ (Calm w) (λ o _. bind_ok (signal_at d o.class e.signal) _ (Calm w) (λ s _.
    only_begins w (all_fit (kind_fits (class_in w.objects) d.types) e.args s.params) _ (record { floating = refl; grows = prefix_one w.transcript _ })))

-- ** sets

told_calm : (b : Bool) (w v : World) (id slot : ℕ) → Quietly w v → IfOk (raising_if b v id slot) (Calm w)
told_calm true w v id slot q = calm_on w v (raising v id slot) q (raising_calm v id slot)
told_calm false w v id slot q = q

pub written_calm : (d : Definition) (w : World) (id slot : ℕ) (s : Spec) (v : Value) → IfOk (written d w id slot s v) (Calm w)
unfolding written
written_calm d w id slot s v = bind_ok (changed w.objects id (with_value slot v)) _ (Calm w) (λ r e.
    told_calm (notifies s r.answer v) w _ id slot (record { floating = refl; grows = prefix_one w.transcript _ }))

settled_calm : (d : Definition) (w : World) (id slot : ℕ) (s : Spec) (v valid : Value) → IfOk (settled d w id slot s v valid) (Calm w)
settled_calm d w id slot s v valid = by (same_value valid v || is_lax s)
  where
    by : (b : Bool) → IfOk (cond b (written d w id slot s (without_disposed w.objects s valid)) (starts (said d w (lines.refused id s.name v)) [])) (Calm w)
    by true = written_calm d w id slot s (without_disposed w.objects s valid)
    by false = record { floating = refl; grows = (prefix_one w.transcript _) }

only_calm : (w : World) (b : Bool) (arm : Arm) (a : Answer Started) → IfOk a (Calm w) → IfOk (only_if b arm a) (Calm w)
only_calm w true arm a h = h
only_calm w false arm a h = tt

pub setting_calm : (d : Definition) (w : World) (id slot : ℕ) (v : Value) → IfOk (setting d w id slot v) (Calm w)
unfolding setting
setting_calm d w id slot v = bind_ok (spec_at d w.objects id slot) _ (Calm w) (λ s _. only_calm w (has_kind v s.kind && lives w.objects v) arms.Value (settled d w id slot s v (clamp (class_in w.objects) d.types s v)) (settled_calm d w id slot s v (clamp (class_in w.objects) d.types s v)))

-- ** transfers

set_by_calm : (w : World) (number : ℕ) (end : End) (v : Option Value) → IfOk (set_by w number end v) (Calm w)
set_by_calm w number end None = record { floating = refl; grows = prefix_same w.transcript }
set_by_calm w number end (Some v) = record { floating = refl; grows = prefix_same w.transcript }

carried_calm : (d : Definition) (w : World) (b : Binding) (source target : End) → IfOk (carried d w b source target) (Calm w)
unfolding carried
carried_calm d w b source target = bind_ok (spec_at d w.objects source.object source.slot) _ (Calm w) (λ from _. bind_ok (spec_at d w.objects target.object target.slot) _ (Calm w) (λ to _.
    bind_ok (asked w.objects source.object (value_at source.slot)) _ (Calm w) (λ v _. by from to (inverted (inverts b) (transformed d.types from.kind to.kind v)))))
  where
    by : (from to : Spec) (v : Option Value)
        → IfOk (only_if (is_readable from) arms.Flags (only_if (is_writable to) arms.Flags (only_if (not (is_construct_only to)) arms.ConstructOnly (set_by w b.number target v)))) (Calm w)
    by from to v =
        only_calm w (is_readable from) arms.Flags (only_if (is_writable to) arms.Flags (only_if (not (is_construct_only to)) arms.ConstructOnly (set_by w b.number target v)))
        (only_calm w (is_writable to) arms.Flags (only_if (not (is_construct_only to)) arms.ConstructOnly (set_by w b.number target v))
        (only_calm w (not (is_construct_only to)) arms.ConstructOnly (set_by w b.number target v) (set_by_calm w b.number target v)))

pub transferring_calm : (d : Definition) (w : World) (number : ℕ) (back : Bool) → IfOk (transferring d w number back) (Calm w)
transferring_calm d w number back = by back (binding_of number w.bindings)
  where
    by : (back : Bool) (b : Option Binding) → IfOk (carried_by d w back b) (Calm w)
    by back None = record { floating = refl; grows = prefix_same w.transcript }
    by false (Some b) = carried_calm d w b (source_end b) (target_end b)
    by true (Some b) = carried_calm d w b (target_end b) (source_end b)

-- ** events

set_given_calm : (w : World) (id slot : ℕ) (given : Given) → IfOk (set_given w id slot given) (Calm w)
unfolding set_given
set_given_calm w id slot given = bind_ok (known arms.Operand (given_value w given)) _ (Calm w) (λ v _. record { floating = refl; grows = prefix_same w.transcript })

pub carrying_set_calm : (d : Definition) (w : World) (place slot : ℕ) (given : Given) → IfOk (set_from_event d w place slot given) (Calm w)
unfolding set_from_event
carrying_set_calm d w place slot given = bind_ok (held_object w place) _ (Calm w) (λ id _. bind_ok (spec_at d w.objects id slot) _ (Calm w) (λ s _.
    only_calm w (is_writable s) arms.Flags (only_if (not (is_construct_only s)) arms.ConstructOnly (set_given w id slot given))
    (only_calm w (not (is_construct_only s)) arms.ConstructOnly (set_given w id slot given) (set_given_calm w id slot given))))

pub carrying_get_calm : (d : Definition) (w : World) (place slot : ℕ) → IfOk (get_from_event d w place slot) (Calm w)
unfolding get_from_event
carrying_get_calm d w place slot = bind_ok (held_object w place) _ (Calm w) (λ id _. bind_ok (spec_at d w.objects id slot) _ (Calm w) (λ s _. bind_ok (asked w.objects id (value_at slot)) _ (Calm w) (λ v _.
    only_calm w (is_readable s) arms.Flags (starts (with_result (said d w (lines.get id s.name v)) v) []) (record { floating = refl; grows = prefix_one w.transcript _ }))))

pub carrying_emit_calm : (d : Definition) (w : World) (place signal : ℕ) (args : List Given) (detail : Option (List ℕ)) → IfOk (emit_from_event d w place signal args detail) (Calm w)
unfolding emit_from_event
carrying_emit_calm d w place signal args detail = bind_ok (held_object w place) _ (Calm w) (λ id _. bind_ok (detail_in d w id signal detail) _ (Calm w) (λ stands _.
    bind_ok (given_values w args) _ (Calm w) (λ vs _. record { floating = refl; grows = prefix_same w.transcript })))

pub carrying_release_calm : (d : Definition) (w : World) (place : ℕ) → IfOk (release_from_event d w place) (Calm w)
unfolding release_from_event
carrying_release_calm d w place = bind_ok (known arms.Code (place_at d place)) _ (Calm w) (λ p _. bind_ok (held_object w place) _ (Calm w) (λ id _. record { floating = refl; grows = prefix_one w.transcript _ }))

-- ** forward references

set_forward_calm : (w : World) (id slot to : ℕ) (items : List Item) → IfOk (set_forward w id slot to items) (Calm w)
unfolding set_forward
set_forward_calm w id slot to items = bind_ok (held_object w to) _ (Calm w) (λ target _. record { floating = refl; grows = prefix_same w.transcript })

pub building_forward_calm : (d : Definition) (w : World) (place slot to : ℕ) (items : List Item) → IfOk (building_forward d w place slot to items) (Calm w)
unfolding building_forward
building_forward_calm d w place slot to items = bind_ok (held_object w place) _ (Calm w) (λ id _. bind_ok (spec_at d w.objects id slot) _ (Calm w) (λ s _.
    only_calm w (is_writable s) arms.Flags (only_if (not (is_construct_only s)) arms.ConstructOnly (set_forward w id slot to items))
    (only_calm w (not (is_construct_only s)) arms.ConstructOnly (set_forward w id slot to items) (set_forward_calm w id slot to items))))

-- ** thaws

pub thawing_calm : (w : World) (id : ℕ) (slots : List ℕ) → IfOk (thawing w id slots) (Calm w)
thawing_calm w id [] = record { floating = refl; grows = prefix_same w.transcript }
thawing_calm w id (slot ∷ slots) = record { floating = refl; grows = prefix_same w.transcript }
