-- What a transfer of a binding leads to, by the value that it carries.
use Rattle.std.proofs.Common.{◌≡◌, ◌∙◌, refl, ap, ℕ, Bool, true, false, not, Option, None, Some, IsSome, option_map, Ok}
use Rattle.ui_machine.specs.declared.arm.Arm.TheVariants as arms
use Rattle.ui_machine.specs.Definition.{Definition}
use Rattle.ui_machine.specs.Definition.Properties.{is_construct_only, is_readable, is_writable}
use Rattle.ui_machine.specs.Definition.Values.{Value}
use Rattle.ui_machine.specs.Definition.Lookups.{spec_of}
use Rattle.ui_machine.specs.Outcome.{Answer, known, only_if, ◌>>=◌}
use Rattle.ui_machine.specs.Rules.Sets.{spec_at}
use Rattle.ui_machine.specs.Rules.Transform.{transformed}
use Rattle.ui_machine.specs.Rules.Transfers.{End, carried, carried_by, inverted, set_by, transferring}
use Rattle.ui_machine.specs.State.Bindings.{Binding, binding_of}
use Rattle.ui_machine.specs.State.Config.{World}
use Rattle.ui_machine.specs.State.Objects.{Object, Objects, asked, living, value_at}
use Rattle.bindings.specs.Made.{back, forth, transfer_by}
use Rattle.bindings.specs.declared.binding.Transfer.{Transfer}
use Rattle.engine_world.specs.Able.{Able}
use Rattle.engine_world.proofs.Ableness.{first, leads_on, past}
use Rattle.engine_world.proofs.Signals.{bind_same}
use Rattle.engine_tasks.specs.TransferSteps.{carried_value, to_end}

tested : {X : Type 0} (readable writable only : Bool) (v : Option Value) (set : Option Value → Answer X)
    → only_if readable arms.Flags (only_if writable arms.Flags (only_if (not only) arms.ConstructOnly (set v)))
    ≡ (only_if readable arms.Flags (only_if writable arms.Flags (only_if (not only) arms.ConstructOnly (Ok v))) >>= set)
tested false writable only v set = refl
tested true false only v set = refl
tested true true true v set = refl
tested true true false v set = refl

-- an object lives whose property has a spec
spec_lives : (d : Definition) (os : Objects) (id slot : ℕ) → Able (spec_at d os id slot) → IsSome (living os id)
unfolding spec_at
spec_lives d os id slot able = by (living os id) able
  where
    by : (o : Option Object) → Able (known arms.Operand o >>= λ (x : Object). known arms.Code (spec_of d x.class slot)) → IsSome o
    by None able = absurd able
    by (Some x) able = refl

-- a transfer's target lives
pub target_lives : (d : Definition) (w : World) (t : Transfer) → Able (carried_value d w t) → IsSome (living w.objects t.target.0)
target_lives d w t able =
    let from = leads_on (spec_at d w.objects t.source.0 t.source_slot) (first _ _ able) in
    spec_lives d w.objects t.target.0 t.target_slot (first _ _ (past (spec_at d w.objects t.source.0 t.source_slot) _ from.0 from.1 able))

module _ (d : Definition) (w : World) (b : Binding) where
  -- the tests and the value come first, and then the set
  then_sets : (t : Transfer) (source target : End) → source ≡ record { object = t.source.0; slot = t.source_slot } → target ≡ to_end t → (invert : Bool) → invert ≡ t.invert
      → (spec_at d w.objects source.object source.slot >>= λ from. spec_at d w.objects target.object target.slot >>= λ to. asked w.objects source.object (value_at source.slot) >>= λ v.
      only_if (is_readable from) arms.Flags (only_if (is_writable to) arms.Flags (only_if (not (is_construct_only to)) arms.ConstructOnly
      (set_by w b.number target (inverted invert (transformed d.types from.kind to.kind v))))))
      ≡ (carried_value d w t >>= λ v. set_by w b.number (to_end t) v)
  then_sets t source target is_source is_target invert inverts =
      rw (is_source, is_target, inverts)
      (bind_same (spec_at d w.objects t.source.0 t.source_slot) _ _ (λ v. set_by w b.number (to_end t) v) (λ from.
      bind_same (spec_at d w.objects t.target.0 t.target_slot) _ _ (λ v. set_by w b.number (to_end t) v) (λ to.
      bind_same (asked w.objects t.source.0 (value_at t.source_slot)) _ _ (λ v. set_by w b.number (to_end t) v) (λ v.
      tested (is_readable from) (is_writable to) (is_construct_only to) (inverted t.invert (transformed d.types from.kind to.kind v)) (λ v. set_by w b.number (to_end t) v)))))

  carries : (is_back : Bool) → carried_by d w is_back (Some b) ≡ (carried_value d w (transfer_by is_back b) >>= λ v. set_by w (transfer_by is_back b).number (to_end (transfer_by is_back b)) v)
  unfolding carried
  carries false = then_sets (forth b) _ _ refl refl _ refl
  carries true = then_sets (back b) _ _ refl refl _ refl

module _ (d : Definition) (w : World) (number : ℕ) (is_back : Bool) (t : Transfer) (found : Some t ≡ option_map (transfer_by is_back) (binding_of number w.bindings)) where
  -- a due transfer, by its value
  pub transfers_by : transferring d w number is_back ≡ (carried_value d w t >>= λ v. set_by w t.number (to_end t) v)
  transfers_by = by (binding_of number w.bindings) found
    where
      by : (o : Option Binding) → Some t ≡ option_map (transfer_by is_back) o → carried_by d w is_back o ≡ (carried_value d w t >>= λ v. set_by w t.number (to_end t) v)
      by None none = cc none
      by (Some b) is =
          let same : transfer_by is_back b ≡ t = cc is in
          carries d w b is_back ∙ ap (λ (x : Transfer). carried_value d w x >>= λ v. set_by w x.number (to_end x) v) same

  pub transfer_sets : (v : Option Value) → carried_value d w t ≡ Ok v → transferring d w number is_back ≡ set_by w t.number (to_end t) v
  transfer_sets v is = transfers_by ∙ ap (λ (a : Answer (Option Value)). a >>= λ v. set_by w t.number (to_end t) v) is
