-- What a binding does as an end of it is notified (GObject manual, g_object_bind_property_full).
use Rattle.std.specs.Prelude.{Bool, List, None, Option, Some, [], cond, false, not, true, ℕ, ◌∷◌}
use Rattle.ui_machine.specs.declared.arm.Arm.TheVariants as arms
use Rattle.ui_machine.specs.Definition.{Definition}
use Rattle.ui_machine.specs.Definition.Properties.{has_flags, is_construct_only, is_readable, is_writable}
use Rattle.ui_machine.specs.Definition.Values.{Value}
use Rattle.ui_machine.specs.Definition.Values as values
use Rattle.ui_machine.specs.Outcome.{Answer, only_if, ◌>>=◌}
use Rattle.ui_machine.specs.Rules.Sets.{spec_at}
use Rattle.ui_machine.specs.Rules.Transform.{transformed}
use Rattle.ui_machine.specs.State.Bindings.{Binding, binding_of, with_busy}
use Rattle.ui_machine.specs.State.Config.{Started, World, starts}
use Rattle.ui_machine.specs.State.Objects.{asked, value_at}
use Rattle.ui_machine.specs.State.Tasks.{Setting, Task, Transferring, Unsetting}

-- a transfer that is due in an emission: none where the binding has ended, or sets
abbrev pub transfer_for : Option Binding → ℕ → Bool → List Task
transfer_for None number back = []
transfer_for (Some b) number back = cond b.busy [] (Transferring number back ∷ [])

-- ** what is set

-- the opposite, of a truth value alone
abbrev pub opposite : Value → Option Value
opposite (values.bool b) = Some (values.bool (not b))
opposite _ = None

-- whether a binding inverts
abbrev pub inverts : Binding → Bool
inverts b = has_flags 4 b.flags

-- the opposite, if it is asked for
abbrev pub inverted : Bool → Option Value → Option Value
inverted false v = v
inverted true None = None
inverted true (Some v) = opposite v

-- an end of a binding
pub record End : Type 0 where
  pub object : ℕ
  pub slot : ℕ

abbrev pub source_end : Binding → End
source_end b = record { object = b.source; slot = b.source_slot }

abbrev pub target_end : Binding → End
target_end b = record { object = b.target; slot = b.target_slot }

-- a value is set at an end, and the binding sets until all that this raises has ended; without a value nothing is set
abbrev pub set_by : World → ℕ → End → Option Value → Answer Started
set_by w number end None = starts w []
set_by w number end (Some v) =
    starts (record w { bindings = with_busy number true w.bindings }) (Setting end.object end.slot v ∷ Unsetting number ∷ [])

-- the value of one end is transformed, inverted and set at the other
unfoldable pub carried : Definition → World → Binding → (source target : End) → Answer Started
carried d w b source target = do
  from ← spec_at d w.objects source.object source.slot
  to ← spec_at d w.objects target.object target.slot
  v ← asked w.objects source.object (value_at source.slot)
  only_if (is_readable from) arms.Flags
      (only_if (is_writable to) arms.Flags
      (only_if (not (is_construct_only to)) arms.ConstructOnly
      (set_by w b.number target (inverted (inverts b) (transformed d.types from.kind to.kind v)))))

-- in one of the two directions
abbrev pub carried_by : Definition → World → Bool → Option Binding → Answer Started
carried_by d w back None = starts w []
carried_by d w false (Some b) = carried d w b (source_end b) (target_end b)
carried_by d w true (Some b) = carried d w b (target_end b) (source_end b)

-- a due transfer
abbrev pub transferring : Definition → World → ℕ → Bool → Answer Started
transferring d w number back = carried_by d w back (binding_of number w.bindings)

-- the binding no longer sets
abbrev pub unsetting : World → ℕ → Answer Started
unsetting w number = starts (record w { bindings = with_busy number false w.bindings }) []
