-- `get`, `set` and `notify` (GObject manual, g_object_get_property, g_object_set_property, g_object_notify).
use Rattle.std.specs.Prelude.{List, [], cond, ℕ, ◌∷◌}
use Rattle.ui_machine.specs.declared.arm.Arm.TheVariants as arms
use Rattle.ui_machine.specs.Definition.{Definition}
use Rattle.ui_machine.specs.Definition.Lookups.{slot_of}
use Rattle.ui_machine.specs.Definition.Properties.{is_readable}
use Rattle.ui_machine.specs.Instructions.Registers.{gives, goes_on, operand_in, value_in}
use Rattle.ui_machine.specs.Outcome.{Answer, known, only_if, ◌>>=◌}
use Rattle.ui_machine.specs.Rules.Sets.{if_settable, raising, spec_at}
use Rattle.ui_machine.specs.State.Config.{Started, World}
use Rattle.ui_machine.specs.State.Objects.{asked, object_at, value_at}
use Rattle.ui_machine.specs.State.Tasks.{Frame, Setting}

-- the slot of an object's property by name
unfoldable pub slot_at : Definition → World → ℕ → List ℕ → Answer ℕ
slot_at d w id name = do
  o ← object_at w.objects id
  known arms.Code (slot_of d o.class name)

-- `get d o p`
unfoldable pub get_property : Definition → World → Frame → (to object : ℕ) → List ℕ → Answer Started
get_property d w f to object name = do
  id ← operand_in w f object
  slot ← slot_at d w id name
  s ← spec_at d w.objects id slot
  v ← asked w.objects id (value_at slot)
  only_if (is_readable s) arms.Flags (gives w to v f)

-- the set of a register's value
unfoldable pub set_from : World → Frame → (id slot from : ℕ) → Answer Started
set_from w f id slot from = do
  v ← value_in f from
  goes_on w (Setting id slot v ∷ []) f

-- `set o p s`
unfoldable pub set_property : Definition → World → Frame → ℕ → List ℕ → ℕ → Answer Started
set_property d w f object name from = do
  id ← operand_in w f object
  slot ← slot_at d w id name
  s ← spec_at d w.objects id slot
  if_settable s (set_from w f id slot from)

-- what a step starts, and then the rest of the program
unfoldable pub then_goes_on : Frame → Answer Started → Answer Started
then_goes_on f answer = do
  s ← answer
  goes_on s.world s.tasks f

-- `notify o p`: nothing where it is not readable
unfoldable pub notify_from_program : Definition → World → Frame → ℕ → List ℕ → Answer Started
notify_from_program d w f object name = do
  id ← operand_in w f object
  slot ← slot_at d w id name
  s ← spec_at d w.objects id slot
  cond (is_readable s) (then_goes_on f (raising w id slot)) (goes_on w [] f)
