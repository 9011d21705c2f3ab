-- A set of a property, and the notification that it raises (GObject manual, g_object_set_property).
use Rattle.std.specs.Prelude.{ℕ, Bool, true, false, cond, nat_eq, ◌&&◌, ◌||◌, not, [], ◌∷◌, Option, Some, None, is_some}
use Rattle.ui_machine.specs.declared.arm.Arm.TheVariants as arms
use Rattle.ui_machine.specs.Definition.Kinds.{Kind}
use Rattle.ui_machine.specs.Definition.Kinds as kinds
use Rattle.ui_machine.specs.Definition.Values.{Value}
use Rattle.ui_machine.specs.Definition.Values as values
use Rattle.ui_machine.specs.Rules.Transform.{same_whole, same_value}
use Rattle.ui_machine.specs.Rules.Validation.{clamp}
use Rattle.ui_machine.specs.Definition.Properties.{Spec, is_readable, is_writable, is_construct_only, is_explicit_notify, is_lax}
use Rattle.ui_machine.specs.Definition.{Definition}
use Rattle.ui_machine.specs.Definition.Lookups.{spec_of}
use Rattle.ui_machine.specs.Output.Lines as lines
use Rattle.ui_machine.specs.State.Objects.{Object, Objects, living, class_in, object_at, changed, with_value}
use Rattle.ui_machine.specs.State.Tasks.{Notifying}
use Rattle.ui_machine.specs.State.Config.{World, Started, starts, said, with_objects}
use Rattle.ui_machine.specs.Outcome.{Answer, ◌>>=◌, known, only_if}
use Rattle.ui_machine.specs.Rules.NotifyQueue.{raised}

-- the spec of a living object's property
unfoldable pub spec_at : Definition → Objects → ℕ → ℕ → Answer Spec
spec_at d os id slot = do
  o ← object_at os id
  known arms.Code (spec_of d o.class slot)

-- whether a value is one of the kind, its members, range and class left aside
abbrev pub has_kind : Value → Kind → Bool
has_kind (values.bool b) kinds.bool = true
has_kind (values.whole k n) (kinds.whole l) = same_whole k l
has_kind (values.text s) kinds.text = true
has_kind (values.enum t n) (kinds.enum u) = nat_eq t u
has_kind (values.flags t bits) (kinds.flags u) = nat_eq t u
has_kind (values.object o) (kinds.object t) = true
has_kind _ _ = false

-- an object that is named lives
abbrev pub lives : Objects → Value → Bool
lives os (values.bool b) = true
lives os (values.whole kind n) = true
lives os (values.text s) = true
lives os (values.enum type n) = true
lives os (values.flags type bits) = true
lives os (values.object None) = true
lives os (values.object (Some i)) = is_some (living os i)

-- ** notifications

-- a notification is raised: queued on a frozen object, and else made at once
unfoldable pub raising : World → ℕ → ℕ → Answer Started
raising w id slot = do
  raise ← changed w.objects id (raised slot)
  starts (with_objects w raise.state) (cond raise.answer (Notifying id slot ∷ []) [])

-- a notification is raised if the test holds
abbrev pub raising_if : Bool → World → ℕ → ℕ → Answer Started
raising_if false w id slot = starts w []
raising_if true w id slot = raising w id slot

-- whether a write of a property is notified
abbrev pub notifies : Spec → Value → Value → Bool
notifies s old new = is_readable s && (not (is_explicit_notify s) || not (same_value old new))

-- ** sets

-- what a program, an event or the builder may set
abbrev pub if_settable : {X : Type 0} → Spec → Answer X → Answer X
if_settable s answer = only_if (is_writable s) arms.Flags (only_if (not (is_construct_only s)) arms.ConstructOnly answer)

-- whether an object lives and is disposed
abbrev pub is_disposed : Option Object → Bool
is_disposed None = false
is_disposed (Some o) = o.disposed

-- a value, null if it names a disposed object
abbrev pub unless_disposed : Objects → Value → Value
unless_disposed os (values.bool b) = values.bool b
unless_disposed os (values.whole kind n) = values.whole kind n
unless_disposed os (values.text s) = values.text s
unless_disposed os (values.enum type n) = values.enum type n
unless_disposed os (values.flags type bits) = values.flags type bits
unless_disposed os (values.object None) = values.object None
unless_disposed os (values.object (Some i)) = values.object (cond (is_disposed (living os i)) None (Some i))

-- the value that is written: a weak property takes no disposed object
abbrev pub without_disposed : Objects → Spec → Value → Value
without_disposed os s v = cond s.weak (unless_disposed os v) v

-- a value is written, the line of the set is said, and the notification is raised
unfoldable pub written : Definition → World → ℕ → ℕ → Spec → Value → Answer Started
written d w id slot s v = do
  write ← changed w.objects id (with_value slot v)
  raising_if (notifies s write.answer v) (said d (with_objects w write.state) (lines.set id s.name v)) id slot

-- a set whose value validation would change is refused, unless the property is lax
abbrev pub settled : Definition → World → ℕ → ℕ → Spec → Value → Value → Answer Started
settled d w id slot s v valid =
    cond (same_value valid v || is_lax s) (written d w id slot s (without_disposed w.objects s valid))
    (starts (said d w (lines.refused id s.name v)) [])

-- a due set
unfoldable pub setting : Definition → World → ℕ → ℕ → Value → Answer Started
setting d w id slot v = do
  s ← spec_at d w.objects id slot
  only_if (has_kind v s.kind && lives w.objects v) arms.Value (settled d w id slot s v (clamp (class_in w.objects) d.types s v))
