-- `object`, `new`, `sink`, `orphan`, `dispose`, `adopt`, `freeze` and `thaw` (GObject manual, GObject).
use Rattle.std.specs.Prelude.{Bool, List, None, Ok, Option, Some, [], codes, cond, false, is_some, length, nat_lt, not, suc, ℕ, ◌&&◌, ◌+◌, ◌||◌, ◌∷◌}
use Rattle.ui_machine.specs.declared.arm.Arm.TheVariants as arms
use Rattle.ui_machine.specs.Definition.{Definition}
use Rattle.ui_machine.specs.Definition.Lookups.{place_at, place_of}
use Rattle.ui_machine.specs.Definition.Places.{Place}
use Rattle.ui_machine.specs.Definition.Values.{Value}
use Rattle.ui_machine.specs.Definition.Values as values
use Rattle.ui_machine.specs.Instructions.Registers.{gives, goes_on, operand_in, tells, with_register}
use Rattle.ui_machine.specs.Outcome.{Answer, known, only_if, ◌>>=◌}
use Rattle.ui_machine.specs.Output.Lines as lines
use Rattle.ui_machine.specs.Rules.Build.{to_make}
use Rattle.ui_machine.specs.Rules.Children.{adopted, orphaned}
use Rattle.ui_machine.specs.Rules.Construction.{has_shape, making, object_held, peer_left, peer_to_take}
use Rattle.ui_machine.specs.Rules.Disposal.{disposed}
use Rattle.ui_machine.specs.Rules.NotifyQueue.{frozen_less, frozen_more}
use Rattle.ui_machine.specs.Rules.Sets.{is_disposed}
use Rattle.ui_machine.specs.State.Config.{Started, World, builder_entry, said, sunk, with_objects}
use Rattle.ui_machine.specs.State.Objects.{changed, live, living, most_identities, object_at}
use Rattle.ui_machine.specs.State.Tasks.{Frame, Task, Thawing}

-- an object, or null
abbrev pub or_null : Option Value → Value
or_null None = values.object None
or_null (Some v) = v

-- `object d id`: what the builder holds under the id, which is of an object
unfoldable pub look_up_object : Definition → World → Frame → ℕ → List ℕ → Answer Started
look_up_object d w f to id = do
  place ← known arms.Code (place_of d id)
  p ← known arms.Code (place_at d place)
  only_if (not p.is_prototype) arms.Code (gives w to (or_null (object_held (builder_entry w place))) f)

-- Whether one more object may be made, where the builder has still so many to make: they count in number and in identities. A class with a
-- shape also wants a peer.
abbrev pub has_room_for_object : Definition → World → ℕ → Place → Bool
has_room_for_object d w to_come p =
    nat_lt (live w.objects + to_come) d.most_objects
    && (nat_lt (length w.objects + to_come) most_identities
    && (not (has_shape d p.class) || is_some (peer_left w p)))

-- the object is made, and in one step its register written; the rest of its construction comes first
unfoldable pub made_new : Definition → World → Frame → ℕ → ℕ → Place → Answer Started
made_new d w f to place p = do
  made ← making d w place (peer_to_take d w p) false
  registers ← with_register to (Some (values.object (Some (suc (length w.objects))))) f.registers
  goes_on made.world made.tasks (record f { registers = registers })

-- an object of a prototype is made, or past the limit its line said
abbrev pub made_if_room : Definition → World → (to_come : ℕ) → Frame → (to place : ℕ) → Place → Answer Started
made_if_room d w to_come f to place p =
    cond (has_room_for_object d w to_come p) (made_new d w f to place p)
    (gives (said d w (lines.limit (codes "new"))) to (values.object None) f)

-- `new d c`, of a prototype
unfoldable pub creating : Definition → World → List Task → Frame → ℕ → List ℕ → Answer Started
creating d w rest f to id = do
  place ← known arms.Code (place_of d id)
  p ← known arms.Code (place_at d place)
  only_if p.is_prototype arms.Code (made_if_room d w (to_make rest) f to place p)

-- `sink o`
unfoldable pub sinking : World → Frame → ℕ → Answer Started
sinking w f object = do
  id ← operand_in w f object
  goes_on (sunk w id) [] f

-- `orphan o`
unfoldable pub orphaning : Definition → World → Frame → ℕ → Answer Started
orphaning d w f object = do
  id ← operand_in w f object
  o ← object_at w.objects id
  goes_on (orphaned d w id o.parent) [] f

-- the world after an object was disposed, unless it was before
abbrev pub disposed_once : Definition → World → ℕ → Answer World
disposed_once d w id = cond (is_disposed (living w.objects id)) (Ok w) (disposed d w id)

-- `dispose o`: once
unfoldable pub disposing : Definition → World → Frame → ℕ → Answer Started
disposing d w f object = do
  id ← operand_in w f object
  after ← disposed_once d w id
  goes_on after [] f

-- `adopt d o o`
unfoldable pub adopting : Definition → World → Frame → (to parent child : ℕ) → Answer Started
adopting d w f to parent child = do
  p ← operand_in w f parent
  c ← operand_in w f child
  family ← adopted d w p c
  tells family to f

-- `freeze o`
unfoldable pub freezing : World → Frame → ℕ → Answer Started
freezing w f object = do
  id ← operand_in w f object
  frozen ← changed w.objects id frozen_more
  goes_on (with_objects w frozen.state) [] f

-- `thaw o`
unfoldable pub thaw_notify : World → Frame → ℕ → Answer Started
thaw_notify w f object = do
  id ← operand_in w f object
  thaw ← changed w.objects id frozen_less
  goes_on (with_objects w thaw.state) (Thawing id thaw.answer ∷ []) f
