-- The objects, by identity, and what may be done to one of them (GObject manual, GObject).
use Rattle.std.specs.Prelude.{Bool, List, None, Ok, Option, Some, option_map, slice_get, slice_set, suc, zero, ℕ}
use Rattle.ui_machine.specs.declared.arm.Arm.TheVariants as arms
use Rattle.ui_machine.specs.Definition.Values.{Value}
use Rattle.ui_machine.specs.Outcome.{After, Answer, known, ◌>>=◌}
use Rattle.ui_machine.specs.Seq.{read, total, write}

-- ** what there is of an object

-- what the machine has of an object
pub record Object : Type 0 where
  pub class : ℕ
  pub place : ℕ
  pub values : List Value  -- of its properties, by slot
  pub freezes : ℕ
  pub queue : List ℕ  -- the slots whose notification waits, each once, in order of first queueing
  pub children : List ℕ
  pub parent : Option ℕ
  pub disposed : Bool
  pub peer : Option ℕ  -- its number in the pool

-- by identity: identity i + 1 is at index i, None once the object is finalised
abbrev pub Objects : Type 0
Objects = List (Option Object)

-- ** objects by identity

-- the object of an identity, while it lives
abbrev pub living : Objects → ℕ → Option Object
living os zero = None
living os (suc i) = read None os i

-- the objects with this one, or none, under an identity
abbrev pub put : Objects → ℕ → Option Object → Objects
put os zero o = os
put os (suc i) o = write None os i o

-- 1 where something is there
abbrev pub one_if : {A : Type 0} → Option A → ℕ
one_if None = 0
one_if (Some x) = 1

-- how many live
abbrev pub live : Objects → ℕ
live os = total one_if os

-- the class of a living identity
abbrev pub class_in : Objects → ℕ → Option ℕ
class_in os id = option_map (λ (o : Object). o.class) (living os id)

-- that object, as an operand
abbrev pub object_at : Objects → ℕ → Answer Object
object_at os id = known arms.Operand (living os id)

-- what one object answers
unfoldable pub asked : {X : Type 0} → Objects → ℕ → (Object → Answer X) → Answer X
asked os id question = do
  o ← object_at os id
  question o

-- the objects with one changed, by a change that may be refused and answers something
unfoldable pub changed : {X : Type 0} → Objects → ℕ → (Object → Answer (After Object X)) → Answer (After Objects X)
changed os id change = do
  o ← object_at os id
  new ← change o
  Ok (record { state = put os id (Some new.state); answer = new.answer })

-- ** values

-- the value of a property
abbrev pub value_at : ℕ → Object → Answer Value
value_at slot o = known arms.Code (slice_get o.values slot)

-- with the value written, and the old one
unfoldable pub with_value : ℕ → Value → Object → Answer (After Object Value)
with_value slot v o = do
  old ← value_at slot o
  Ok (record { state = record o { values = slice_set o.values slot v }; answer = old })

-- ** identities

-- the greatest identity
abbrev pub most_identities : ℕ
most_identities = 18446744073709551615
