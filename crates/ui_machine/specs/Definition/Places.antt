-- What a definition declares: objects and prototypes with what is given to them, and bindings (GTK manual, GtkBuilder).
use Rattle.std.specs.Prelude.{Bool, List, Option, ℕ}
use Rattle.ui_machine.specs.Definition.Values.{Value}

-- a value as a definition or an event gives it: itself, or the object of a place
pub data Given : Type 0 where
  value : Value → Given
  named : (place : ℕ) → Given

pub record GivenProperty : Type 0 where
  pub slot : ℕ
  pub given : Given

-- a signal of an object, with the program that it runs
pub record Attached : Type 0 where
  pub signal : List ℕ
  pub detail : Option (List ℕ)
  pub program : ℕ
  pub after : Bool
  pub swapped : Bool
  pub with : Option ℕ  -- the place of the data object

-- an object or a prototype; a place's number is its index: objects in document order, then prototypes
pub record Place : Type 0 where
  pub id : List ℕ
  pub class : ℕ
  pub is_prototype : Bool
  pub parent : Option ℕ
  pub given : List GivenProperty  -- in the given order
  pub peers : List (List ℕ)  -- of an object one at most
  pub signals : List Attached

-- a binding, between two properties by place and slot
pub record Bind : Type 0 where
  pub name : Option (List ℕ)
  pub source : ℕ
  pub source_slot : ℕ
  pub target : ℕ
  pub target_slot : ℕ
  pub flags : ℕ  -- GBindingFlags, as bits: bidirectional 1, sync-create 2, invert-boolean 4
  pub at : ℕ  -- its entry in the list of its target's properties
