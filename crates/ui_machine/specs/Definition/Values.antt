-- Values: what a property, an argument or a register holds (GObject manual, GValue).
use Rattle.std.specs.Prelude.{ℕ, ℤ, Bool, List, Option}
use Rattle.ui_machine.specs.Definition.Kinds.{Whole}

-- A text is a list of bytes or null, an enum value a number, a flags value a set of bits, an object an identity or null.
pub data Value : Type 0 where
  bool : Bool → Value
  whole : (kind : Whole) (number : ℤ) → Value
  text : Option (List ℕ) → Value
  enum : (type : ℕ) (number : ℤ) → Value
  flags : (type bits : ℕ) → Value
  object : Option ℕ → Value
