-- Kinds of values (GObject manual, fundamental types), and kinds of registers.
use Rattle.std.specs.Prelude.{ℕ}

-- the four kinds of whole numbers
pub data Whole : Type 0 where
  int : Whole
  uint : Whole
  int64 : Whole
  uint64 : Whole

-- what a property, an argument or a result may hold; a type is given by its number in the tree
pub data Kind : Type 0 where
  bool : Kind
  whole : Whole → Kind
  text : Kind
  enum : (type : ℕ) → Kind
  flags : (type : ℕ) → Kind
  object : (type : ℕ) → Kind

-- what a register may hold
pub data RegisterKind : Type 0 where
  unset : RegisterKind
  plain : Kind → RegisterKind
  some : (type : ℕ) → RegisterKind  -- an object of the type, not null
  at : (place : ℕ) → RegisterKind  -- the object of a place
  at_or_null : (place : ℕ) → RegisterKind
