-- Properties of a class, with their flags, defaults and ranges (GObject manual, GParamSpec).
use Rattle.std.specs.Prelude.{ℕ, ℤ, Bool, List, bit_and, nat_eq}
use Rattle.ui_machine.specs.Definition.Kinds.{Kind}
use Rattle.ui_machine.specs.Definition.Values.{Value}

pub record Spec : Type 0 where
  pub name : List ℕ  -- in canonical spelling
  pub kind : Kind
  pub flags : ℕ  -- GParamFlags, as bits
  pub default : Value
  pub low : ℤ  -- the least and the greatest number, at a kind of whole numbers
  pub high : ℤ
  pub weak : Bool

-- whether a set of flags has all of these
abbrev pub has_flags : ℕ → ℕ → Bool
has_flags these flags = nat_eq (bit_and flags these) these

abbrev pub is_readable : Spec → Bool
is_readable s = has_flags 1 s.flags

abbrev pub is_writable : Spec → Bool
is_writable s = has_flags 2 s.flags

abbrev pub is_construct : Spec → Bool
is_construct s = has_flags 4 s.flags

abbrev pub is_construct_only : Spec → Bool
is_construct_only s = has_flags 8 s.flags

abbrev pub is_lax : Spec → Bool
is_lax s = has_flags 16 s.flags

abbrev pub is_explicit_notify : Spec → Bool
is_explicit_notify s = has_flags 1073741824 s.flags
