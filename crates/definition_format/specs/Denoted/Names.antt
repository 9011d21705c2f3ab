-- Names of what is neither a type nor a property or signal: ids, shapes, methods and peers, and members of enums and flags types with their
-- nicks.
use Rattle.std.specs.Prelude.{ℕ, List, length, Bool, ◌&&◌, ◌||◌, nat_eq, if◌then◌else◌, Result, Ok, Err}
use Rattle.std.specs.List.{list_all}
use Rattle.type_tree.specs.TypeName.{is_within}
use Rattle.definition_format.specs.Refusals.{Refusal, shape, duplicate}

-- an ASCII letter, a digit, `-` or `_`
abbrev pub is_name_byte : ℕ → Bool
is_name_byte x = is_within 97 122 x || is_within 65 90 x || is_within 48 57 x || nat_eq x 45 || nat_eq x 95

-- 1 to 64 of them
abbrev pub is_name : List ℕ → Bool
is_name id = is_within 1 64 (length id) && list_all is_name_byte id

-- a name that is not taken
abbrev pub unless_taken : List ℕ → List ℕ → Bool → Result (Unit {0}) Refusal
unless_taken path name taken = if is_name name then (if taken then Err (duplicate path) else Ok tt) else Err (shape path)
