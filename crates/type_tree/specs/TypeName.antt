-- Names of types (GObject manual, GType: conventions on type names).
use Rattle.std.specs.Prelude.{ℕ, Bool, false, ◌&&◌, ◌||◌, nat_eq, nat_le, List, [], ◌∷◌, length}
use Rattle.std.specs.List.{list_all}

-- whether a code lies between two others, both included
abbrev pub is_within : ℕ → ℕ → ℕ → Bool
is_within low high x = nat_le low x && nat_le x high

-- an ASCII letter or `_`
abbrev pub is_first : ℕ → Bool
is_first x = is_within 97 122 x || is_within 65 90 x || nat_eq x 95

-- a letter, a digit, `-`, `_` or `+`
abbrev pub is_further : ℕ → Bool
is_further x = is_within 48 57 x || nat_eq x 45 || nat_eq x 43 || is_first x

-- at least three characters
abbrev pub is_type_name : List ℕ → Bool
is_type_name [] = false
is_type_name (x ∷ xs) = nat_le 2 (length xs) && is_first x && list_all is_further xs
