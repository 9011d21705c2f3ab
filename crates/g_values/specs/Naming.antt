-- The members of a flags type that the words of a text call.
use Rattle.std.specs.Prelude.{ℕ, ◌-◌, ◌==◌, ◌||◌, unsigned_abs, bit_or, Bool, not, List, [], ◌∷◌, length, take, drop, reverse, if◌then◌else◌, Option, Some, option_map, option_and_then}
use Rattle.std.specs.List.{position_or_len, slice_split}
use Rattle.ui_machine.specs.Definition.Types.{Member}
use Rattle.type_tree.specs.Naming.{number_called}

-- no space, tab or carriage return
abbrev pub is_no_blank : ℕ → Bool
is_no_blank x = not (x == 32 || x == 9 || x == 13)

abbrev pub front_trimmed : List ℕ → List ℕ
front_trimmed text = drop (position_or_len is_no_blank text) text

abbrev pub back_trimmed : List ℕ → List ℕ
back_trimmed text = take (length text - position_or_len is_no_blank (reverse text)) text

-- a text without the blanks around it
abbrev pub trimmed : List ℕ → List ℕ
trimmed text = back_trimmed (front_trimmed text)

-- the bits that a word names; no word names none
abbrev pub bits_called : List Member → List ℕ → Option ℕ
bits_called members word = if length word == 0 then Some 0 else option_map unsigned_abs (number_called members word)

-- these bits with those that the words name, each with blanks around it
abbrev pub bits_with : List Member → ℕ → List (List ℕ) → Option ℕ
bits_with members bits [] = Some bits
bits_with members bits (part ∷ parts) = option_and_then (λ more. bits_with members (bit_or bits more) parts) (bits_called members (trimmed part))

abbrev pub is_bar : ℕ → Bool
is_bar x = x == 124

-- the bits that a text names by words between bars
abbrev pub bits_named : List Member → List ℕ → Option ℕ
bits_named members text = bits_with members 0 (slice_split is_bar text)
