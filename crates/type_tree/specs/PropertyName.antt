-- Names of properties and signals (GObject manual, GParamSpec and GSignal: names are made of segments of letters and digits).
use Rattle.std.specs.Prelude.{ℕ, Bool, true, false, cond, ◌&&◌, ◌||◌, nat_eq, List, [], ◌∷◌}
use Rattle.type_tree.specs.TypeName.{is_within}

-- an ASCII letter
abbrev pub is_letter : ℕ → Bool
is_letter x = is_within 97 122 x || is_within 65 90 x

abbrev pub is_letter_or_digit : ℕ → Bool
is_letter_or_digit x = is_within 48 57 x || is_letter x

-- `-` or `_`
abbrev pub is_separator : ℕ → Bool
is_separator x = nat_eq x 45 || nat_eq x 95

-- whether what follows a letter or digit is the rest of a name: each separator is between two letters or digits
abbrev pub segments_follow : List ℕ → Bool
segments_follow [] = true
segments_follow (x ∷ []) = is_letter_or_digit x
segments_follow (x ∷ y ∷ xs) =
    cond (is_separator x) (is_letter_or_digit y && segments_follow xs) (is_letter_or_digit x && segments_follow (y ∷ xs))

abbrev pub is_property_name : List ℕ → Bool
is_property_name [] = false
is_property_name (x ∷ xs) = is_letter x && segments_follow xs
