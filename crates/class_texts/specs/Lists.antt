-- JSON lists.
use Rattle.std.specs.Prelude.{ℕ, zero, suc, List, [], ◌∷◌, ◌++◌, codes}

-- texts, joined by commas
abbrev pub joined : List (List ℕ) → List ℕ
joined [] = []
joined (x ∷ []) = x
joined (x ∷ y ∷ xs) = x ++ (codes "," ++ joined (y ∷ xs))

-- texts that are JSON, as a list
abbrev pub list_text : List (List ℕ) → List ℕ
list_text xs = codes "[" ++ joined xs ++ codes "]"

-- what parts an entry of a list at this place from the one before
abbrev pub separator : ℕ → List ℕ
separator zero = []
separator (suc place) = codes ","
