-- Lists by type, one of which gets one item more.
use Rattle.std.specs.Prelude.{List, [], if◌then◌else◌, map, nat_eq, ℕ, ◌++◌, ◌≡◌, ◌∷◌}
use Rattle.ui_machine.specs.Seq.{read}

-- the list of a type
abbrev pub items_of : {V T : Type 0} → (V → List T) → List V → ℕ → List T
items_of items lists t = read [] (map items lists) t

-- one list has one more item at its end, and the others are the same
abbrev pub AddsItem : {V T : Type 0} → (V → List T) → List V → List V → ℕ → T → Type 0
AddsItem items old new t x = (u : ℕ) → items_of items new u ≡ (if nat_eq u t then items_of items old u ++ x ∷ [] else items_of items old u)

-- all lists are the same
abbrev pub SameItems : {V T : Type 0} → (V → List T) → List V → List V → Type 0
SameItems items old new = (u : ℕ) → items_of items new u ≡ items_of items old u
