-- Laws of what is what.
use Rattle.std.specs.Prelude.{◌≡◌, ℕ, ◌<◌, nat_eq, true, List, [], length, None, Some}
use Rattle.std.specs.List.{list_any}
use Rattle.ui_machine.specs.Definition.Types.{GType}
use Rattle.ui_machine.specs.Rules.Ancestry.{parent_of, implemented_by, is_a}

-- a parent comes before its children, and an interface is only itself
pub record IsTree (types : List GType) : Type 0 where
  pub earlier : (t parent : ℕ) → parent_of types t ≡ Some parent → parent < t
  pub alone : (t interface : ℕ) → list_any (nat_eq interface) (implemented_by types t) ≡ true →
      (parent_of types interface ≡ None) × (implemented_by types interface ≡ [])

abbrev pub IsAReflexive : Type 0
IsAReflexive = (types : List GType) (a : ℕ) → is_a types a a ≡ true

abbrev pub IsATransitive : Type 0
IsATransitive =
    (types : List GType) (a b c : ℕ) → IsTree types → a < length types →
    is_a types a b ≡ true → is_a types b c ≡ true → is_a types a c ≡ true
