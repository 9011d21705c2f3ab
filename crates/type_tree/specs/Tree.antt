-- What is so of every tree.
use Rattle.std.specs.Prelude.{◌≡◌, ℕ, ◌<◌, ◌≤◌, List, length, Some}
use Rattle.ui_machine.specs.Definition.Types.{GType}
use Rattle.ui_machine.specs.Rules.Ancestry.{parent_of}

-- Parents come before their children, and there are 256 types at most.
pub record IsTree (types : List GType) : Type 0 where
  pub parents_first : (t p : ℕ) → parent_of types t ≡ Some p → p < t
  pub few : length types ≤ 256
