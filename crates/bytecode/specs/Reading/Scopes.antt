-- What instructions may name.
use Rattle.std.specs.Prelude.{ℕ, List}
use Rattle.ui_machine.specs.Definition.Types.{GType}

-- what instructions may name: types, and so many registers and blocks
pub record Scope : Type 0 where
  pub types : List GType
  pub registers : ℕ
  pub blocks : ℕ
