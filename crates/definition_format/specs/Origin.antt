-- Where definitions come from: bytes that denote them.
use Rattle.std.specs.Prelude.{◌≡◌, ℕ, List, Ok}
use Rattle.ui_machine.specs.Definition.{Definition}
use Rattle.definition_format.specs.Denoted.{denoted}

-- some bytes denote the definition
pub record IsDenoted (d : Definition) : Type 0 where
  pub bytes : List ℕ
  pub is : denoted bytes ≡ Ok d
