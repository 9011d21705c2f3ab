-- Classes past the last.
use Rattle.std.proofs.Common.{◌≡◌, ℕ, ◌≤◌, List, length, None, ap}
use Rattle.ui_machine.specs.Definition.{Definition}
use Rattle.ui_machine.specs.Definition.Lookups.{no_class}
use Rattle.ui_machine.specs.Definition.Names.{place_named}
use Rattle.engine_links.specs.Steps.{slot_called}
use Rattle.engine_links.proofs.Reading.{read-past}

-- a class past the last has no properties
pub no_slots : (d : Definition) (c : ℕ) → length d.classes ≤ c → (n : List ℕ) → slot_called d c n ≡ None
no_slots d c past n = ap (λ class. place_named (λ s. s.name) class.specs n) (read-past no_class d.classes c past)
