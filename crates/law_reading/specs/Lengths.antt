-- How long the lists of a definition may be.
use Rattle.std.specs.Prelude.{◌≤◌, ◌*◌, length}
use Rattle.ui_machine.specs.Definition.{Definition}
use Rattle.ui_machine.specs.Definition.Places.{Place}
use Rattle.ui_machine.specs.Limits.{most_definition_bytes}
use Rattle.ui_machine.specs.Seq.{total}
use Rattle.definition_format.specs.Origin.{IsDenoted}

-- Each of at most 512 objects has no more signals than its text has bytes, and no more properties that are bound.
pub record HasShortLists (d : Definition) : Type 0 where
  pub signals : total (λ (p : Place). length p.signals) d.places ≤ 512 * most_definition_bytes
  pub bindings : length d.bindings ≤ 512 * most_definition_bytes

abbrev pub DenotedAreShort : Type 0
DenotedAreShort = (d : Definition) → IsDenoted d → HasShortLists d
