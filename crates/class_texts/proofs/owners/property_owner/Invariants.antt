use Rattle.std.proofs.Common.{◌≡◌}
use Rattle.std.specs.Prelude.{is_some}
use Rattle.ui_machine.specs.Definition.Lookups.{slot_of}
use Rattle.ui_machine.specs.Rules.Ancestry.{lineage}
use Rattle.class_texts.specs.Owners.{last_with}
use Rattle.class_texts.proofs.owners.property_owner.Given as goal

abbrev pub invariant-line : goal.invariant-line
invariant-line l =
    last_with (λ c. is_some (slot_of l.definition c l.name)) l.owner (lineage l.definition.types l.at)
    ≡ last_with (λ c. is_some (slot_of l.definition c l.name)) l.fn.class (lineage l.definition.types l.fn.class)

abbrev pub decreases-line : goal.decreases-line
decreases-line l = l.at
