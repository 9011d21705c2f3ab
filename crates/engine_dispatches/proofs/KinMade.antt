-- The children and the parents of good objects were made.
use Rattle.std.proofs.Common.{◌≤◌, ℕ, List, [], ◌∷◌, length, Option, None, Some, IfSome, refl}
use Rattle.std.specs.List.{AllByRecursion}
use Rattle.ui_machine.specs.Definition.{Definition}
use Rattle.ui_machine.specs.State.Config.{World}
use Rattle.instance_tables.proofs.Families.{was_made}
use Rattle.law_runs.specs.Kin.{HasKinMade}
use Rattle.law_runs.proofs.LivingProofs.{children_living}
use Rattle.law_typing.specs.Good.Objects.{FamilyGood, ObjectsGood}
use Rattle.law_typing.specs.Good.Living.{IsLiving}
use Rattle.law_typing.specs.Verdict.Accepted.{Each}

module _ (d : Definition) (w : World) (good : ObjectsGood d w) where
  all_made : (children : List ℕ) → Each (IsLiving w) children → AllByRecursion (λ child. child ≤ length w.objects) children
  all_made [] lives = tt
  all_made (child ∷ children) lives = ((was_made w.objects child lives.0).1, all_made children lives.1)

  parent_made : (id : ℕ) (parent : Option ℕ) → FamilyGood w.objects id parent → IfSome parent (λ above. above ≤ length w.objects)
  parent_made id None family = tt
  parent_made id (Some above) family = (was_made w.objects above (rw family.1 refl)).1

  pub kin_made : HasKinMade w
  kin_made id o there = record { children = all_made o.children (children_living d w good id o there); parent = parent_made id o.parent (good id o there).parent }
