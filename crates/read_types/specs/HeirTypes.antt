-- The types that a class is, collected once.
use Rattle.std.specs.Prelude.{ℕ, ◌≡◌}
use Rattle.std.specs.BTreeSet.{contains}
use Rattle.std.specs.Ordering.{nat_cmp}
use Rattle.type_tree.specs.Adding.{would_be}
use Rattle.read_types.specs.declared.overrides.Heir.{Heir}

-- the types that are kept are those that the class is
abbrev pub HasTypes : Heir → Type 0
HasTypes heir = (t : ℕ) → contains nat_cmp heir.ancestry.now t ≡ would_be heir.types.now heir.parent heir.named.now t
