use Rattle.std.proofs.Common.{◌≡◌}
use Rattle.std.specs.Ordering.{nat_cmp}
use Rattle.std.specs.BTreeMap.Range.{entries_between}
use Rattle.std.specs.declared.ops.Bound.TheVariants.{Included, Unbounded}
use Rattle.slab.specs.Slab as slab
use Rattle.instance_tables.specs.Index.{in_order}
use Rattle.instance_tables.specs.View.{first_identity}
use Rattle.instance_tables.proofs.instances.Instances.first_from.Given as goal

-- the first one from the identity on is the first one of those that are left
abbrev pub invariant-loop-id : goal.invariant-loop-id
invariant-loop-id l =
    first_identity (in_order (slab.get l.self-inside.entries) (entries_between nat_cmp (Included l.fn.from.0) Unbounded l.self-inside.keys.entries))
    ≡ first_identity (in_order (slab.get l.self-inside.entries) l.id-iterator)
