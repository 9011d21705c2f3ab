-- What instances end as, where a `&mut` to one of them is returned.
use Rattle.std.specs.Prelude.{ℕ, List, Option}
use Rattle.std.specs.Borrow.{LendsIf, Fml, MutBor}
use Rattle.std.specs.BTreeMap.{is_at}
use Rattle.std.specs.Map.{set_value}
use Rattle.std.specs.Ordering.{nat_cmp}
use Rattle.instance_tables.specs.declared.instance.Instance.{Instance}
use Rattle.instance_tables.specs.contracts.instance.Instance as instance
use Rattle.instance_tables.specs.contracts.instances.Instances as instances

-- the instances with another one under an identity that has one
abbrev pub with_instance : List (ℕ × Instance) → ℕ → Instance → List (ℕ × Instance)
with_instance es id x = set_value (is_at (nat_cmp id)) es x

-- once the borrow r ends, the identity has the last instance written through r, and at `None` all are as they were
abbrev pub LendsInstance : MutBor (List (ℕ × Instance)) → ℕ → Option (MutBor Instance) → Fml
LendsInstance s id r = LendsIf instances.the_row instance.the_row s r (with_instance s.now id) s.now
