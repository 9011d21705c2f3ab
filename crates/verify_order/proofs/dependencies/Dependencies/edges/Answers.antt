use Rattle.std.proofs.Common.{sym, ap, subst, arith, length}
use Rattle.verify_order.specs.Kept.{AreStarts}
use Rattle.verify_order.proofs.Kept.{as_many}
use Rattle.verify_order.proofs.dependencies.Dependencies.edges.Goals as goal

pub list_at-requires : goal.list_at-requires
list_at-requires c = record {
  places =
      subst (λ xs. AreStarts xs c.as_slice-2.result.now) (sym c.as_slice.ensures.value)
      (subst (λ xs. AreStarts c.self.inside.starts.items xs) (sym c.as_slice-2.ensures.value) c.self.invariant);
  inside = omega (arith, c.requires, ap length c.self.view_is, as_many c.self.inside.starts.items c.self.inside.targets.items, ap length c.as_slice.ensures.value);
}
