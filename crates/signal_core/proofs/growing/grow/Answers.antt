use Rattle.std.proofs.Common.{◌∙◌, ap, arith}
use Rattle.signal_core.specs.Growing.{items_of}
use Rattle.signal_core.proofs.Lists.{SameItems-grown}
use Rattle.signal_core.proofs.growing.grow.Goals as goal

pub growing-preserved : goal.growing-preserved
growing-preserved g c = (
  λ u. ap (λ l. items_of (λ v. v.items) l u) c.in_ok-push.ensures.items
      ∙ SameItems-grown (λ v. v.items) c.growing.lists.items c.new.result c.new.ensures.items u ∙ c.growing.invariant.0 u,
  omega (arith, c.in_ok-push.ensures.len, c.growing.invariant.1, c.growing-test.true, c.len.ensures, c.requires),
)
