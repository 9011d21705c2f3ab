use Rattle.std.proofs.Common.{◌∙◌, ap, sym, subst}
use Rattle.param_specs.specs.View.{specs_in, lists_of, AllNamed}
use Rattle.param_specs.specs.Table.{own_of}
use Rattle.param_specs.proofs.Lists.{SameSpecs-grown, AllNamed-grown}
use Rattle.param_specs.proofs.growing.grow.Goals as goal

pub growing-preserved : goal.growing-preserved
growing-preserved c = (
  λ u. ap (λ l. own_of (lists_of (λ m. specs_in m.entries) l) u) c.in_ok-push.ensures.items
      ∙ SameSpecs-grown (λ m. specs_in m.entries) c.growing.lists.items c.new.result (ap specs_in c.new.ensures.empty) u ∙ c.growing.invariant.0 u,
  λ all. subst (AllNamed (λ m. m.entries)) (sym c.in_ok-push.ensures.items)
      (AllNamed-grown (λ m. m.entries) c.growing.lists.items c.new.result c.new.ensures.empty (c.growing.invariant.1 all)),
)
