use Rattle.std.proofs.Common.{is_some, sym, ap, ◌∙◌}
use Rattle.std.specs.declared.ops.Bound.TheVariants.{Included, Unbounded}
use Rattle.slab.specs.Slab as slab
use Rattle.instance_tables.specs.Index.{in_order}
use Rattle.instance_tables.specs.View.{first_identity}
use Rattle.instance_tables.proofs.Following.{copied_some, first_between, stops_some}
use Rattle.instance_tables.proofs.Slabs.{in_rising_order}
use Rattle.instance_tables.proofs.instances.Instances.first_from.Goals as goal

pub loop-id-init : goal.loop-id-init
loop-id-init c =
    ap (λ ks. first_identity (in_order (slab.get c.self.inside.entries) ks)) (sym (c.into_iter-id-iterator.ensures.into_iter_gives ∙ c.range-id-items.ensures.between tt))

pub returns-then-is_some-clause-first : goal.returns-then-is_some-clause-first
returns-then-is_some-clause-first c =
    sym
    (first_between (Included c.args.from.0) Unbounded (slab.get c.self.inside.entries) c.self.inside.keys.entries _ c.self.view_is ∙ c.loop-id.invariant
    ∙ stops_some (slab.get c.self.inside.entries) _ _ _ c.in-Some.ensures.steps
    (ap is_some (sym c.get.ensures) ∙ (copied_some c.get.result ∙ (sym c.is_some.ensures ∙ c.if-is_some.true))))

pub returns-then-is_some-clause-ordered : goal.returns-then-is_some-clause-ordered
returns-then-is_some-clause-ordered c = in_rising_order c.self.inside.entries c.self.inside.keys _ c.self.invariant c.self.view_is

pub returns-clause-first : goal.returns-clause-first
returns-clause-first c =
    sym
    (first_between (Included c.args.from.0) Unbounded (slab.get c.self.inside.entries) c.self.inside.keys.entries _ c.self.view_is ∙ c.loop-id.invariant
    ∙ ap (λ ks. first_identity (in_order (slab.get c.self.inside.entries) ks)) c.in-None.ensures.steps.0)

pub returns-clause-ordered : goal.returns-clause-ordered
returns-clause-ordered c = in_rising_order c.self.inside.entries c.self.inside.keys _ c.self.invariant c.self.view_is
