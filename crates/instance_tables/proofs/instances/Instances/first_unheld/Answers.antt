use Rattle.std.proofs.Common.{sym, ap, ◌∙◌, arith}
use Rattle.std.specs.Option.{option_copied}
use Rattle.std.specs.declared.ops.Bound.TheVariants.{Included, Unbounded}
use Rattle.slab.specs.Slab as slab
use Rattle.instance_tables.specs.Index.{in_order}
use Rattle.instance_tables.specs.View.{first_unheld}
use Rattle.instance_tables.proofs.InOrder.{first_between, passes_empty, passes_held, stops_unheld}
use Rattle.instance_tables.proofs.Slabs.{in_rising_order}
use Rattle.instance_tables.proofs.instances.Instances.first_unheld.Goals as goal

pub loop-id-init : goal.loop-id-init
loop-id-init c =
    ap (λ ks. first_unheld (in_order (slab.get c.self.inside.entries) ks)) (sym (c.into_iter-id-iterator.ensures.into_iter_gives ∙ c.range-id-items.ensures.between tt))

pub loop-id-preserved-in_default : goal.loop-id-preserved-in_default
loop-id-preserved-in_default c =
    c.loop-id.invariant
    ∙ ap first_unheld (passes_empty (slab.get c.self.inside.entries) _ _ _ c.in-Some.ensures.steps (sym c.get.ensures ∙ ap option_copied c.in_default.is))

pub loop-id-preserved : goal.loop-id-preserved
loop-id-preserved c =
    c.loop-id.invariant
    ∙ passes_held (slab.get c.self.inside.entries) _ _ _ c.in-Some.ensures.steps _ (sym c.get.ensures ∙ ap option_copied c.in-Some-get.is) (omega (arith, c.if-entry-eq0.false))

pub returns-then-entry-eq0-clause-first : goal.returns-then-entry-eq0-clause-first
returns-then-entry-eq0-clause-first c =
    sym
    (first_between (Included c.args.from.0) Unbounded (slab.get c.self.inside.entries) c.self.inside.keys.entries _ c.self.view_is ∙ c.loop-id.invariant
    ∙ stops_unheld (slab.get c.self.inside.entries) _ _ _ c.in-Some.ensures.steps _ (sym c.get.ensures ∙ ap option_copied c.in-Some-get.is) (omega (arith, c.if-entry-eq0.true)))

pub returns-then-entry-eq0-clause-ordered : goal.returns-then-entry-eq0-clause-ordered
returns-then-entry-eq0-clause-ordered c = in_rising_order c.self.inside.entries c.self.inside.keys _ c.self.invariant c.self.view_is

pub returns-clause-first : goal.returns-clause-first
returns-clause-first c =
    sym
    (first_between (Included c.args.from.0) Unbounded (slab.get c.self.inside.entries) c.self.inside.keys.entries _ c.self.view_is ∙ c.loop-id.invariant
    ∙ ap (λ ks. first_unheld (in_order (slab.get c.self.inside.entries) ks)) c.in-None.ensures.steps.0)

pub returns-clause-ordered : goal.returns-clause-ordered
returns-clause-ordered c = in_rising_order c.self.inside.entries c.self.inside.keys _ c.self.invariant c.self.view_is
