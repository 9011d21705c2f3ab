use Rattle.std.proofs.Common.{◌∙◌, ◌<◌, ap, sym, subst, length, arith, length-append}
use Rattle.param_specs.specs.View.{spec_view}
use Rattle.param_specs.specs.Table.{own_of, specs_of}
use Rattle.param_specs.proofs.Specs.{spec-inherited, spec-own, spec-root, specs_of-child, specs_of-root}
use Rattle.param_specs.proofs.table.SpecTable.+spec_at.Goals as goal

pub own_spec-requires : goal.own_spec-requires
own_spec-requires t c = subst (λ n. c.args.slot < n) (ap length (specs_of-root c.args.tree.now c.in_default.ensures.tree c.args.self.now c.args.t (sym c.in_default.ensures.parent))) c.requires

pub returns-in_default : goal.returns-in_default
returns-in_default t c = spec-root c.args.tree.now c.in_default.ensures.tree c.args.self.now c.args.t c.args.slot (spec_view c.own_spec.result.now) (sym c.in_default.ensures.parent) c.own_spec.ensures

pub own_spec-requires-else-slot-inherited : goal.own_spec-requires-else-slot-inherited
own_spec-requires-else-slot-inherited t c =
    let whole = ap length (specs_of-child c.args.tree.now c.in-Some.ensures.tree c.args.self.now c.args.t c.in-Some.parent (sym c.in-Some.ensures.parent))
    ∙ length-append (specs_of c.args.tree.now c.args.self.now c.in-Some.parent) (own_of c.args.self.now c.args.t) in
    let within = subst (λ n. c.args.slot < n) whole c.requires in
    omega (arith, within, c.slots_of-inherited.ensures.count, c.if-slot-inherited.false)

pub returns-then-slot-inherited : goal.returns-then-slot-inherited
returns-then-slot-inherited t c =
    spec-inherited c.args.tree.now c.in-Some.ensures.tree c.args.self.now c.args.t c.in-Some.parent c.args.slot (spec_view c.spec_at.result.now) (sym c.in-Some.ensures.parent)
    (subst (λ n. c.args.slot < n) c.slots_of-inherited.ensures.count c.if-slot-inherited.true) c.spec_at.ensures

pub returns-else-slot-inherited : goal.returns-else-slot-inherited
returns-else-slot-inherited t c =
    spec-own c.args.tree.now c.in-Some.ensures.tree c.args.self.now c.args.t c.in-Some.parent c.args.slot c.slots_of-inherited.result (spec_view c.own_spec-else-slot-inherited.result.now) (sym c.in-Some.ensures.parent)
    c.slots_of-inherited.ensures.count c.if-slot-inherited.false c.own_spec-else-slot-inherited.ensures
