use Rattle.std.proofs.Common.{◌∙◌, ◌+◌, refl, sym, ap}
use Rattle.param_specs.specs.Table.{own_of}
use Rattle.param_specs.proofs.Specs.{count-child, count-root}
use Rattle.param_specs.proofs.table.SpecTable.+slots_of.Goals as goal

pub returns-in-Some-clause-count : goal.returns-in-Some-clause-count
returns-in-Some-clause-count t c =
    ap (λ n. c.slots_of.result + n) c.own_count-own.ensures.count
    ∙ count-child c.args.tree.now c.in-Some.ensures.tree c.args.self.now c.args.t c.in-Some.parent c.slots_of.result (own_of c.args.self.now c.args.t) (sym c.in-Some.ensures.parent) c.slots_of.ensures.count refl

pub returns-in-None-clause-count : goal.returns-in-None-clause-count
returns-in-None-clause-count t c =
    c.own_count-own.ensures.count ∙ count-root c.args.tree.now c.in-None.ensures.tree c.args.self.now c.args.t (own_of c.args.self.now c.args.t) (sym c.in-None.ensures.parent) refl
