use Rattle.std.proofs.Common.{◌∙◌, ap}
use Rattle.verify_order.specs.Kept.{lists_in, with_last}
use Rattle.verify_order.proofs.Kept.{one_entry_more}
use Rattle.verify_order.proofs.dependencies.Dependencies.add_edge.Goals as goal

pub returns-clause-ok : goal.returns-clause-ok
returns-clause-ok c =
    ap (λ all. lists_in c.self.inside.starts.items all) c.in_ok-push.ensures.items
    ∙ (one_entry_more c.self.inside.starts.items c.self.inside.targets.items c.args.to c.self.invariant
    ∙ ap (λ lists. with_last lists c.args.to) c.self.view_is)
