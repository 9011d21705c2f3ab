use Rattle.verify_order.specs.Numbers.{counted, of_node}
use Rattle.verify_order.proofs.Sums.{capped_before}
use Rattle.verify_order.proofs.passes.number_of.Goals as goal

pub returns : goal.returns
returns c =
    let l = capped_before c.args.rule.now.times (counted c.args.rule.now.adds (of_node c.args.values.now) c.args.nodes.now) c.args.rule.now.more c.args.most in
    cc
