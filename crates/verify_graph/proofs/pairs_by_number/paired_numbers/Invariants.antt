use Rattle.std.proofs.Common.{◌-◌, drop}
use Rattle.verify_graph.specs.Paired.{ArePaired}
use Rattle.verify_graph.specs.Pairs.{pairs_view}
use Rattle.verify_graph.proofs.pairs_by_number.paired_numbers.Given as goal

abbrev pub invariant-loop-behind : goal.invariant-loop-behind
invariant-loop-behind l = ArePaired l.numbers (drop (l.count - l.behind) (pairs_view l.pairs.items)) l.paired.firsts.items l.paired.others.items
