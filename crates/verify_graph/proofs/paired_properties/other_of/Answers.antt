use Rattle.std.proofs.Common.{None, arith}
use Rattle.verify_graph.proofs.Prefixes.{read_index, read_past}
use Rattle.verify_graph.proofs.paired_properties.other_of.Goals as goal

pub returns-then-at-others : goal.returns-then-at-others
returns-then-at-others c = read_index None c.args.others.now c.args.number None (omega arith)

pub returns-else-at-others : goal.returns-else-at-others
returns-else-at-others c = read_past None c.args.others.now c.args.number (omega arith)
