use Rattle.std.proofs.Common.{false, arith}
use Rattle.verify_graph.proofs.BusySignals.{read_or}
use Rattle.verify_graph.proofs.Prefixes.{read_past}
use Rattle.verify_graph.proofs.busy_channels.is_marked.Goals as goal

pub returns-then-number-marks : goal.returns-then-number-marks
returns-then-number-marks c = read_past false c.args.marks.now c.args.number (omega arith)

pub returns : goal.returns
returns c = read_or c.args.marks.now c.args.number
