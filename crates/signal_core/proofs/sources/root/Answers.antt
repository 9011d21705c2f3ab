use Rattle.std.proofs.Common.{sym, arith}
use Rattle.signal_core.proofs.Walks.{ancestor_more}
use Rattle.signal_core.proofs.sources.root.Goals as goal

pub line-preserved : goal.line-preserved
line-preserved c = record {
  above = ancestor_more c.args.tree.now c.args.t c.line.height c.line.class c.in-Some.parent c.line.invariant.above (sym c.in-Some.ensures.parent);
  few = omega (arith, c.line.invariant.few, c.in-Some.ensures.before);
}
