use Rattle.std.proofs.Common.{map, take}
use Rattle.bytecode.specs.View.{block_view}
use Rattle.law_idle.specs.Idle.{named_in_blocks}
use Rattle.verify_graph.specs.Busy.{Marks}
use Rattle.verify_graph.proofs.busy_signals.mark_blocks.Given as goal

abbrev pub invariant-loop-number : goal.invariant-loop-number
invariant-loop-number l = Marks l.lookups l.class (named_in_blocks (map block_view (take l.number l.blocks))) l.initial.marks.items l.marks.items
