use Rattle.std.proofs.Common.{map, take}
use Rattle.bytecode.specs.View.{instruction_view}
use Rattle.law_idle.specs.Idle.{named_in}
use Rattle.verify_graph.specs.Busy.{Marks}
use Rattle.verify_graph.proofs.busy_signals.mark_code.Given as goal

abbrev pub invariant-loop-number : goal.invariant-loop-number
invariant-loop-number l = Marks l.lookups l.class (named_in (map instruction_view (take l.number l.code))) l.initial.marks.items l.marks.items
