use Rattle.std.proofs.Common.{map, take}
use Rattle.definition_format.specs.Meaning.{attached_view}
use Rattle.law_idle.specs.Idle.{signals_attached}
use Rattle.verify_graph.specs.Busy.{Marks}
use Rattle.verify_graph.proofs.busy_signals.mark_attached.Given as goal

abbrev pub invariant-loop-number : goal.invariant-loop-number
invariant-loop-number l = Marks l.lookups l.class (signals_attached (map attached_view (take l.number l.signals))) l.initial.marks.items l.marks.items
