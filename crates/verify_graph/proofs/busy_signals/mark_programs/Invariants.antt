use Rattle.std.proofs.Common.{take}
use Rattle.std.specs.List.{flat_map}
use Rattle.ui_machine.specs.Definition.Programs.{Program}
use Rattle.law_idle.specs.Idle.{named_in_blocks}
use Rattle.verify_graph.specs.Busy.{Marks}
use Rattle.verify_graph.proofs.busy_signals.mark_programs.Given as goal

abbrev pub invariant-loop-number : goal.invariant-loop-number
invariant-loop-number l = Marks l.lookups l.class (flat_map (λ (p : Program). named_in_blocks p.blocks) (take l.number l.lookups.programs)) l.initial.marks.items l.marks.items
