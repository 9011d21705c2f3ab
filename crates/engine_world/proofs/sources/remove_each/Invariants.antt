use Rattle.std.proofs.Common.{◌≡◌, ℕ, ◌+◌, ◌≤◌, length}
use Rattle.ui_machine.specs.Seq.{total}
use Rattle.ui_machine.specs.State.References.{in_source}
use Rattle.ui_machine.specs.State.Sources.{without_program}
use Rattle.instance_tables.specs.Store.{count_of}
use Rattle.engine_world.specs.Counting.{OnlyCounts}
use Rattle.engine_world.proofs.sources.remove_each.Given as goal

abbrev pub invariant-loop-due : goal.invariant-loop-due
invariant-loop-due l = record {
  left : without_program l.program l.context.sources ≡ without_program l.program l.initial.context.sources;
  beside : l.context ≡ record l.initial.context { sources = l.context.sources };
  only : OnlyCounts l.initial.table l.table;
  counts : (o : ℕ) → count_of l.table.counts o + total (in_source o) l.initial.context.sources ≡ count_of l.initial.table.counts o + total (in_source o) l.context.sources;
  held : (o : ℕ) → total (in_source o) l.context.sources ≤ count_of l.table.counts o;
}

abbrev pub decreases-loop-due : goal.decreases-loop-due
decreases-loop-due l = length l.context.sources
