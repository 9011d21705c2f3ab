use Rattle.std.proofs.Common.{◌≡◌, ◌<◌, drop, length}
use Rattle.verify_sketches.specs.Numbered.{next_blocks}
use Rattle.verify_numbers.specs.Columns.{linked}
use Rattle.verify_numbers.specs.Counts.{at}
use Rattle.verify_numbers.proofs.links.link_next.Given as goal

abbrev pub invariant-loop-number : goal.invariant-loop-number
invariant-loop-number l = record {
  there : 0 < length l.nodes.graph;
  so_far : linked l.nodes (next_blocks (at l.layout) l.program l.count l.after (drop l.number l.next))
      ≡ linked l.initial.nodes (next_blocks (at l.layout) l.program l.count l.after l.next);
}
