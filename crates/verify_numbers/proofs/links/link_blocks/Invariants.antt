use Rattle.std.proofs.Common.{◌≡◌, ◌<◌, ◌+◌, ◌-◌, length}
use Rattle.ui_machine.specs.Seq.{listed}
use Rattle.verify_sketches.specs.Numbered.{block}
use Rattle.verify_numbers.specs.Columns.{linked}
use Rattle.verify_numbers.specs.Counts.{at}
use Rattle.verify_numbers.proofs.links.link_blocks.Given as goal

abbrev pub invariant-loop-number : goal.invariant-loop-number
invariant-loop-number l = record {
  there : 0 < length l.nodes.graph;
  so_far : linked l.nodes (listed (λ i. at l.layout (block l.program (l.number + i))) (l.count - l.number))
      ≡ linked l.initial.nodes (listed (λ i. at l.layout (block l.program (0 + i))) (l.count - 0));
}
