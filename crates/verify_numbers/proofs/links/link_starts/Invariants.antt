use Rattle.std.proofs.Common.{◌≡◌, ◌<◌, drop, length, map}
use Rattle.verify_sketches.specs.Numbered.{start}
use Rattle.verify_sketches.specs.Pointwise.{inside}
use Rattle.verify_numbers.specs.Columns.{linked}
use Rattle.verify_numbers.specs.Counts.{at}
use Rattle.verify_numbers.proofs.links.link_starts.Given as goal

abbrev pub invariant-loop-number : goal.invariant-loop-number
invariant-loop-number l = record {
  there : 0 < length l.nodes.graph;
  so_far : linked l.nodes (map (λ y. at l.layout (start y)) (inside l.layout.starts (drop l.number l.starts))) ≡ linked l.initial.nodes (map (λ y. at l.layout (start y)) (inside l.layout.starts l.starts));
}
