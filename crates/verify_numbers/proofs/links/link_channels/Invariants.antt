use Rattle.std.proofs.Common.{◌≡◌, ◌<◌, drop, length}
use Rattle.verify_sketches.specs.Numbered.{nodes_of}
use Rattle.verify_sketches.specs.View.{sketch_view}
use Rattle.verify_numbers.specs.Columns.{linked}
use Rattle.verify_numbers.specs.Counts.{at_in}
use Rattle.verify_numbers.proofs.links.link_channels.Given as goal

abbrev pub invariant-loop-number : goal.invariant-loop-number
invariant-loop-number l = record {
  there : 0 < length l.nodes.graph;
  so_far : linked l.nodes (nodes_of (sketch_view l.sketch) (at_in (sketch_view l.sketch)) (drop l.number l.channels))
      ≡ linked l.initial.nodes (nodes_of (sketch_view l.sketch) (at_in (sketch_view l.sketch)) l.channels);
}
