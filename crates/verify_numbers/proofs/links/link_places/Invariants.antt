use Rattle.std.proofs.Common.{◌≡◌, ◌<◌, drop, length, map}
use Rattle.verify_sketches.specs.Numbered.{place}
use Rattle.verify_sketches.specs.Pointwise.{inside}
use Rattle.verify_numbers.specs.Columns.{linked}
use Rattle.verify_numbers.specs.Counts.{at}
use Rattle.verify_numbers.proofs.links.link_places.Given as goal

abbrev pub invariant-loop-number : goal.invariant-loop-number
invariant-loop-number l = record {
  there : 0 < length l.nodes.graph;
  so_far : linked l.nodes (map (λ y. at l.layout (place y)) (inside l.layout.places (drop l.number l.places))) ≡ linked l.initial.nodes (map (λ y. at l.layout (place y)) (inside l.layout.places l.places));
}
