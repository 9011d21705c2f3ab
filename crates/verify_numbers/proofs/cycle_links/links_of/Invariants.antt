use Rattle.std.proofs.Common.{◌≡◌, ◌++◌, ℕ, All, drop}
use Rattle.law_typing.specs.Graph.{Graph}
use Rattle.verify_numbers.specs.Cycles.{links_after, links_of}
use Rattle.verify_sketches.specs.Sketches.{Sketch}
use Rattle.verify_numbers.specs.Counts.{counts_of}
use Rattle.verify_numbers.specs.Laid.{laid}
use Rattle.verify_numbers.specs.Links.{NamesBelow, link_view, links_view, parts_at}
use Rattle.verify_numbers.proofs.cycle_links.links_of.Given as goal

abbrev pub invariant-loop-number : goal.invariant-loop-number
invariant-loop-number l = record {
  few : All (NamesBelow l.layout.programs) l.links.items;
  last : NamesBelow l.layout.programs l.last;
  so_far : (g : Graph) (s : Sketch) (handlers : ℕ) → l.layout ≡ counts_of s →
      links_view g l.links.items ++ links_after g (link_view g l.last) (parts_at (laid s handlers) (drop l.number l.nodes))
      ≡ links_of g l.channel (parts_at (laid s handlers) l.nodes);
}
