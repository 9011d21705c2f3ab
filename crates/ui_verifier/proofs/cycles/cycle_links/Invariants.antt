use Rattle.std.proofs.Common.{◌≡◌, map, take}
use Rattle.law_typing.specs.Graph.{Graph}
use Rattle.verify_sketches.specs.Sketches.{channels_in}
use Rattle.verify_numbers.specs.Links.{links_view}
use Rattle.ui_verifier.specs.Verdicts.{link_view}
use Rattle.ui_verifier.proofs.cycles.cycle_links.Given as goal

abbrev pub invariant-loop-link : goal.invariant-loop-link
invariant-loop-link l = (g : Graph) → l.channels ≡ channels_in g → map link_view l.all.items ≡ links_view g (take l.link-index l.links)
