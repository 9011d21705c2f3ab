use Rattle.std.proofs.Common.{◌∙◌, sym, ap, ◌<◌, subst, ◌≤◌, IfSome}
use Rattle.verify_sketches.specs.Numbered.{end_of}
use Rattle.verify_sketches.specs.View.{sketch_view}
use Rattle.verify_numbers.specs.Columns.{linked}
use Rattle.verify_numbers.specs.Counts.{at_in}
use Rattle.verify_numbers.proofs.Edges.{linked_none}
use Rattle.verify_numbers.proofs.Small.{few, own_fits}
use Rattle.verify_numbers.proofs.channel_nodes.link_other.Goals as goal

pub link-requires-clause-fits : goal.link-requires-clause-fits
link-requires-clause-fits c =
    let low = subst (λ o. IfSome o (λ n. n < c.args.layout.now.channels)) c.in-Some.is c.requires.other in
    subst (λ n. n ≤ 4_294_967_295) (sym c.own.ensures) (own_fits c.args.layout.now (few c.args.layout.now (sketch_view c.args.sketch.now) c.requires.counted c.requires.small) c.in-Some.number low)

pub returns-in-None : goal.returns-in-None
returns-in-None c =
    let s = sketch_view c.args.sketch.now in
    sym (linked_none c.args.nodes.now) ∙ ap (λ o. linked c.args.nodes.now (end_of (at_in s) o)) (sym c.in-None.is)
