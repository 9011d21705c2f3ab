use Rattle.std.proofs.Common.{◌∙◌, sym, ap, ◌∷◌, [], subst, ◌≤◌}
use Rattle.verify_sketches.specs.Numbered.{end_of, own}
use Rattle.verify_sketches.specs.View.{sketch_view}
use Rattle.verify_numbers.specs.Columns.{linked}
use Rattle.verify_numbers.specs.Counts.{Counts, at, at_in}
use Rattle.verify_numbers.proofs.Edges.{then_linked, there_is}
use Rattle.verify_numbers.proofs.Small.{few, own_fits}
use Rattle.verify_numbers.proofs.channel_nodes.link_ends.Goals as goal

pub link-requires-clause-fits : goal.link-requires-clause-fits
link-requires-clause-fits c =
    subst (λ n. n ≤ 4_294_967_295) (sym c.own.ensures) (own_fits c.args.layout.now (few c.args.layout.now (sketch_view c.args.sketch.now) c.requires.counted c.requires.small) c.args.number c.requires.there)

pub link_other-requires-clause-node : goal.link_other-requires-clause-node
link_other-requires-clause-node c = there_is c.args.nodes.now c.link.new.self (c.own.result ∷ []) c.in_ok-link.ensures c.requires.node

pub returns : goal.returns
returns c =
    let s = sketch_view c.args.sketch.now in
    let at_own = c.own.ensures ∙ ap (λ (k : Counts). at k (own c.args.number)) c.requires.counted in
    then_linked c.args.nodes.now c.link.new.self c.link_other.new.nodes (at_in s (own c.args.number) ∷ []) (end_of (at_in s) c.args.other)
    (c.in_ok-link.ensures ∙ ap (λ x. linked c.args.nodes.now (x ∷ [])) at_own) c.in_ok-link_other.ensures
