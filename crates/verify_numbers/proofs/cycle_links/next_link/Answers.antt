use Rattle.std.proofs.Common.{sym, ap, subst, ◌∷◌, ◌++◌}
use Rattle.verify_numbers.specs.Cycles.{links_after}
use Rattle.verify_numbers.specs.Links.{Describes, link_view, links_view}
use Rattle.verify_numbers.proofs.CycleParts.{passed_by}
use Rattle.verify_numbers.proofs.cycle_links.next_link.Goals as goal

pub returns-in-Program-clause-linked : goal.returns-in-Program-clause-linked
returns-in-Program-clause-linked c = λ g x more describes.
    let d = subst (λ p. Describes p x) c.in-Program.is describes in
    ap (λ z. links_view g c.args.links.now.items ++ links_after g (link_view g c.args.last) (z ∷ more)) (sym d)

pub returns-in-Other-clause-linked : goal.returns-in-Other-clause-linked
returns-in-Other-clause-linked c = λ g x more describes.
    let d = subst (λ p. Describes p x) c.in-Other.is describes in
    ap (λ ls. links_view g c.args.links.now.items ++ ls) (sym (passed_by g (link_view g c.args.last) x more d))
