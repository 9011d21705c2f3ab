use Rattle.std.proofs.Common.{ap, ◌∷◌, []}
use Rattle.verify_numbers.specs.Columns.{linked}
use Rattle.verify_numbers.proofs.Edges.{grown_one}
use Rattle.verify_numbers.proofs.nodes.Nodes.link.Goals as goal

pub returns : goal.returns
returns c =
    let h = c.in_ok-add_edge.ensures.ok in
    rw (h, grown_one c.self.inside.dependencies c.args.to) (ap (λ x. linked x (c.args.to ∷ [])) c.self.view_is)
