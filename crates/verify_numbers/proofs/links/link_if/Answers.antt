use Rattle.std.proofs.Common.{sym, ◌∙◌, ap, cond, ◌∷◌, []}
use Rattle.verify_numbers.specs.Columns.{linked}
use Rattle.verify_numbers.proofs.Edges.{linked_none}
use Rattle.verify_numbers.proofs.links.link_if.Goals as goal

pub returns : goal.returns
returns c =
    sym (linked_none c.args.nodes.now) ∙ ap (λ b. linked c.args.nodes.now (cond b (c.args.to ∷ []) [])) (sym c.if-is_there.false)
