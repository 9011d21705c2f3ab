use Rattle.std.proofs.Common.{◌≡◌, ◌∙◌, ap, arith, length, ◌++◌, ◌∷◌, []}
use Rattle.verify_order.specs.Kept.{lists_in}
use Rattle.verify_order.proofs.Kept.{one_list_more}
use Rattle.verify_order.proofs.dependencies.Dependencies.add_node.Goals as goal

pub returns-clause-ok : goal.returns-clause-ok
returns-clause-ok c =
    let kept : c.len.result ≡ length c.self.inside.targets.items = omega (arith, c.len.ensures, c.self.inside.targets.ok.0) in
    ap (λ starts. lists_in starts c.self.inside.targets.items) c.in_ok-push.ensures.items
    ∙ (ap (λ n. lists_in (c.self.inside.starts.items ++ n ∷ []) c.self.inside.targets.items) kept
    ∙ (one_list_more c.self.inside.starts.items c.self.inside.targets.items ∙ ap (λ lists. lists ++ [] ∷ []) c.self.view_is))
