use Rattle.std.proofs.Common.{◌∙◌, ◌+◌, sym, subst, ap}
use Rattle.type_tree.specs.Tree.{IsTree}
use Rattle.type_tree.proofs.Lines.{depth-up}
use Rattle.type_tree.proofs.tree.TypeTree.+depth.Goals as goal

pub returns-in-Some-clause-depth : goal.returns-in-Some-clause-depth
returns-in-Some-clause-depth t c =
    let tree = subst IsTree c.self.view_is c.self.invariant in
    ap (λ n. n + 1) c.depth.ensures.depth ∙ sym (depth-up c.args.self.now tree c.args.t c.in-Some.parent (sym c.in-Some.ensures.parent))
