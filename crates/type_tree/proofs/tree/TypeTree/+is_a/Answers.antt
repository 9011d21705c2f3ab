use Rattle.std.proofs.Common.{◌∙◌, sym, subst}
use Rattle.type_tree.specs.Tree.{IsTree}
use Rattle.type_tree.proofs.Lines.{is_a-up}
use Rattle.type_tree.proofs.tree.TypeTree.+is_a.Goals as goal

pub returns-in-Some : goal.returns-in-Some
returns-in-Some t c =
    let tree = subst IsTree c.self.view_is c.self.invariant in
    c.is_a.ensures ∙ sym (is_a-up c.args.self.now tree c.args.a c.args.b c.in-Some.parent (sym c.if-is_or_implements.ensures) (sym c.in-Some.ensures.parent))
