use Rattle.std.proofs.Common.{subst}
use Rattle.type_tree.specs.Tree.{IsTree}
use Rattle.type_tree.proofs.tree.TypeTree.parent.Goals as goal

pub returns-clause-tree : goal.returns-clause-tree
returns-clause-tree c = subst IsTree c.self.view_is c.self.invariant
