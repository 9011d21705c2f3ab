use Rattle.type_tree.proofs.tree.TypeTree.+is_a.Given as goal

abbrev pub decreases-is_a : goal.decreases-is_a
decreases-is_a l = l.a
