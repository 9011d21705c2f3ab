use Rattle.type_tree.proofs.tree.TypeTree.+depth.Given as goal

abbrev pub decreases-depth : goal.decreases-depth
decreases-depth l = l.t
