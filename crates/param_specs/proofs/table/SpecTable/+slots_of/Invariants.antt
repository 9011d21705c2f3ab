use Rattle.param_specs.proofs.table.SpecTable.+slots_of.Given as goal

abbrev pub decreases-slots_of : goal.decreases-slots_of
decreases-slots_of l = l.t
