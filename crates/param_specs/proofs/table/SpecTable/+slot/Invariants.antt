use Rattle.param_specs.proofs.table.SpecTable.+slot.Given as goal

abbrev pub decreases-slot : goal.decreases-slot
decreases-slot l = l.t
