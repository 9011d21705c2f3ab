use Rattle.param_specs.proofs.table.SpecTable.+spec_at.Given as goal

abbrev pub decreases-spec_at : goal.decreases-spec_at
decreases-spec_at l = l.t
