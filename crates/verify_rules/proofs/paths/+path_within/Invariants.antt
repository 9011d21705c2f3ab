use Rattle.verify_rules.proofs.paths.+path_within.Given as goal

abbrev pub decreases-path_within : goal.decreases-path_within
decreases-path_within l = l.steps
