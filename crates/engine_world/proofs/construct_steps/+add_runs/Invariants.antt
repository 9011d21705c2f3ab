use Rattle.engine_world.proofs.construct_steps.+add_runs.Given as goal

abbrev pub decreases-add_runs : goal.decreases-add_runs
decreases-add_runs l = l.class
