use Rattle.machine_laws.proofs.StepProofs.{held_at_rest, ends_stay, fitting_lives, finalised_fits_nothing}
use Rattle.machine_laws.proofs.steps.Goals as goal

pub returns : goal.returns
returns c = record { rest = held_at_rest; ends = ends_stay; lives = fitting_lives; finalised = finalised_fits_nothing }
