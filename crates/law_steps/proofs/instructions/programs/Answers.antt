use Rattle.law_steps.proofs.Instructed.AllProofs.{instructions_are_fine, programs_keep_good}
use Rattle.law_steps.proofs.instructions.programs.Goals as goal

pub returns : goal.returns
returns c = record { instructions = instructions_are_fine; programs = programs_keep_good }
