use Rattle.machine_laws.proofs.GoneProofs.{given_are_gone, gone_turns_pass, pruned_again, question_does_without, step_does_without}
use Rattle.machine_laws.proofs.gone.Goals as goal

pub returns : goal.returns
returns c = record { passes = gone_turns_pass; steps = step_does_without; asks = question_does_without; given = given_are_gone; again = pruned_again }
