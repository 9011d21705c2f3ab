use Rattle.law_steps.proofs.Tasked.StepsProofs.{tasks_are_fine, steps_keep_good, steps_are_within}
use Rattle.law_steps.proofs.tasks.steps.Goals as goal

pub returns : goal.returns
returns c = record { tasks = tasks_are_fine; keep = steps_keep_good; within = steps_are_within }
