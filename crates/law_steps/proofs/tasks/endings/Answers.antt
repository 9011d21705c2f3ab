use Rattle.law_steps.proofs.Tasked.BuilderProofs.{builder_takes}
use Rattle.law_steps.proofs.Tasked.EndingProofs.{emissions_end, constructions_end}
use Rattle.law_steps.proofs.tasks.endings.Goals as goal

pub returns : goal.returns
returns c = record { emissions = emissions_end; constructions = constructions_end; builder = builder_takes }
