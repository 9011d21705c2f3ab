use Rattle.law_short_texts.proofs.RunProofs.{builds_are_short, dispatches_are_short, requests_are_short, runs_are_short, sources_are_short}
use Rattle.law_short_texts.proofs.StepProofs.{questions_are_short, steps_keep_short}
use Rattle.law_short_texts.proofs.short_texts.Goals as goal

pub returns : goal.returns
returns c = record {
  steps = steps_keep_short;
  questions = questions_are_short;
  builds = builds_are_short;
  requests = requests_are_short;
  sources = sources_are_short;
  dispatches = dispatches_are_short;
  runs = runs_are_short;
}
