use Rattle.machine_laws.proofs.FrontProofs.{step_appends, question_stays}
use Rattle.machine_laws.proofs.FrontRuns.{steps_append, dispatch_appends, halt_appends, event_appends, events_append, event_halt_appends}
use Rattle.machine_laws.proofs.transcripts.Goals as goal

pub returns : goal.returns
returns c = record {
  step = step_appends;
  question = question_stays;
  steps = steps_append;
  dispatch = dispatch_appends;
  halt = halt_appends;
  event = event_appends;
  events = events_append;
  event_halt = event_halt_appends;
}
