use Rattle.std.proofs.Common.{ap, ◌∙◌}
use Rattle.c_sessions.specs.RunStates.{RunState}
use Rattle.c_sessions.proofs.running.Running.transcript.Goals as goal

pub returns : goal.returns
returns c = c.transcript.ensures ∙ ap (λ (r : RunState). r.core.world.transcript) c.self.view_is
