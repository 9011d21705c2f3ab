use Rattle.std.proofs.Common.{ap, ◌∙◌}
use Rattle.c_sessions.specs.RunStates.{RunState}
use Rattle.c_sessions.proofs.running.Running.definition.Goals as goal

pub returns : goal.returns
returns c = c.definition.ensures ∙ ap (λ (r : RunState). r.core.definition) c.self.view_is
