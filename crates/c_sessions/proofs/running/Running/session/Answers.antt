use Rattle.std.proofs.Common.{ap}
use Rattle.c_sessions.specs.RunStates.{RunState}
use Rattle.c_sessions.proofs.running.Running.session.Goals as goal

pub returns : goal.returns
returns c = ap (λ (r : RunState). r.core) c.self.view_is
