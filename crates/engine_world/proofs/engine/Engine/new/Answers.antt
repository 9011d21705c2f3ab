use Rattle.engine_world.proofs.engine.Engine.new.Goals as goal

pub returns-clause-idle : goal.returns-clause-idle
returns-clause-idle c d = c.in_ok-stack.ensures.tasks d c.new-6.result.handlers

pub returns-clause-begun : goal.returns-clause-begun
returns-clause-begun c = c.in_ok-stack.ensures.begun 0
