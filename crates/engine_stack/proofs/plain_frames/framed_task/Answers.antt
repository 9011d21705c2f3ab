use Rattle.engine_stack.proofs.ListedFrames.{program_filled}
use Rattle.engine_stack.proofs.plain_frames.framed_task.Goals as goal

pub returns-in-Program-clause-listed : goal.returns-in-Program-clause-listed
returns-in-Program-clause-listed c =
    program_filled c.args.frame c.in-Program.program c.fill.new.registers.items c.args.values.now.items c.in-Program.is c.fill.ensures.filled
