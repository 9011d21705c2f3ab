use Rattle.std.proofs.Common.{sym}
use Rattle.engine_stack.proofs.FirstPrograms.{frame_found}
use Rattle.engine_world.proofs.program_frames.first_frame.Goals as goal

pub returns : goal.returns
returns c = sym (frame_found c.args.engine.now.stack c.in-Some.frame.now (sym c.in-Some.ensures))
