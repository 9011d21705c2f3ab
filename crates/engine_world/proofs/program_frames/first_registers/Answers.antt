use Rattle.std.proofs.Common.{◌∙◌, ap}
use Rattle.ui_machine.specs.State.Tasks.{Frame}
use Rattle.bytecode.specs.Computing.{registers_of}
use Rattle.engine_world.proofs.program_frames.first_registers.Goals as goal

pub returns : goal.returns
returns c = ap registers_of c.as_slice.ensures.value ∙ ap (λ (g : Frame). g.registers) c.first_frame.ensures
