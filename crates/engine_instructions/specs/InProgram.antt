-- The machine's part of a step that carries out an instruction of the program that is the first task.
use Rattle.ui_machine.specs.Definition.{Definition}
use Rattle.ui_machine.specs.Instructions.{in_front, instruction_step}
use Rattle.ui_machine.specs.Outcome.{Answer}
use Rattle.ui_machine.specs.State.Config.{Config, Started, World}
use Rattle.ui_machine.specs.State.Tasks.{Frame}
use Rattle.ui_machine.specs.Definition.Programs.{Instruction}
use Rattle.ui_machine.specs.Steps.{left}
use Rattle.engine_world.specs.FirstPrograms.{first_frame, rest_of}
use Rattle.engine_world.specs.View.{world_of}
use Rattle.engine_world.specs.declared.engine.Engine.{Engine}

-- an instruction, as a whole
abbrev pub executed : Definition → Engine → Instruction → Answer Config
executed d e instruction = left e.counted (instruction_step d (world_of e.world) (rest_of d e) (first_frame e) instruction)

-- what an instruction starts in front of the rest, from the world and the program's frame
abbrev pub in_program : Definition → Engine → (World → Frame → Answer Started) → Answer Config
in_program d e part = left e.counted (in_front (rest_of d e) (part (world_of e.world) (first_frame e)))
