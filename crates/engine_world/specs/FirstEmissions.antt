-- The emission that is an engine's first task.
use Rattle.std.specs.Prelude.{IsSome}
use Rattle.ui_machine.specs.State.Tasks as config
use Rattle.engine_stack.specs.FirstEmissions.{Emitted, emitting, first_emission, stack_emission}
use Rattle.engine_world.specs.declared.engine.Engine.{Engine}

-- its first task is an emission
abbrev pub IsEmission : Engine → Type 0
IsEmission e = IsSome (first_emission e.stack.tasks.items)

-- that emission
abbrev pub first_emitted : Engine → Emitted
first_emitted e = stack_emission e.stack

-- the machine's task of that emission
abbrev pub first_emitting : Engine → config.Task
first_emitting e = emitting (first_emitted e) e.world.handlers.handlers
