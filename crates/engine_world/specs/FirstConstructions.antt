-- The construction that is an engine's first task.
use Rattle.std.specs.Prelude.{IsSome}
use Rattle.engine_stack.specs.FirstConstructions.{Constructed, first_construction, stack_construction}
use Rattle.engine_world.specs.declared.engine.Engine.{Engine}

-- its first task is a construction
abbrev pub IsConstruction : Engine → Type 0
IsConstruction e = IsSome (first_construction e.stack.tasks.items)

-- that construction
abbrev pub first_constructed : Engine → Constructed
first_constructed e = stack_construction e.stack
