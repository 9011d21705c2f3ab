-- Room for tasks, and vectors for those that are programs or emissions.
use Rattle.std.specs.Prelude.{◌≡◌, ℕ, ◌+◌, vec_capacity, vec_len}
use Rattle.engine_stack.specs.TaskFrames.{HasPlaces, framed}
use Rattle.engine_world.specs.declared.engine.Engine.{Engine}

-- so many tasks more have room, and there is a vector for one of them
abbrev pub HasRoom : ℕ → Engine → Type 0
HasRoom more e = HasPlaces more e.stack.tasks

-- there is the same room for tasks, taken or not
abbrev pub SameRoom : Engine → Engine → Type 0
SameRoom old new = vec_capacity new.stack.tasks ≡ vec_capacity old.stack.tasks

-- so many tasks more were put into the same room, none of them a program or an emission
pub record TakesRoom (more : ℕ) (old new : Engine) : Type 0 where
  pub tasks : vec_len new.stack.tasks ≡ vec_len old.stack.tasks + more
  pub frames : framed new.stack.tasks ≡ framed old.stack.tasks
  pub room : SameRoom old new

-- a program or an emission was put into the same room
pub record TakesFrame (old new : Engine) : Type 0 where
  pub tasks : vec_len new.stack.tasks ≡ vec_len old.stack.tasks + 1
  pub frames : framed new.stack.tasks ≡ framed old.stack.tasks + 1
  pub room : SameRoom old new
