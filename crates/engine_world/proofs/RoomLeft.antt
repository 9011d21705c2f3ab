-- Room for tasks and for frames, as tasks come and are changed in their places.
use Rattle.std.proofs.Common.{◌≡◌, ℕ, Vec, vec_capacity, vec_len, arith}
use Rattle.std.specs.Global.{Global}
use Rattle.engine_world.specs.Room.{HasRoom, TakesRoom}
use Rattle.engine_stack.specs.TaskFrames.{HasPlaces, framed}
use Rattle.engine_world.specs.declared.engine.Engine.{Engine}
use Rattle.engine_stack.specs.declared.task.Task.{Task}

-- there is as much room where as many tasks and frames are in the same room
pub places_kept : (more : ℕ) (old new : Vec Task Global) → (vec_len new ≡ vec_len old) × (vec_capacity new ≡ vec_capacity old) → framed new ≡ framed old → HasPlaces more old → HasPlaces more new
places_kept more old new same frames has = (omega (arith, has.0, same.0, same.1), omega (arith, has.1, same.1, frames))

-- room for two is room for one
pub room_less : (e : Engine) → HasRoom 2 e → HasRoom 1 e
room_less e has = (omega (arith, has.0), has.1)

-- one of two has taken its room
pub room_for_next : (old new : Engine) → TakesRoom 1 old new → HasRoom 2 old → HasRoom 1 new
room_for_next old new took has = (omega (arith, has.0, took.tasks, took.room), omega (arith, has.1, took.frames, took.room))

-- none has
pub room_still : (more : ℕ) (old new : Engine) → TakesRoom 0 old new → HasRoom more old → HasRoom more new
room_still more old new took has = (omega (arith, has.0, took.tasks, took.room), omega (arith, has.1, took.frames, took.room))
