-- What a build begins with.
use Rattle.std.specs.Prelude.{◌≡◌, List, None, map, vec_capacity}
use Rattle.ui_machine.specs.Definition.{Definition}
use Rattle.ui_machine.specs.Output.Lines as lines
use Rattle.ui_machine.specs.Rules.Build.{forward_items}
use Rattle.ui_machine.specs.Runs.{first_world}
use Rattle.ui_machine.specs.State.Config.{said}
use Rattle.law_peers.specs.Needs.{mismatch}
use Rattle.native_peers.specs.Matching.{as_peers}
use Rattle.native_peers.specs.Seen.{Seen}
use Rattle.engine_stack.specs.TaskView.{item_of}
use Rattle.engine_world.specs.View.{world_of}
use Rattle.engine_dispatches.specs.Dispatched.{IsAtRest}
use Rattle.engine_dispatches.specs.PoolView.{Knows, world_at}
use Rattle.engine_dispatches.specs.Promises.{IsRoomy}
use Rattle.ui_engine.specs.declared.starts.Beginning.{Beginning}

-- The pool matches. An engine has built nothing, knows it, and has said the line with which the build begins; and the forward references are
-- those of the definition. There is room for all tasks.
pub record IsBegun (d : Definition) (pool : List Seen) (b : Beginning) : Type 0 where
  pub matches : mismatch d (as_peers pool) ≡ None
  pub rests : IsAtRest d b.engine
  pub knows : Knows (world_of b.engine.world) pool
  pub world : world_at pool (world_of b.engine.world) ≡ said d (first_world d (as_peers pool)) lines.build
  pub forwards : map item_of b.forwards ≡ forward_items 0 d.places
  pub room : IsRoomy d (vec_capacity b.engine.stack.tasks)
