-- How an engine is between two dispatches, and what a dispatch comes to.
use Rattle.std.specs.Prelude.{◌≡◌, ℕ, List, [], option_map, Result, Ok, Err}
use Rattle.std.specs.declared.alloc.AllocError.{AllocError}
use Rattle.ui_machine.specs.Definition.{Definition}
use Rattle.ui_machine.specs.Runs.{Dispatches}
use Rattle.ui_machine.specs.Output.Lines as lines
use Rattle.ui_machine.specs.State.Config.{Config, World, said}
use Rattle.ui_machine.specs.State.Handlers.{Handler}
use Rattle.ui_machine.specs.State.References.{in_task}
use Rattle.g_values.specs.View.{value_view}
use Rattle.native_peers.specs.Seen.{Relations}
use Rattle.engine_world.specs.Counting.{Counts, nothing}
use Rattle.engine_world.specs.TaskView.{agenda_of}
use Rattle.engine_stack.specs.TaskView.{task_of}
use Rattle.engine_world.specs.declared.engine.Engine.{Engine}
use Rattle.engine_stack.specs.declared.task.Task as code
use Rattle.engine_dispatches.specs.declared.dispatches.Reply.{Reply}
use Rattle.engine_dispatches.specs.Following.{Halting}
use Rattle.engine_dispatches.specs.PoolView.{Replied}

-- an engine with nothing left to do, in which each object is counted as often as it is mentioned
pub record IsAtRest (d : Definition) (e : Engine) : Type 0 where
  pub counts : Counts d nothing e
  pub idle : agenda_of d e ≡ []

-- a task that holds nothing
abbrev pub HoldsNothing : code.Task → Type 0
HoldsNothing t = (d : Definition) (hs : List Handler) (o : ℕ) → in_task o (task_of d hs t) ≡ 0

-- a dispatch that ends there says its last line, and answers this
pub record EndsBy (reply : Reply) (d : Definition) (c : Config) (new : World) : Type 0 where
  pub said : new ≡ said d c.world (lines.end c.counted)
  pub value : option_map value_view reply.result ≡ c.world.result
  pub dispatches : reply.dispatches ≡ 1
  pub steps : reply.steps ≡ c.counted

-- a whole dispatch that leaves this world, or how far it came where no memory was found, with the peers that are left
abbrev pub Carried : Result Reply AllocError → Definition → Relations → Config → World → Type 0
Carried (Ok reply) d may c new =
    Replied may (λ replies. Dispatches d replies c reply.steps new) × (option_map value_view reply.result ≡ new.result) × (reply.dispatches ≡ 1)
Carried (Err _) d may c new = Replied may (λ replies. Halting d may replies c new.peers new.transcript)
