-- What the engine counts of each object, beside what the machine mentions of it.
use Rattle.std.specs.Prelude.{◌≡◌, ℕ, ◌+◌, ◌<◌, ◌≤◌, ◌^◌, IsSome, List, Option, Vec}
use Rattle.std.specs.Global.{Global}
use Rattle.ui_machine.specs.Definition.{Definition}
use Rattle.ui_machine.specs.State.Objects.{living}
use Rattle.ui_machine.specs.State.Peers.{Peer}
use Rattle.ui_machine.specs.State.References.{in_held, in_task, mentions}
use Rattle.instance_tables.specs.Store.{Store, count_of}
use Rattle.engine_world.specs.declared.engine.Engine.{Engine}
use Rattle.engine_world.specs.declared.world.World.{World}
use Rattle.instance_tables.specs.Weak.{Knows}
use Rattle.engine_links.specs.Linked.{AreLinked}
use Rattle.ui_machine.specs.Seq.{total}
use Rattle.engine_world.specs.View.{world_of}
use Rattle.engine_stack.specs.KnownHandlers.{AllTakeKnownHandlers}
use Rattle.engine_world.specs.PeerPlaces.{AreGot, AreNumbered}
use Rattle.engine_world.specs.EngineView.{config_of}
use Rattle.engine_world.specs.TaskView.{agenda_of, task_in}
use Rattle.engine_stack.specs.declared.task.Task as code

-- nothing but the counts of a table differs
pub record OnlyCounts (old new : Store) : Type 0 where
  pub objects : new.objects ≡ old.objects
  pub floating : new.floating ≡ old.floating

-- Bytecode may connect as many handlers as the definition says, the builder's numbers are not kept apart, and the emissions that go on take
-- no handler that is connected later.
pub record Connects (d : Definition) (e : Engine) : Type 0 where
  pub most : e.world.handlers.most ≡ d.most_handlers
  pub to_come : e.world.handlers.to_come ≡ 0
  pub begun : AllTakeKnownHandlers e.world.handlers.last e.stack

-- the numbers of each place's peers are kept, and those that are passed over are not left
pub record KeepsPeers (d : Definition) (peers : List Peer) (passed : List ℕ) (kept : List (Vec (Option ℕ) Global)) : Type 0 where
  pub got : AreGot d peers passed
  pub numbered : AreNumbered d peers kept

abbrev pub PassesIn : Definition → World → Type 0
PassesIn d w = KeepsPeers d w.seats w.got_peers.items w.peer_numbers.items

abbrev pub PassesGot : Definition → Engine → Type 0
PassesGot d e = PassesIn d e.world

-- Each object is counted as often as it is mentioned, and so often more as is said: so much holds a task that was taken off and is not done yet.
-- It is known which properties are weak, what the names in programs mean, which peers a place has and which of them are passed over, and what may be connected.
pub record Counts (d : Definition) (taken : ℕ → ℕ) (e : Engine) : Type 0 where
  pub knows : Knows d e.world.weak
  pub links : AreLinked d e.links
  pub passes : PassesGot d e
  pub connects : Connects d e
  pub exact : (o : ℕ) → count_of e.world.table.counts o ≡ mentions d (config_of d e) o + taken o

-- Each object is counted as often as it is mentioned, and so often more as a task that was taken off can hold it.
pub record IsCounted (d : Definition) (e : Engine) : Type 0 where
  pub taken : ℕ → ℕ
  pub counts : Counts d taken e
  pub little : (o : ℕ) → taken o ≤ 2 ^ 64

-- the objects of a table may be held so often more: those that are live, and no count comes to its end
pub record MayHold (s : Store) (more : ℕ → ℕ) : Type 0 where
  pub at : (o : ℕ) → 0 < more o → IsSome (living s.objects o) × (count_of s.counts o + more o < 2 ^ 128)

-- a task may hold an object: it lives, and each is counted as often as it is mentioned
pub record MayBeHeld (e : Engine) (o : ℕ) : Type 0 where
  pub d : Definition
  pub counted : IsCounted d e
  pub lives : IsSome (living e.world.table.objects o)

-- what a task is to hold it may hold
pub record MayPush (e : Engine) (t : code.Task) : Type 0 where
  pub at : (d : Definition) (o : ℕ) → 0 < in_task o (task_in d e t) → MayBeHeld e o

-- what the builder holds is counted at least so often
pub record HoldsBuilt (e : Engine) : Type 0 where
  pub at : (o : ℕ) → total (in_held o) (world_of e.world).builder ≤ count_of e.world.table.counts o

-- the first tasks are counted at least so often
pub record HoldsTasks (d : Definition) (e : Engine) : Type 0 where
  pub at : (o : ℕ) → total (in_task o) (agenda_of d e) ≤ count_of e.world.table.counts o

-- nothing but what there is to do and the counts of the table differs
pub record OnlyTasks (old new : Engine) : Type 0 where
  pub beside : new ≡ record old { stack = new.stack; world = record old.world { table = new.world.table } }
  pub table : OnlyCounts old.world.table new.world.table

-- what code keeps that counts all that it moves
pub record KeepsCounts (d : Definition) (old new : Engine) : Type 0 where
  pub at : (taken : ℕ → ℕ) → Counts d taken old → Counts d taken new

-- nothing was taken off
abbrev pub nothing : ℕ → ℕ
nothing o = 0
