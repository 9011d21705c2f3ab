-- What each step of a run of an accepted definition is to keep, whole. It says why no step is stuck, why the counted steps stay within the
-- bound, and why the frames stay within the depth.
pub mod Standing
pub mod Objects
pub mod DueCosts
pub mod Handlers
pub mod Bindings
pub mod ComingDown
pub mod Programs
pub mod Emissions
pub mod Builds
pub mod Requests
pub mod Living
pub mod Meanings
pub mod Agenda
pub mod Freezes
use Rattle.std.specs.Prelude.{◌≡◌, ℕ, ◌+◌, ◌≤◌, [], length, Some}
use Rattle.ui_machine.specs.Seq.{total}
use Rattle.ui_machine.specs.Definition.{Definition}
use Rattle.ui_machine.specs.State.Objects.{Object, live}
use Rattle.ui_machine.specs.State.Config.{World, Config}
use Rattle.ui_machine.specs.State.Objects as heap
use Rattle.ui_machine.specs.Rules.Build.{to_make}
use Rattle.law_typing.specs.Graph.Tables.{Tables}
use Rattle.law_typing.specs.Verdict.Accepted.{Each}
use Rattle.law_typing.specs.Good.Standing.{standing, Lives, view}
use Rattle.law_typing.specs.Good.Objects.{ObjectsGood, PeersGood}
use Rattle.law_typing.specs.Good.Handlers.{HandlersGood}
use Rattle.law_typing.specs.Good.Bindings.{BindingsGood, SourceGood, HeldGood, DocumentGood}
use Rattle.law_typing.specs.Good.ComingDown.{none}
use Rattle.law_typing.specs.Good.Builds.{is_for_builder, BuildGood}
use Rattle.law_typing.specs.Good.Agenda.{AgendaGood}
use Rattle.law_typing.specs.Good.Freezes.{QueuesGood, carried, ObjectsFirst, SetsGood}

-- at most `most_counted` steps in this dispatch, and `most` frames
pub record Good (d : Definition) (costs depths : Tables) (most_counted most : ℕ) (c : Config) : Type 0 where
  -- each living object is of its place's class, with valid values, living children, and its own peer
  pub objects : ObjectsGood d c.world
  -- handlers, bindings and sources name what lives, and their programs take what they are given
  pub handlers : HandlersGood d costs depths (standing c.world.objects) c.agenda c.world.last_handler c.world.handlers
  pub bindings : BindingsGood d (standing c.world.objects) c.agenda c.world.bindings
  pub sources : Each (SourceGood d (standing c.world.objects)) c.world.sources
  -- the peers of the pool are there for those that want them
  pub peers : PeersGood d c.world.peers (length c.world.builder + total is_for_builder c.agenda)
  -- the build goes on where it was, and what the builder holds lives at its place
  pub build : BuildGood d c.world.builder c.agenda c.agenda
  pub held : HeldGood (standing c.world.objects) c.world.builder
  -- what floats lives
  pub floating : Each (Lives (standing c.world.objects)) c.world.floating
  -- a set is due only as the first task
  pub sets : SetsGood d c
  -- while the builder makes an object there is no binding
  pub objects_first : ObjectsFirst c.agenda c.world.bindings
  -- the agenda, and the steps that it may still take
  pub budget : ℕ
  pub agenda : AgendaGood d costs depths (view c.world) most none c.agenda budget
  -- freeze counts are the open brackets
  pub queues : QueuesGood d depths most c.agenda c.counted c.world.objects
  -- what lives and what the builder has still to make are no more than may live
  pub few : live c.world.objects + to_make c.agenda ≤ d.most_objects
  -- what was counted, what the agenda and the queues may still cost, and the finalisation of each object that lives or is still to be made
  pub spent : c.counted + (budget + (total (carried d costs (total is_for_builder c.agenda)) c.world.objects + (live c.world.objects + to_make c.agenda))) ≤ most_counted

-- ** between dispatches

-- what is good without an agenda: no count, no queue, no float, and no binding that sets
pub record Resting (d : Definition) (costs depths : Tables) (w : World) : Type 0 where
  -- each living object is as it should be
  pub objects : ObjectsGood d w
  -- handlers, bindings and sources name what lives
  pub handlers : HandlersGood d costs depths (standing w.objects) [] w.last_handler w.handlers
  pub bindings : BindingsGood d (standing w.objects) [] w.bindings
  pub sources : Each (SourceGood d (standing w.objects)) w.sources
  -- the peers of the pool are there for those that want them
  pub peers : PeersGood d w.peers (length w.builder)
  -- each place is built or released, and what the builder holds lives at its place
  pub document : DocumentGood d w.builder
  pub held : HeldGood (standing w.objects) w.builder
  -- nothing floats, is frozen or waits in a queue
  pub floating : w.floating ≡ []
  pub thawed : (id : ℕ) (o : Object) → heap.living w.objects id ≡ Some o → (o.freezes ≡ 0) × (o.queue ≡ [])
  -- no more live than may
  pub few : live w.objects ≤ d.most_objects
