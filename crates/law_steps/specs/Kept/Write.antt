-- One object is written over by another of the same place, class, family and peer: what is kept of the whole.
use Rattle.std.specs.Prelude.{◌≡◌, ℕ, List, Some, true, nat_eq, slice_get}
use Rattle.ui_machine.specs.Definition.Properties.{Spec, is_readable}
use Rattle.ui_machine.specs.Definition.{Definition}
use Rattle.ui_machine.specs.Definition.Lookups.{spec_of}
use Rattle.ui_machine.specs.State.Objects.{Object, living, put, live}
use Rattle.ui_machine.specs.State.Tasks.{Task}
use Rattle.ui_machine.specs.State.Config.{World, with_objects}
use Rattle.law_typing.specs.Graph.Tables.{Tables}
use Rattle.law_typing.specs.Verdict.Accepted.{Each}
use Rattle.law_typing.specs.Laws.WellRead.{no_two}
use Rattle.law_typing.specs.Good.Standing.{standing, view, Lives}
use Rattle.law_typing.specs.Good.Objects.{ValueGood, ObjectsGood}
use Rattle.law_typing.specs.Good.Handlers.{HandlersGood}
use Rattle.law_typing.specs.Good.Bindings.{BindingsGood, SourceGood, HeldGood}
use Rattle.law_typing.specs.Good.Freezes.{ObjectsFirst}

-- the object that is written is like the one that was there
pub record Like (d : Definition) (w : World) (o new : Object) : Type 0 where
  pub place : new.place ≡ o.place
  pub class : new.class ≡ o.class
  pub children : new.children ≡ o.children
  pub parent : new.parent ≡ o.parent
  pub disposed : new.disposed ≡ o.disposed
  pub peer : new.peer ≡ o.peer
  -- its values are valid, and only readable properties are queued, each once
  pub values : (slot : ℕ) (spec : Spec) → spec_of d o.class slot ≡ Some spec →
      ValueGood d (standing w.objects) spec (slice_get new.values slot)
  pub queue : Each (λ slot. (spec : Spec) × (spec_of d o.class slot ≡ Some spec) × (is_readable spec ≡ true)) new.queue
  pub apart : no_two nat_eq new.queue ≡ true

-- the parts of what is good that are not the agenda and the queues
pub record Whole (d : Definition) (costs depths : Tables) (agenda : List Task) (w : World) : Type 0 where
  pub objects : ObjectsGood d w
  pub handlers : HandlersGood d costs depths (standing w.objects) agenda w.last_handler w.handlers
  pub bindings : BindingsGood d (standing w.objects) agenda w.bindings
  pub sources : Each (SourceGood d (standing w.objects)) w.sources
  pub held : HeldGood (standing w.objects) w.builder
  pub floating : Each (Lives (standing w.objects)) w.floating
  pub objects_first : ObjectsFirst agenda w.bindings

-- they stay; as many objects live as before, each at its place, so that the agenda reads the same
pub record Kept (d : Definition) (costs depths : Tables) (agenda : List Task) (w new : World) : Type 0 where
  pub alive : live new.objects ≡ live w.objects
  pub seen : view new ≡ view w
  pub whole : Whole d costs depths agenda new

abbrev pub WriteKeeps : Type 0
WriteKeeps =
    (d : Definition) (costs depths : Tables) (agenda : List Task) (w : World) (id : ℕ) (o new : Object) → living w.objects id ≡ Some o →
    Like d w o new →
    Whole d costs depths agenda w → Kept d costs depths agenda w (with_objects w (put w.objects id (Some new)))
