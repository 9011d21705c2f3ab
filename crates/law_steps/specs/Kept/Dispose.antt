-- A dispose: the object lets go of what it held, and is forgotten; each object keeps its place and stays good.
use Rattle.std.specs.Prelude.{◌≡◌, ◌⊎◌, ℕ, true, false, List, [], Ok, Option, None, Some, slice_get}
use Rattle.ui_machine.specs.Seq.{total}
use Rattle.ui_machine.specs.Definition.{Definition}
use Rattle.ui_machine.specs.Definition.Values.{Value}
use Rattle.ui_machine.specs.Definition.Values as values
use Rattle.ui_machine.specs.Definition.Properties.{Spec}
use Rattle.ui_machine.specs.Definition.Lookups.{spec_of}
use Rattle.ui_machine.specs.State.Objects.{Object, living}
use Rattle.ui_machine.specs.State.Peers.{Peer, peer_number}
use Rattle.ui_machine.specs.State.Config.{World}
use Rattle.ui_machine.specs.Rules.Disposal.{names_object, disposed, without_object}
use Rattle.law_typing.specs.Laws.{IsIn}
use Rattle.law_typing.specs.Good.Standing.{standing}
use Rattle.law_typing.specs.Good.Objects.{ObjectsGood}

-- an object afterwards: it is where it was, as often frozen and with the same queue; what it has was there before, and none of its weak
-- properties names the disposed one
pub record Shed (d : Definition) (id : ℕ) (old new : Object) : Type 0 where
  pub place : new.place ≡ old.place
  pub class : new.class ≡ old.class
  pub freezes : new.freezes ≡ old.freezes
  pub queue : new.queue ≡ old.queue
  pub unnamed : (slot : ℕ) (spec : Spec) (v : Value) → spec_of d new.class slot ≡ Some spec → slice_get new.values slot ≡ Some v →
      spec.weak ≡ true → names_object id v ≡ false
  pub came : (slot : ℕ) (spec : Spec) (v : Value) → spec_of d new.class slot ≡ Some spec → slice_get new.values slot ≡ Some v →
      (v ≡ values.object None) ⊎ (slice_get old.values slot ≡ Some v)
  pub children : (child : ℕ) → IsIn child new.children → IsIn child old.children

-- the world afterwards
pub record DisposedKept (d : Definition) (id : ℕ) (w v : World) : Type 0 where
  pub stands : standing v.objects ≡ standing w.objects
  pub objects : ObjectsGood d v
  pub shed : (other : ℕ) (x : Object) → living v.objects other ≡ Some x → (y : Object) × (living w.objects other ≡ Some y) × Shed d id y x
  -- the object has no children
  pub childless : (x : Object) → living v.objects id ≡ Some x → x.children ≡ []
  -- peers keep their names, shapes and holders, and those that no object has are as they were
  pub peers : (number : ℕ) (p : Peer) → slice_get w.peers number ≡ Some p →
      (q : Peer) × (slice_get v.peers number ≡ Some q) × (q.state.shape ≡ p.state.shape) × (q.holder ≡ p.holder) × (q.holder ≡ None → q ≡ p)
  pub names : (name : List ℕ) → peer_number v.peers name ≡ peer_number w.peers name
  -- what is counted of objects by their places and queues is the same
  pub sums : (f : Option Object → ℕ) → f None ≡ 0 →
      ((x y : Object) → x.place ≡ y.place → x.queue ≡ y.queue → f (Some x) ≡ f (Some y)) → total f v.objects ≡ total f w.objects
  -- of the rest only handlers and bindings changed
  pub handlers : v.handlers ≡ (without_object d w id).handlers
  pub bindings : v.bindings ≡ (without_object d w id).bindings
  pub last : v.last_handler ≡ w.last_handler
  pub sources : v.sources ≡ w.sources
  pub floating : v.floating ≡ w.floating
  pub builder : v.builder ≡ w.builder

-- a living object is disposed without a fault, and the rest is kept
abbrev pub DisposeKeeps : Type 0
DisposeKeeps =
    (d : Definition) (w : World) (id : ℕ) (o : Object) → living w.objects id ≡ Some o → ObjectsGood d w →
    (v : World) × (disposed d w id ≡ Ok v) × DisposedKept d id w v
