-- Living objects, and the peers of the pool.
use Rattle.std.specs.Prelude.{◌≡◌, ℕ, ◌≤◌, ⊤, true, false, cond, nat_eq, List, [], Option, None, Some, slice_get}
use Rattle.ui_machine.specs.Definition.Values.{Value}
use Rattle.ui_machine.specs.Rules.Validation.{is_valid}
use Rattle.ui_machine.specs.Definition.Properties.{Spec, is_readable}
use Rattle.ui_machine.specs.Definition.{Definition}
use Rattle.ui_machine.specs.Definition.Signals.{Method, Shape}
use Rattle.ui_machine.specs.Definition.Places.{Place}
use Rattle.ui_machine.specs.Definition.Lookups.{spec_of, place_at}
use Rattle.ui_machine.specs.State.Objects.{Object, Objects}
use Rattle.ui_machine.specs.State.Peers.{Peer, peer_number}
use Rattle.ui_machine.specs.State.Config.{World}
use Rattle.ui_machine.specs.State.Objects as heap
use Rattle.ui_machine.specs.Rules.Construction.{nearest_shape}
use Rattle.law_typing.specs.Verdict.Accepted.{Each}
use Rattle.law_typing.specs.Laws.{IsIn}
use Rattle.law_typing.specs.Laws.WellRead.{no_two}
use Rattle.law_typing.specs.Good.Standing.{Standing, standing, Lives, class_by}

-- ** objects

-- a property has a value, and it is valid: of its kind, in its range, and alive if it is an object
pub record ValueGood (d : Definition) (s : Standing) (spec : Spec) (v : Option Value) : Type 0 where
  pub value : Value
  pub is : v ≡ Some value
  pub valid : is_valid (class_by d s) d.types spec value ≡ true

-- the peer of an object: none where its class has no shape; else one that it alone holds, of that shape, and open until it is disposed
abbrev pub PeerGood : Definition → List Peer → ℕ → Object → Type 0
PeerGood d peers id o = by (nearest_shape d o.class)
  where
    methods_of : Option Shape → List Method
    methods_of None = []
    methods_of (Some shape) = shape.methods

    by : Option ℕ → Type 0
    by None = o.peer ≡ None
    by (Some shape) =
        (number : ℕ) × (p : Peer) × (o.peer ≡ Some number) × (slice_get peers number ≡ Some p) × (p.holder ≡ Some id)
        × (p.state.is_open ≡ cond o.disposed false true) × (p.state.shape ≡ methods_of (slice_get d.shapes shape))

-- the parent of an object lives, and has it among its children
abbrev pub FamilyGood : Objects → ℕ → Option ℕ → Type 0
FamilyGood os id None = ⊤
FamilyGood os id (Some above) = (p : Object) × (heap.living os above ≡ Some p) × IsIn id p.children

pub record ObjectGood (d : Definition) (w : World) (s : Standing) (id : ℕ) (o : Object) : Type 0 where
  -- it is of its place's class
  pub place : Place
  pub is : place_at d o.place ≡ Some place
  pub class : o.class ≡ place.class
  -- each property is in its kind and range
  pub values : (slot : ℕ) (spec : Spec) → spec_of d o.class slot ≡ Some spec → ValueGood d s spec (slice_get o.values slot)
  -- its children live, and its parent knows it
  pub children : Each (Lives s) o.children
  pub parent : FamilyGood w.objects id o.parent
  -- only readable properties are queued, each once
  pub queue : Each (λ slot. (spec : Spec) × (spec_of d o.class slot ≡ Some spec) × (is_readable spec ≡ true)) o.queue
  pub apart : no_two nat_eq o.queue ≡ true
  -- its peer is its own, and closed where it is disposed
  pub peer : PeerGood d w.peers id o

-- each living object is as it should be
abbrev pub ObjectsGood : Definition → World → Type 0
ObjectsGood d w = (id : ℕ) (o : Object) → heap.living w.objects id ≡ Some o → ObjectGood d w (standing w.objects) id o

-- ** peers

-- A peer that a place names is in the pool, of the shape of the place's class, and open while no object has got it. What the builder has
-- still to make, after so many objects, finds its own there.
pub record PoolGood (d : Definition) (peers : List Peer) (made place : ℕ) (p : Place) (name : List ℕ) : Type 0 where
  pub number : ℕ
  pub peer : Peer
  pub shape : ℕ
  pub methods : Shape
  pub is : peer_number peers name ≡ Some number
  pub has : slice_get peers number ≡ Some peer
  pub of_class : nearest_shape d p.class ≡ Some shape
  pub shaped : (slice_get d.shapes shape ≡ Some methods) × (peer.state.shape ≡ methods.methods)
  pub is_open : peer.holder ≡ None → peer.state.is_open ≡ true
  pub left : p.is_prototype ≡ false → made ≤ place → peer.holder ≡ None

abbrev pub PeersGood : Definition → List Peer → (made : ℕ) → Type 0
PeersGood d peers made = (place : ℕ) (p : Place) → place_at d place ≡ Some p → Each (PoolGood d peers made place p) p.peers
