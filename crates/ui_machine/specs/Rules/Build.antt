-- The build of a definition's objects, bindings and handlers (GTK manual, GtkBuilder).
use Rattle.std.specs.List.{flat_map}
use Rattle.std.specs.Prelude.{List, None, Ok, Option, Some, [], cond, false, is_some, nat_le, slice_get, suc, true, ℕ, ◌++◌, ◌||◌, ◌∷◌}
use Rattle.ui_machine.specs.declared.arm.Arm.TheVariants as arms
use Rattle.ui_machine.specs.Definition.{Definition}
use Rattle.ui_machine.specs.Definition.Lookups.{place_at}
use Rattle.ui_machine.specs.Definition.Places.{Attached, Bind, Given, GivenProperty, Place, named, value}
use Rattle.ui_machine.specs.Definition.Properties.{has_flags}
use Rattle.ui_machine.specs.Definition.Values as values
use Rattle.ui_machine.specs.Outcome.{Answer, known, only_if, ◌>>=◌}
use Rattle.ui_machine.specs.Rules.Children.{adopted}
use Rattle.ui_machine.specs.Rules.Connections.{Connection, detail_at, is_too_late, signal_number, with_handler}
use Rattle.ui_machine.specs.Rules.Construction.{has_shape, making}
use Rattle.ui_machine.specs.Rules.Sets.{if_settable, is_disposed, spec_at}
use Rattle.ui_machine.specs.Rules.Transform.{same_bool}
use Rattle.ui_machine.specs.Seq.{total}
use Rattle.ui_machine.specs.State.Bindings.{Binding}
use Rattle.ui_machine.specs.State.Config.{BuilderEntry, Started, World, built, builder_entry, released, starts, unbuilt}
use Rattle.ui_machine.specs.State.Objects.{living}
use Rattle.ui_machine.specs.State.Peers.{Peer, peer_number}
use Rattle.ui_machine.specs.State.Tasks.{Building, Item, Setting, Task, Transferring, adopts, binds, connects, forwards, makes}

-- ** the build

-- the objects from this place on, each adopted by its parent as its construction ends
abbrev pub adopts_if : ℕ → Option ℕ → List Item
adopts_if place None = []
adopts_if place (Some parent) = adopts place ∷ []

-- the items that make the objects from a place on
abbrev pub made_items : ℕ → List Place → List Item
made_items place [] = []
made_items place (p ∷ ps) = cond p.is_prototype [] (makes place ∷ adopts_if place p.parent) ++ made_items (suc place) ps

-- a forward reference, if the value is one
abbrev pub forward_given : ℕ → ℕ → Given → List Item
forward_given place slot (value v) = []
forward_given place slot (named to) = cond (nat_le place to) (forwards place slot to ∷ []) []

-- the forward reference of a given property, if its value is one
abbrev pub forward_of : ℕ → GivenProperty → List Item
forward_of place g = forward_given place g.slot g.given

-- the forward references of the objects from a place on
abbrev pub forward_items : ℕ → List Place → List Item
forward_items place [] = []
forward_items place (p ∷ ps) = cond p.is_prototype [] (flat_map (forward_of place) p.given) ++ forward_items (suc place) ps

-- one item for each entry of a list, by its number
abbrev pub numbered : {A : Type 0} → (ℕ → Item) → ℕ → List A → List Item
numbered item n [] = []
numbered item n (x ∷ xs) = item n ∷ numbered item (suc n) xs

-- the signals of the objects from a place on
abbrev pub connected_items : ℕ → List Place → List Item
connected_items place [] = []
connected_items place (p ∷ ps) = numbered (connects place) 0 p.signals ++ connected_items (suc place) ps

-- what the builder does: objects in document order, then forward references, bindings and signals
abbrev pub build_items : Definition → List Item
build_items d = made_items 0 d.places ++ (forward_items 0 d.places ++ (numbered binds 0 d.bindings ++ connected_items 0 d.places))

-- the object that the builder holds under a place
abbrev pub identity_held : BuilderEntry → Option ℕ
identity_held unbuilt = None
identity_held (built id) = Some id
identity_held released = None

-- that object, as an operand
abbrev pub held_object : World → ℕ → Answer ℕ
held_object w place = known arms.Operand (identity_held (builder_entry w place))

-- that object, of a place that may be left out
unfoldable pub held_data : World → Option ℕ → Answer (Option ℕ)
held_data w None = Ok None
held_data w (Some place) = do
  id ← held_object w place
  Ok (Some id)

-- the number of the first of these names in the pool
abbrev pub first_peer : List Peer → List (List ℕ) → Option ℕ
first_peer peers [] = None
first_peer peers (name ∷ names) = peer_number peers name

-- the peer of a place's object: it has one where its class has a shape, and none elsewhere
abbrev pub peer_for : Definition → World → Place → Answer (Option ℕ)
peer_for d w p =
    only_if (same_bool (has_shape d p.class) (is_some (first_peer w.peers p.peers))) arms.Code (Ok (first_peer w.peers p.peers))

-- an object becomes its parent's child
unfoldable pub building_child : Definition → World → ℕ → List Item → Answer Started
building_child d w place items = do
  p ← known arms.Code (place_at d place)
  above ← known arms.Code p.parent
  parent ← held_object w above
  child ← held_object w place
  family ← adopted d w parent child
  starts family.state (Building items ∷ [])

-- the set of a forward reference
unfoldable pub set_forward : World → (id slot to : ℕ) → List Item → Answer Started
set_forward w id slot to items = do
  target ← held_object w to
  starts w (Setting id slot (values.object (Some target)) ∷ Building items ∷ [])

-- a forward reference is set
unfoldable pub building_forward : Definition → World → (place slot to : ℕ) → List Item → Answer Started
building_forward d w place slot to items = do
  id ← held_object w place
  s ← spec_at d w.objects id slot
  if_settable s (set_forward w id slot to items)

-- a binding of the definition, between two objects
abbrev pub new_binding : ℕ → Bind → ℕ → ℕ → Binding
new_binding number b source target = record {
  number = number;
  name = b.name;
  source = source;
  source_slot = b.source_slot;
  target = target;
  target_slot = b.target_slot;
  flags = b.flags;
  busy = false;
}

-- with SYNC_CREATE the binding sets its target at once
abbrev pub first_transfer : ℕ → Bind → List Task
first_transfer number b = cond (has_flags 2 b.flags) (Transferring number false ∷ []) []

-- the world with one more binding
abbrev pub with_binding : World → Binding → World
with_binding w b = record w { bindings = w.bindings ++ b ∷ [] }

-- a binding is made, unless one of its ends is disposed
unfoldable pub building_binding : Definition → World → ℕ → List Item → Answer Started
building_binding d w number items = do
  b ← known arms.Code (slice_get d.bindings number)
  source ← held_object w b.source
  target ← held_object w b.target
  cond (is_disposed (living w.objects source) || is_disposed (living w.objects target))
      (starts w (Building items ∷ []))
      (starts (with_binding w (new_binding number b source target)) (first_transfer number b ++ Building items ∷ []))

-- how a signal of the definition is connected
abbrev pub connection : (id signal : ℕ) → Option (List ℕ) → Attached → Option ℕ → Connection
connection id signal detail a arg = record {
  object = id;
  signal = signal;
  detail = detail;
  program = a.program;
  after = a.after;
  swapped = a.swapped;
  arg = arg;
  by_code = false;
}

-- the world with a signal connected, unless one of its objects is disposed
abbrev pub with_signal : World → Connection → World
with_signal w c = cond (is_too_late w.objects c.object c.arg) w (with_handler w c)

-- a signal is connected
unfoldable pub building_handler : Definition → World → ℕ → ℕ → List Item → Answer Started
building_handler d w place number items = do
  p ← known arms.Code (place_at d place)
  a ← known arms.Code (slice_get p.signals number)
  id ← held_object w place
  arg ← held_data w a.with
  signal ← known arms.Code (signal_number d p.class a.signal)
  detail ← detail_at d p.class signal a.detail
  starts (with_signal w (connection id signal detail a arg)) (Building items ∷ [])

-- ** what the builder has still to do

-- 1 where an item makes an object
abbrev pub is_making : Item → ℕ
is_making (makes place) = 1
is_making (adopts place) = 0
is_making (forwards place slot to) = 0
is_making (binds number) = 0
is_making (connects place number) = 0

-- 1 where an item connects a signal
abbrev pub is_connecting : Item → ℕ
is_connecting (makes place) = 0
is_connecting (adopts place) = 0
is_connecting (forwards place slot to) = 0
is_connecting (binds number) = 0
is_connecting (connects place number) = 1

-- the sum over the items that the build has left
abbrev pub of_items : (Item → ℕ) → Task → ℕ
of_items f (Building items) = total f items
of_items f _ = 0

-- how many objects are still to be made
abbrev pub to_make : List Task → ℕ
to_make tasks = total (of_items is_making) tasks

-- how many handlers are still to be connected
abbrev pub to_connect : List Task → ℕ
to_connect tasks = total (of_items is_connecting) tasks

-- ** the items of the build

-- an object of the build is made, with the peer that is its own
unfoldable pub building_object : Definition → World → ℕ → List Item → Answer Started
building_object d w place items = do
  p ← known arms.Code (place_at d place)
  peer ← peer_for d w p
  made ← making d w place peer true
  starts made.world (made.tasks ++ Building items ∷ [])

-- the next item of the build
abbrev pub building : Definition → World → List Item → Answer Started
building d w [] = starts w []
building d w (makes place ∷ items) = building_object d w place items
building d w (adopts place ∷ items) = building_child d w place items
building d w (forwards place slot to ∷ items) = building_forward d w place slot to items
building d w (binds number ∷ items) = building_binding d w number items
building d w (connects place number ∷ items) = building_handler d w place number items
