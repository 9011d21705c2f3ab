-- What a contract sees of a heap.
use Rattle.std.specs.Prelude.{◌≡◌, ℕ, Bool, Option}
use Rattle.ui_machine.specs.State.Objects.{Object}
use Rattle.native_peers.specs.declared.pools.PeerPool.{PeerPool}
use Rattle.instance_tables.specs.Store.{Store}
use Rattle.instance_tables.specs.Weak.{Marks}
use Rattle.instances.specs.Making.{born, floats_at_first}
use Rattle.instances.specs.declared.classes.Classes.{Classes}
use Rattle.instances.specs.declared.heaps.Heap.{Heap}

-- its objects, and how often each is held
abbrev pub objects_of : {I : Type 0} {Held : I → Type 0} → Heap I Held → Store
objects_of heap = heap.table

-- its pool
abbrev pub pool_of : {I : Type 0} {Held : I → Type 0} → Heap I Held → PeerPool I Held
pool_of heap = heap.pool

-- what it reads of the classes
abbrev pub classes_of : {I : Type 0} {Held : I → Type 0} → Heap I Held → Classes
classes_of heap = heap.classes

-- which slots of its classes are weak
abbrev pub marks_of : {I : Type 0} {Held : I → Type 0} → Heap I Held → Marks
marks_of heap = (classes_of heap).weak.now

-- an object of a class as it makes one
abbrev pub born_in : {I : Type 0} {Held : I → Type 0} → Heap I Held → ℕ → ℕ → Option ℕ → Object
born_in heap place class peer = born (classes_of heap).types.now (classes_of heap).specs.now place class peer

-- whether an object of a class begins floating in it
abbrev pub floats_in : {I : Type 0} {Held : I → Type 0} → Heap I Held → ℕ → Bool
floats_in heap class = floats_at_first (classes_of heap).types.now class

-- it reads the same classes
abbrev pub SameClasses : {I : Type 0} {Held : I → Type 0} → Heap I Held → Heap I Held → Type 0
SameClasses old new = classes_of new ≡ classes_of old

-- its objects alone have changed
abbrev pub ChangesObjects : {I : Type 0} {Held : I → Type 0} → Heap I Held → Heap I Held → Type 0
ChangesObjects old new = (pool_of new ≡ pool_of old) × SameClasses old new
