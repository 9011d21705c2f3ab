-- A count that rises through a run, as of objects or of handlers, and what a step does to it.
use Rattle.std.proofs.Common.{◌≡◌, refl, ℕ, zero, suc, ◌+◌, ◌-◌, ◌≤◌, Bool, true, false, cond, nat_eq, List, [], ◌∷◌, ◌++◌, Option, None, Some, Ok, ◌&&◌}
use Rattle.std.specs.Prelude.{IfOk, codes, is_some, nat_lt, slice_get}
use Rattle.std.proofs.lemmas.Bool.{false≢true}
use Rattle.ui_machine.specs.declared.arm.Arm.TheVariants as arms
use Rattle.ui_machine.specs.Definition.{Definition}
use Rattle.ui_machine.specs.Definition.Places.{Place}
use Rattle.ui_machine.specs.Definition.Values.{Value}
use Rattle.ui_machine.specs.Instructions.Objects.{has_room_for_object}
use Rattle.ui_machine.specs.Instructions.Registers.{identity_of, operand_in, value_in}
use Rattle.ui_machine.specs.Outcome.{After, Answer, known, only_if}
use Rattle.ui_machine.specs.Output.Lines as lines
use Rattle.ui_machine.specs.Rules.Build.{of_items, to_connect, to_make}
use Rattle.ui_machine.specs.Rules.Children.{adopted, is_unadoptable, orphaned, updated, with_child, with_family, with_parent, without_child}
use Rattle.ui_machine.specs.Rules.Connections.{has_room_for_handler}
use Rattle.ui_machine.specs.Rules.Disposal.{closing, disposed, finalised, is_first, objects_disposed, peer_of, said_if, without_object}
use Rattle.ui_machine.specs.Rules.NotifyQueue.{frozen_less, frozen_more, less_frozen, most_freezes, queued, raised}
use Rattle.ui_machine.specs.Seq.{total, write}
use Rattle.ui_machine.specs.State.Config.{World, said}
use Rattle.ui_machine.specs.State.Objects.{Object, Objects, changed, living, object_at, put, value_at, with_value}
use Rattle.ui_machine.specs.State.Peers.{Peer, closed_peer, no_peer}
use Rattle.ui_machine.specs.State.Tasks.{Frame, Item, Task, connects, makes}
use Rattle.machine_laws.proofs.KeptProofs.{bind_keeps, kept_at, only_keeps}

-- an object is another with the same kin
pub record SameKin (o new : Object) : Type 0 where
  pub children : new.children ≡ o.children
  pub parent : new.parent ≡ o.parent

-- what the agenda has still to take, where each item takes so many
abbrev pub to_take : (Item → ℕ) → List Task → ℕ
to_take takes tasks = total (of_items takes) tasks

-- what is counted, and that each change of objects and of handlers' numbers keeps to the count
pub record Counting : Type 1 where
  -- how many an item of the build takes
  pub takes : Item → ℕ
  -- so many were taken, where there are these objects and this was the last number of a handler
  pub Holds : ℕ → Objects → ℕ → Type 0
  -- where so many were taken, an identity is among those that were made
  pub IsAmong : ℕ → ℕ → Type 0
  -- how many there are
  pub most : ℕ
  -- an object that lives was made
  pub lives : (n last : ℕ) (os : Objects) (id : ℕ) (o : Object) → Holds n os last → living os id ≡ Some o → IsAmong n id
  -- a change of an object that keeps its kin
  pub changes : {X : Type 0} (n last : ℕ) (os : Objects) (id : ℕ) (change : Object → Answer (After Object X)) → Holds n os last
      → ((o : Object) → IfOk (change o) (λ r. SameKin o r.state)) → IfOk (changed os id change) (λ r. Holds n r.state last)
  -- an object becomes another's child, and leaves its parent
  pub adopts : (n last : ℕ) (os : Objects) (parent child : ℕ) → Holds n os last → IsAmong n parent → IsAmong n child
      → Holds n (updated (with_parent (Some parent)) child (updated (with_child child) parent os)) last
  pub leaves : (n last : ℕ) (os : Objects) (id : ℕ) (o : Object) (parent : ℕ) → Holds n os last → living os id ≡ Some o → o.parent ≡ Some parent
      → Holds n (updated (with_parent None) id (updated (without_child id) parent os)) last
  -- one is disposed, and taken out
  pub disposes : (d : Definition) (n last : ℕ) (os : Objects) (id : ℕ) → Holds n os last → IsAmong n id → Holds n (objects_disposed d id os) last
  pub removes : (n last : ℕ) (os : Objects) (id : ℕ) → Holds n os last → IsAmong n id → Holds n (put os id None) last
  -- one object more takes as many as an item that makes it, and so does one handler more
  pub makes_object : (n last : ℕ) (os : Objects) (place : ℕ) (o : Object) → o.children ≡ [] → o.parent ≡ None → Holds n os last
      → Holds (takes (makes place) + n) (os ++ Some o ∷ []) last
  pub connects_handler : (n last : ℕ) (os : Objects) (place number : ℕ) → Holds n os last → Holds (takes (connects place number) + n) os (suc last)
  -- where a program may make an object, or connect a handler, so many more are left than the agenda has still to take
  pub object_room : (d : Definition) (w : World) (n : ℕ) (rest : List Task) (p : Place) (place : ℕ) → Holds n w.objects w.last_handler
      → n + to_take takes rest ≤ most → has_room_for_object d w (to_make rest) p ≡ true → takes (makes place) + n + to_take takes rest ≤ most
  pub handler_room : (d : Definition) (w : World) (n : ℕ) (rest : List Task) (id signal place number : ℕ) → Holds n w.objects w.last_handler
      → n + to_take takes rest ≤ most → has_room_for_handler d w (to_connect rest) id signal ≡ true
      → takes (connects place number) + n + to_take takes rest ≤ most

-- so many were taken in a world
abbrev pub Taken : Counting → ℕ → World → Type 0
Taken K n w = K.Holds n w.objects w.last_handler

-- ** changes of one object

raised_same : (slot : ℕ) (o : Object) → IfOk (raised slot o) (λ r. SameKin o r.state)
raised_same slot o = by (nat_eq o.freezes 0)
  where
    by : (b : Bool) → SameKin o (cond {A = After Object Bool} b (record { state = o; answer = true }) (record { state = record o { queue = queued o.queue slot }; answer = false })).state
    by true = record { children = refl; parent = refl }
    by false = record { children = refl; parent = refl }

value_same : (slot : ℕ) (v : Value) (o : Object) → IfOk (with_value slot v o) (λ r. SameKin o r.state)
unfolding with_value
value_same slot v o = bind_keeps (value_at slot o) _ _ (λ old _. record { children = refl; parent = refl })

more_frozen_same : (o : Object) → IfOk (frozen_more o) (λ r. SameKin o r.state)
more_frozen_same o = only_keeps (nat_lt o.freezes most_freezes) arms.Freeze _ _ (record { children = refl; parent = refl })

less_frozen_same : (o : Object) → IfOk (frozen_less o) (λ r. SameKin o r.state)
less_frozen_same o = only_keeps (nat_lt 0 o.freezes) arms.Freeze _ _ (by (o.freezes - 1))
  where
    by : (k : ℕ) → SameKin o (less_frozen k o).state
    by zero = record { children = refl; parent = refl }
    by (suc k) = record { children = refl; parent = refl }

pub both_true : (a b : Bool) → (a && b) ≡ true → (a ≡ true) × (b ≡ true)
both_true true b h = (refl, h)
both_true false b h = absurd (false≢true h)

-- what an operand is
pub found : {A : Type 0} (x : Option A) (o : A) → known arms.Operand x ≡ Ok o → x ≡ Some o
found None o is = absurd (cc is)
found (Some y) o is = cc is

-- ** worlds

module _ (K : Counting) (n : ℕ) where
  -- a notification is raised, a value is written, and a freeze more and less
  pub raised_taken : (w : World) → Taken K n w → (id slot : ℕ) → IfOk (changed w.objects id (raised slot)) (λ r. K.Holds n r.state w.last_handler)
  raised_taken w taken id slot = K.changes n w.last_handler w.objects id (raised slot) taken (raised_same slot)

  pub written_taken : (w : World) → Taken K n w → (id slot : ℕ) (v : Value) → IfOk (changed w.objects id (with_value slot v)) (λ r. K.Holds n r.state w.last_handler)
  written_taken w taken id slot v = K.changes n w.last_handler w.objects id (with_value slot v) taken (value_same slot v)

  pub frozen_taken : (w : World) → Taken K n w → (id : ℕ) → IfOk (changed w.objects id frozen_more) (λ r. K.Holds n r.state w.last_handler)
  frozen_taken w taken id = K.changes n w.last_handler w.objects id frozen_more taken more_frozen_same

  pub thawed_taken : (w : World) → Taken K n w → (id : ℕ) → IfOk (changed w.objects id frozen_less) (λ r. K.Holds n r.state w.last_handler)
  thawed_taken w taken id = K.changes n w.last_handler w.objects id frozen_less taken less_frozen_same

module _ (K : Counting) (d : Definition) (w : World) (n : ℕ) (taken : Taken K n w) where
  -- an object that is there is among those that were made
  is_among : (id : ℕ) (o : Object) → object_at w.objects id ≡ Ok o → K.IsAmong n id
  is_among id o is = K.lives n w.last_handler w.objects id o taken (found (living w.objects id) o is)

  -- so is an operand
  pub operand_among : (f : Frame) (from : ℕ) → IfOk (operand_in w f from) (λ id. K.IsAmong n id)
  unfolding operand_in
  operand_among f from = bind_keeps (value_in f from) _ _ (λ v _. bind_keeps (identity_of v) _ _ (λ i _. by i (living w.objects i) refl))
    where
      by : (i : ℕ) (x : Option Object) → living w.objects i ≡ x → IfOk (only_if (is_some x) arms.Operand (Ok i)) (λ id. K.IsAmong n id)
      by i None is = tt
      by i (Some o) is = K.lives n w.last_handler w.objects i o taken is

  closes : (v : World) → Taken K n v → (peer : Option ℕ) → IfOk (closing d peer v) (Taken K n)
  unfolding closing
  closes v kept None = kept
  closes v kept (Some number) = bind_keeps (known arms.Code (slice_get v.peers number)) _ (Taken K n) (λ p _. shut p p.state.is_open)
    where
      shut : (p : Peer) (b : Bool) → Taken K n (cond b (said d (record v { peers = write no_peer v.peers number (closed_peer p) }) (lines.close p.name)) v)
      shut p true = kept
      shut p false = kept

  -- an object is disposed
  pub disposed_taken : (id : ℕ) → K.IsAmong n id → IfOk (disposed d w id) (Taken K n)
  disposed_taken id among = closes _ (by (is_first (living w.objects id))) (peer_of (living w.objects id))
    where
      by : (first : Bool) → Taken K n (said_if d first (without_object d w id) (lines.dispose id))
      by true = K.disposes d n w.last_handler w.objects id taken among
      by false = K.disposes d n w.last_handler w.objects id taken among

  -- an object is finalised
  pub finalised_taken : (id : ℕ) → K.IsAmong n id → IfOk (finalised d w id) (Taken K n)
  unfolding finalised
  finalised_taken id among = bind_keeps (disposed d w id) _ (Taken K n) (λ v is.
      K.removes n v.last_handler v.objects id (kept_at (Taken K n) (disposed d w id) v (disposed_taken id among) is) among)

  -- an object becomes another's child, or does not
  pub adopted_taken : (parent child : ℕ) → IfOk (adopted d w parent child) (λ r. Taken K n r.state)
  unfolding adopted
  adopted_taken parent child = bind_keeps (object_at w.objects parent) _ _ (λ p here. bind_keeps (object_at w.objects child) _ _ (λ c there.
      by (is_unadoptable parent p child c) (is_among parent p here) (is_among child c there)))
    where
      by : (b : Bool) → K.IsAmong n parent → K.IsAmong n child
          → Taken K n (cond {A = After World Bool} b (record { state = said d w (lines.limit (codes "adopt")); answer = false }) (record { state = with_family d w parent child; answer = true })).state
      by true high low = taken
      by false high low = K.adopts n w.last_handler w.objects parent child taken high low

  -- an object leaves its parent, if it has one
  pub orphaned_taken : (id : ℕ) (o : Object) → object_at w.objects id ≡ Ok o → Taken K n (orphaned d w id o.parent)
  orphaned_taken id o is = by o.parent refl
    where
      by : (parent : Option ℕ) → o.parent ≡ parent → Taken K n (orphaned d w id parent)
      by None at = taken
      by (Some parent) at = K.leaves n w.last_handler w.objects id o parent taken (found (living w.objects id) o is) at
