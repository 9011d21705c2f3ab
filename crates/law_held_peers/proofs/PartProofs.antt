-- What is kept by each change is so after each part of a step that changes objects or peers.
use Rattle.std.proofs.Common.{◌≡◌, refl, ℕ, zero, suc, ◌-◌, Bool, true, false, cond, not, nat_eq, [], ◌∷◌, length, Option, None, Some, Ok, Err, subst, sym}
use Rattle.std.specs.List.{list_all}
use Rattle.std.specs.Prelude.{IfOk, codes, nat_lt, slice_get}
use Rattle.ui_machine.specs.declared.arm.Arm.TheVariants as arms
use Rattle.ui_machine.specs.Definition.{Definition}
use Rattle.ui_machine.specs.Definition.Lookups.{place_at, specs_of, type_of}
use Rattle.ui_machine.specs.Definition.Places.{Place}
use Rattle.ui_machine.specs.Definition.Values.{Value}
use Rattle.ui_machine.specs.Outcome.{After, Answer, known, only_if}
use Rattle.ui_machine.specs.Output.Lines as lines
use Rattle.ui_machine.specs.Rules.Children.{adopted, is_unadoptable, orphaned, updated, with_child, with_family, with_parent, without_child}
use Rattle.ui_machine.specs.Rules.Construction.{construction, has_valid_default, making, new_object, with_object}
use Rattle.ui_machine.specs.Rules.Disposal.{closing, disposed, finalised, is_first, objects_disposed, peer_of, said_if, without_object}
use Rattle.ui_machine.specs.Rules.NotifyQueue.{frozen_less, frozen_more, less_frozen, most_freezes, queued, raised}
use Rattle.ui_machine.specs.Rules.Sets.{raising}
use Rattle.ui_machine.specs.Seq.{write}
use Rattle.ui_machine.specs.State.Config.{Started, World, said, starts}
use Rattle.ui_machine.specs.State.Objects.{Object, Objects, changed, living, object_at, put, value_at, with_value}
use Rattle.ui_machine.specs.State.Peers.{Peer, closed_peer, no_peer}
use Rattle.ui_machine.specs.State.Tasks.{Constructing}
use Rattle.machine_laws.proofs.KeptProofs.{bind_keeps, only_keeps}
use Rattle.law_held_peers.proofs.Changes.{SamePeer, SamePeers, bind_kept, changed_same, known_is, then_same, updated_same}
use Rattle.law_held_peers.proofs.Keeping.{AfterDispose, Keeping, closes, has_none, was_closed}

-- ** changes of one object

raised_same : (slot : ℕ) (o : Object) → IfOk (raised slot o) (λ r. SamePeer o r.state)
raised_same slot o = by (nat_eq o.freezes 0)
  where
    by : (b : Bool) → SamePeer o (cond {A = After Object Bool} b (record { state = o; answer = true }) (record { state = record o { queue = queued o.queue slot }; answer = false })).state
    by true = record { peer = refl; disposed = refl }
    by false = record { peer = refl; disposed = refl }

value_same : (slot : ℕ) (v : Value) (o : Object) → IfOk (with_value slot v o) (λ r. SamePeer o r.state)
unfolding with_value
value_same slot v o = bind_keeps (value_at slot o) _ _ (λ old _. record { peer = refl; disposed = refl })

more_frozen_same : (o : Object) → IfOk (frozen_more o) (λ r. SamePeer o r.state)
more_frozen_same o = only_keeps (nat_lt o.freezes most_freezes) arms.Freeze _ _ (record { peer = refl; disposed = refl })

less_frozen_same : (o : Object) → IfOk (frozen_less o) (λ r. SamePeer o r.state)
less_frozen_same o = only_keeps (nat_lt 0 o.freezes) arms.Freeze _ _ (by (o.freezes - 1))
  where
    by : (n : ℕ) → SamePeer o (less_frozen n o).state
    by zero = record { peer = refl; disposed = refl }
    by (suc n) = record { peer = refl; disposed = refl }

module _ (K : Keeping) where
  -- so it is in a world
  abbrev pub Kept : World → Type 0
  Kept w = K.Holds w.objects w.peers

  one_changes : {X : Type 0} (w : World) → Kept w → (id : ℕ) (change : Object → Answer (After Object X)) → ((o : Object) → IfOk (change o) (λ r. SamePeer o r.state)) →
      IfOk (changed w.objects id change) (λ r. K.Holds r.state w.peers)
  one_changes {X} w holds id change same = by (changed w.objects id change) (changed_same w.objects id change same)
    where
      by : (a : Answer (After Objects X)) → IfOk a (λ r. SamePeers w.objects r.state) → IfOk a (λ r. K.Holds r.state w.peers)
      by (Ok r) x = K.changes w.objects r.state w.peers x holds
      by (Err arm) x = tt

  -- a value is written, and a freeze more and less
  pub written_kept : (w : World) → Kept w → (id slot : ℕ) (v : Value) → IfOk (changed w.objects id (with_value slot v)) (λ r. K.Holds r.state w.peers)
  written_kept w holds id slot v = one_changes w holds id (with_value slot v) (value_same slot v)

  pub frozen_kept : (w : World) → Kept w → (id : ℕ) → IfOk (changed w.objects id frozen_more) (λ r. K.Holds r.state w.peers)
  frozen_kept w holds id = one_changes w holds id frozen_more more_frozen_same

  pub thawed_kept : (w : World) → Kept w → (id : ℕ) → IfOk (changed w.objects id frozen_less) (λ r. K.Holds r.state w.peers)
  thawed_kept w holds id = one_changes w holds id frozen_less less_frozen_same

  -- a notification is raised
  pub raises_kept : (w : World) → Kept w → (id slot : ℕ) → IfOk (raising w id slot) (λ s. Kept s.world)
  unfolding raising
  raises_kept w holds id slot =
      bind_kept (λ (r : After Objects Bool). K.Holds r.state w.peers) (changed w.objects id (raised slot)) _ (λ (s : Started). Kept s.world)
      (one_changes w holds id (raised slot) (raised_same slot)) (λ r x. x)

  module _ (d : Definition) (w : World) (holds : Kept w) where
    -- ** families

    -- an object becomes another's child, or does not
    pub adopted_kept : (parent child : ℕ) → IfOk (adopted d w parent child) (λ r. Kept r.state)
    unfolding adopted
    adopted_kept parent child = bind_keeps (object_at w.objects parent) _ _ (λ p _. bind_keeps (object_at w.objects child) _ _ (λ c _. by (is_unadoptable parent p child c)))
      where
        by : (b : Bool) → Kept (cond {A = After World Bool} b (record { state = said d w (lines.limit (codes "adopt")); answer = false }) (record { state = with_family d w parent child; answer = true })).state
        by true = holds
        by false = K.changes w.objects _ w.peers
            (then_same w.objects (updated (with_child child) parent w.objects) _
            (updated_same (with_child child) (λ o. record { peer = refl; disposed = refl }) w.objects parent)
            (updated_same (with_parent (Some parent)) (λ o. record { peer = refl; disposed = refl }) (updated (with_child child) parent w.objects) child)) holds

    -- an object leaves its parent, if it has one
    pub orphaned_kept : (id : ℕ) (parent : Option ℕ) → Kept (orphaned d w id parent)
    orphaned_kept id None = holds
    orphaned_kept id (Some parent) = K.changes w.objects _ w.peers
        (then_same w.objects (updated (without_child id) parent w.objects) _
        (updated_same (without_child id) (λ o. record { peer = refl; disposed = refl }) w.objects parent)
        (updated_same (with_parent None) (λ o. record { peer = refl; disposed = refl }) (updated (without_child id) parent w.objects) id)) holds

    -- ** disposal

    -- a world after an object was disposed
    record Disposed (id : ℕ) (v : World) : Type 0 where
      objects : v.objects ≡ objects_disposed d id w.objects
      peers : AfterDispose w.objects w.peers id v.peers

    shuts : (id : ℕ) (first : Bool) (peer : Option ℕ) → peer_of (living w.objects id) ≡ peer → IfOk (closing d peer (said_if d first (without_object d w id) (lines.dispose id))) (Disposed id)
    unfolding closing
    shuts id true None none = record { objects = refl; peers = has_none none refl }
    shuts id false None none = record { objects = refl; peers = has_none none refl }
    shuts id true (Some n) own = bind_keeps (known arms.Code (slice_get w.peers n)) _ (Disposed id) (λ p is.
        by p p.state.is_open refl (known_is arms.Code (slice_get w.peers n) p is))
      where
        v : World
        v = said_if d true (without_object d w id) (lines.dispose id)

        by : (p : Peer) (b : Bool) → p.state.is_open ≡ b → slice_get w.peers n ≡ Some p → Disposed id (cond b (said d (record v { peers = write no_peer w.peers n (closed_peer p) }) (lines.close p.name)) v)
        by p true e there = record { objects = refl; peers = closes n p own there refl }
        by p false e there = record { objects = refl; peers = was_closed n p own there e refl }
    shuts id false (Some n) own = bind_keeps (known arms.Code (slice_get w.peers n)) _ (Disposed id) (λ p is.
        by p p.state.is_open refl (known_is arms.Code (slice_get w.peers n) p is))
      where
        v : World
        v = without_object d w id

        by : (p : Peer) (b : Bool) → p.state.is_open ≡ b → slice_get w.peers n ≡ Some p → Disposed id (cond b (said d (record v { peers = write no_peer w.peers n (closed_peer p) }) (lines.close p.name)) v)
        by p true e there = record { objects = refl; peers = closes n p own there refl }
        by p false e there = record { objects = refl; peers = was_closed n p own there e refl }

    is_disposed : (id : ℕ) → IfOk (disposed d w id) (Disposed id)
    is_disposed id = shuts id (is_first (living w.objects id)) (peer_of (living w.objects id)) refl

    -- an object is disposed
    pub disposed_kept : (id : ℕ) → IfOk (disposed d w id) Kept
    disposed_kept id = by (disposed d w id) (is_disposed id)
      where
        by : (a : Answer World) → IfOk a (Disposed id) → IfOk a Kept
        by (Ok v) x = subst (λ os. K.Holds os v.peers) (sym x.objects) (K.disposes d w.objects w.peers id v.peers x.peers holds)
        by (Err arm) x = tt

    -- and finalised
    pub finalised_kept : (id : ℕ) → IfOk (finalised d w id) Kept
    unfolding finalised
    finalised_kept id = bind_kept (Disposed id) (disposed d w id) _ Kept (is_disposed id) (λ v x.
        subst (λ os. K.Holds (put os id None) v.peers) (sym x.objects) (K.finalises d w.objects w.peers id v.peers x.peers holds))

    -- ** constructions

    pub makes_kept : (place : ℕ) (peer : Option ℕ) (held : Bool) → IfOk (making d w place peer held) (λ s. Kept s.world)
    unfolding making
    makes_kept place peer held = bind_keeps (known arms.Code (place_at d place)) _ _ (λ p _.
        only_keeps (not (type_of d p.class).is_abstract) arms.Abstract (only_if (list_all (has_valid_default d) (specs_of d p.class)) arms.Value (begun p)) _
        (only_keeps (list_all (has_valid_default d) (specs_of d p.class)) arms.Value (begun p) _
        (K.makes w.objects w.peers (new_object d place p peer) refl peer refl holds)))
      where
        begun : Place → Answer Started
        begun p = starts (said d (with_object d w (new_object d place p peer)) (lines.construct (suc (length w.objects)) (type_of d p.class).name))
            (Constructing (suc (length w.objects)) (construction d w place p) held ∷ [])
