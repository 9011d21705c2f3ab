-- What holds of the peer of each object stays so where objects change: no change but the making of one gives an object a peer.
use Rattle.std.proofs.Common.{◌≡◌, refl, ap, sym, ◌∙◌, ℕ, zero, suc, ◌-◌, Bool, true, false, cond, nat_eq, [], ◌∷◌, ◌++◌, Option, None, Some}
use Rattle.std.specs.Prelude.{IfOk, IfSome, codes, nat_lt, slice_get}
use Rattle.ui_machine.specs.declared.arm.Arm.TheVariants as arms
use Rattle.ui_machine.specs.Definition.{Definition}
use Rattle.ui_machine.specs.Definition.Values.{Value}
use Rattle.ui_machine.specs.Outcome.{After, Answer, known}
use Rattle.ui_machine.specs.Output.Lines as lines
use Rattle.ui_machine.specs.Rules.Children.{adopted, is_unadoptable, orphaned, updated, with_child, with_family, with_parent, without_child}
use Rattle.ui_machine.specs.Rules.Disposal.{closing, disposed, finalised, is_first, objects_disposed, peer_of, said_if, without_object}
use Rattle.ui_machine.specs.Rules.NotifyQueue.{frozen_less, frozen_more, less_frozen, most_freezes, queued, raised}
use Rattle.ui_machine.specs.Seq.{read, write}
use Rattle.ui_machine.specs.State.Config.{World, said}
use Rattle.ui_machine.specs.State.Objects.{Object, Objects, changed, living, object_at, put, value_at, with_value}
use Rattle.ui_machine.specs.State.Peers.{Peer, closed_peer, no_peer}
use Rattle.machine_laws.proofs.KeptProofs.{bind_keeps, only_keeps}
use Rattle.law_short_texts.proofs.Entries.{bind_with, there, weaker_is}
use Rattle.law_held_peers.proofs.Changes.{SamePeer, SamePeers, changed_same, disposed_same, peer_seen, put_none, then_same, updated_same}

-- ** changes of one object

raised_same : (slot : ℕ) (o : Object) → IfOk (raised slot o) (λ r. SamePeer o r.state)
raised_same slot o = by (nat_eq o.freezes 0)
  where
    by : (b : Bool) → SamePeer o (cond {A = After Object Bool} b (record { state = o; answer = true }) (record { state = record o { queue = queued o.queue slot }; answer = false })).state
    by true = record { peer = refl; disposed = refl }
    by false = record { peer = refl; disposed = refl }

value_same : (slot : ℕ) (v : Value) (o : Object) → IfOk (with_value slot v o) (λ r. SamePeer o r.state)
unfolding with_value
value_same slot v o = bind_keeps (value_at slot o) _ _ (λ old _. record { peer = refl; disposed = refl })

more_same : (o : Object) → IfOk (frozen_more o) (λ r. SamePeer o r.state)
more_same o = only_keeps (nat_lt o.freezes most_freezes) arms.Freeze _ _ (record { peer = refl; disposed = refl })

less_same : (o : Object) → IfOk (frozen_less o) (λ r. SamePeer o r.state)
less_same o = only_keeps (nat_lt 0 o.freezes) arms.Freeze _ _ (by (o.freezes - 1))
  where
    by : (n : ℕ) → SamePeer o (less_frozen n o).state
    by zero = record { peer = refl; disposed = refl }
    by (suc n) = record { peer = refl; disposed = refl }

module _ (Q : ℕ → Type 0) where
  -- Q holds of the peer of each object that lives and has one
  pub record Have (os : Objects) : Type 0 where
    pub each : (id number : ℕ) → peer_seen (living os id) ≡ Some (Some number) → Q number

  pub have_same : (os new : Objects) → SamePeers os new → Have os → Have new
  have_same os new same h = record { each = λ id number is. h.each id number (sym (same.peer id) ∙ is) }

  -- one is changed, and keeps its peer
  changed_have : {X : Type 0} (os : Objects) → Have os → (id : ℕ) (change : Object → Answer (After Object X)) → ((o : Object) → IfOk (change o) (λ r. SamePeer o r.state)) →
      IfOk (changed os id change) (λ r. Have r.state)
  changed_have {X} os h id change same =
      weaker_is (λ (r : After Objects X). SamePeers os r.state) (λ (r : After Objects X). Have r.state) (changed os id change) (λ r s. have_same os r.state s h) (changed_same os id change same)

  pub raised_have : (os : Objects) → Have os → (id slot : ℕ) → IfOk (changed os id (raised slot)) (λ r. Have r.state)
  raised_have os h id slot = changed_have os h id (raised slot) (raised_same slot)

  pub value_have : (os : Objects) → Have os → (id slot : ℕ) (v : Value) → IfOk (changed os id (with_value slot v)) (λ r. Have r.state)
  value_have os h id slot v = changed_have os h id (with_value slot v) (value_same slot v)

  pub more_have : (os : Objects) → Have os → (id : ℕ) → IfOk (changed os id frozen_more) (λ r. Have r.state)
  more_have os h id = changed_have os h id frozen_more more_same

  pub less_have : (os : Objects) → Have os → (id : ℕ) → IfOk (changed os id frozen_less) (λ r. Have r.state)
  less_have os h id = changed_have os h id frozen_less less_same

  -- ** objects that are made, and that end

  more_objects : (os : Objects) (o : Object) → ((i number : ℕ) → peer_seen (read None os i) ≡ Some (Some number) → Q number) → ((number : ℕ) → o.peer ≡ Some number → Q number)
      → (i number : ℕ) → peer_seen (read None (os ++ Some o ∷ []) i) ≡ Some (Some number) → Q number
  more_objects [] o all one zero number is = one number (let e : ◌≡◌ {A = Option (Option ℕ)} (Some o.peer) (Some (Some number)) = is in cc e)
  more_objects [] o all one (suc i) number is = absurd (cc is)
  more_objects (x ∷ os) o all one zero number is = all zero number is
  more_objects (x ∷ os) o all one (suc i) number is = more_objects os o (λ i number is. all (suc i) number is) one i number is

  pub made_have : (os : Objects) → Have os → (o : Object) → IfSome o.peer Q → Have (os ++ Some o ∷ [])
  made_have os h o own = record { each = each }
    where
      each : (id number : ℕ) → peer_seen (living (os ++ Some o ∷ []) id) ≡ Some (Some number) → Q number
      each zero number is = absurd (cc is)
      each (suc i) number is = more_objects os o (λ i number is. h.each (suc i) number is) (λ number e. there Q o.peer number own e) i number is

  disposed_have : (d : Definition) (os : Objects) → Have os → (id : ℕ) → Have (objects_disposed d id os)
  disposed_have d os h id = record { each = λ at number is. h.each at number (sym ((disposed_same d os id).peer at) ∙ is) }

  removed_have : (os : Objects) → Have os → (id : ℕ) → Have (put os id None)
  removed_have os h id = record { each = λ at number is. by at number (living (put os id None) at) refl is }
    where
      by : (at number : ℕ) (x : Option Object) → living (put os id None) at ≡ x → peer_seen x ≡ Some (Some number) → Q number
      by at number None e is = absurd (cc is)
      by at number (Some o) e is = h.each at number (ap peer_seen (put_none os id at o e) ∙ is)

  -- ** changes of a world

  module _ (d : Definition) (w : World) (h : Have w.objects) where
    shut : (v : World) → Have v.objects → (number : ℕ) (p : Peer) (b : Bool)
        → Have (cond b (said d (record v { peers = write no_peer v.peers number (closed_peer p) }) (lines.close p.name)) v).objects
    shut v kept number p true = kept
    shut v kept number p false = kept

    closes : (v : World) → Have v.objects → (peer : Option ℕ) → IfOk (closing d peer v) (λ u. Have u.objects)
    unfolding closing
    closes v kept None = kept
    closes v kept (Some number) = bind_keeps (known arms.Code (slice_get v.peers number)) _ (λ (u : World). Have u.objects) (λ p _. shut v kept number p p.state.is_open)

    goes : (id : ℕ) (first : Bool) → Have (said_if d first (without_object d w id) (lines.dispose id)).objects
    goes id true = disposed_have d w.objects h id
    goes id false = disposed_have d w.objects h id

    pub disposes_have : (id : ℕ) → IfOk (disposed d w id) (λ v. Have v.objects)
    disposes_have id = closes _ (goes id (is_first (living w.objects id))) (peer_of (living w.objects id))

    pub finalises_have : (id : ℕ) → IfOk (finalised d w id) (λ v. Have v.objects)
    unfolding finalised
    finalises_have id = bind_with (disposed d w id) _ (λ (v : World). Have v.objects) (λ (v : World). Have v.objects) (disposes_have id) (λ v now. removed_have v.objects now id)

    pub adopts_have : (parent child : ℕ) → IfOk (adopted d w parent child) (λ r. Have r.state.objects)
    unfolding adopted
    adopts_have parent child = bind_keeps (object_at w.objects parent) _ _ (λ p _. bind_keeps (object_at w.objects child) _ _ (λ c _. by (is_unadoptable parent p child c)))
      where
        by : (b : Bool) → Have (cond {A = After World Bool} b (record { state = said d w (lines.limit (codes "adopt")); answer = false }) (record { state = with_family d w parent child; answer = true })).state.objects
        by true = h
        by false = have_same w.objects _
            (then_same w.objects (updated (with_child child) parent w.objects) _
            (updated_same (with_child child) (λ o. record { peer = refl; disposed = refl }) w.objects parent)
            (updated_same (with_parent (Some parent)) (λ o. record { peer = refl; disposed = refl }) (updated (with_child child) parent w.objects) child)) h

    pub orphans_have : (id : ℕ) (parent : Option ℕ) → Have (orphaned d w id parent).objects
    orphans_have id None = h
    orphans_have id (Some parent) = have_same w.objects _
        (then_same w.objects (updated (without_child id) parent w.objects) _
        (updated_same (without_child id) (λ o. record { peer = refl; disposed = refl }) w.objects parent)
        (updated_same (with_parent None) (λ o. record { peer = refl; disposed = refl }) (updated (without_child id) parent w.objects) id)) h
