-- What each of a pool's boxes may do stays, where one of them was called.
use Rattle.std.proofs.Common.{◌≡◌, refl, sym, ◌∙◌, subst, ℕ, zero, suc, List, [], ◌∷◌, Option, Some}
use Rattle.std.specs.Prelude.{slice_get, slice_set}
use Rattle.ui_machine.specs.Definition.Values.{Value}
use Rattle.ui_machine.specs.State.Peers.{PeerState}
use Rattle.native_peers.specs.Moves.{Relation, SameMoves}
use Rattle.native_peers.specs.Pool.{relations}
use Rattle.native_peers.specs.Seen.{SameRelations}

module _ {N : Type 0} (moves : N → Relation) where
  module _ (p q : N) (same : SameMoves (moves p) (moves q)) (s : PeerState) (m : ℕ) (a : List Value) (r : Option Value) (t : PeerState) where
    on : (items : List N) (k j : ℕ) → slice_get items k ≡ Some p → relations moves items j s m a r t → relations moves (slice_set items k q) j s m a r t
    on [] k j at h = absurd (cc at)
    on (i ∷ items) zero zero at h =
        let e : h.0 ≡ p = cc (sym h.1 ∙ at) in
        (q, refl, (same s m a r t).0 (subst (λ (x : N). moves x s m a r t) e h.2))
    on (i ∷ items) zero (suc j) at h = h
    on (i ∷ items) (suc k) zero at h = h
    on (i ∷ items) (suc k) (suc j) at h = on items k j at h

    back : (items : List N) (k j : ℕ) → slice_get items k ≡ Some p → relations moves (slice_set items k q) j s m a r t → relations moves items j s m a r t
    back [] k j at h = absurd (cc at)
    back (i ∷ items) zero zero at h =
        let e : h.0 ≡ q = cc (sym h.1) in
        (p, at, (same s m a r t).1 (subst (λ (x : N). moves x s m a r t) e h.2))
    back (i ∷ items) zero (suc j) at h = h
    back (i ∷ items) (suc k) zero at h = h
    back (i ∷ items) (suc k) (suc j) at h = back items k j at h

  pub same_relations : (items : List N) (k : ℕ) (p q : N) → slice_get items k ≡ Some p → SameMoves (moves p) (moves q) → SameRelations (relations moves items) (relations moves (slice_set items k q))
  same_relations items k p q at same j s m a r t = (on p q same s m a r t items k j at, back p q same s m a r t items k j at)
