-- In a pool that matches what is needed, each need of a peer's name has the peer's methods.
use Rattle.std.proofs.Common.{◌≡◌, refl, ap, subst, ◌∙◌, ℕ, zero, suc, Bool, true, false, cond, ◌||◌, List, [], ◌∷◌, map, Option, None, Some}
use Rattle.std.specs.Prelude.{slice_get}
use Rattle.ui_machine.specs.Definition.Names.{same_name}
use Rattle.ui_machine.specs.Definition.Signals.{Method}
use Rattle.ui_machine.specs.State.Peers.{Peer, peer_number}
use Rattle.law_static.proofs.Same.{names_same}
use Rattle.law_typing.specs.Laws.WellRead.{no_two}
use Rattle.law_peers.specs.Needs.{Mismatch, Need, closed, first_unused, first_wrong, is_needed, is_shaped, mismatch_with, misshapen, peer_named, unused, wrong_with}
use Rattle.law_peers.proofs.PoolProofs.{neither}
use Rattle.needed_peers.specs.Needing.{shape_likely, shape_needed}
use Rattle.needed_peers.proofs.Alone.{found}
use Rattle.needed_peers.proofs.SameShapes.{needed_equal}

all_needed : (b : Bool) (rest : Option Mismatch) (m : Mismatch) → cond b rest (Some m) ≡ None → (b ≡ true) × (rest ≡ None)
all_needed true rest m none = (refl, none)
all_needed false rest m none = absurd (cc none)

-- each peer is needed
needed_at : (needs : List Need) (pool : List Peer) (k : ℕ) (p : Peer) → slice_get pool k ≡ Some p → first_unused needs pool ≡ None → is_needed needs p ≡ true
needed_at needs [] k p at none = absurd (cc at)
needed_at needs (q ∷ pool) zero p at none =
    let here : q ≡ p = cc at in
    subst (λ (r : Peer). is_needed needs r ≡ true) here (all_needed (is_needed needs q) (first_unused needs pool) (unused q.name) none).0
needed_at needs (q ∷ pool) (suc k) p at none = needed_at needs pool k p at (all_needed (is_needed needs q) (first_unused needs pool) (unused q.name) none).1

-- a peer with which nothing is wrong has the methods of the need
right_shape : (n : Need) (p : Peer) → wrong_with n (Some p) ≡ None → n.methods ≡ Some p.state.shape
right_shape n p none = needed_equal n.methods p.state.shape (by p.state.is_open (is_shaped n.methods p.state.shape) none)
  where
    by : (a b : Bool) → cond a (cond b None (Some (misshapen n.name))) (Some (closed n.name)) ≡ None → b ≡ true
    by true true none = refl
    by true false none = absurd (cc none)
    by false b none = absurd (cc none)

module _ (pool : List Peer) (k : ℕ) (p : Peer) (at : slice_get pool k ≡ Some p) (alone : peer_number pool p.name ≡ Some k) where
  abbrev numbered : Option ℕ → Option Peer
  numbered None = None
  numbered (Some number) = slice_get pool number

  of_need : (n : Need) → same_name n.name p.name ≡ true → wrong_with n (peer_named pool n.name) ≡ None → n.methods ≡ Some p.state.shape
  of_need n same none =
      let name : n.name ≡ p.name = names_same n.name p.name same in
      let found : numbered (peer_number pool n.name) ≡ Some p = ap (λ m. numbered (peer_number pool m)) name ∙ ap numbered alone ∙ at in
      right_shape n p (subst (λ (o : Option Peer). wrong_with n o ≡ None) found none)

  of_needs : (needs : List Need) → first_wrong pool needs ≡ None → is_needed needs p ≡ true → shape_needed needs p.name ≡ Some p.state.shape
  of_needs [] none needed = absurd (cc needed)
  of_needs (n ∷ needs) none needed =
      let both = neither (wrong_with n (peer_named pool n.name)) (first_wrong pool needs) none in
      by (same_name n.name p.name) refl needed both.0 (of_needs needs both.1)
    where
      by : (b : Bool) → same_name n.name p.name ≡ b → (b || is_needed needs p) ≡ true → wrong_with n (peer_named pool n.name) ≡ None
          → (is_needed needs p ≡ true → shape_needed needs p.name ≡ Some p.state.shape) → cond b n.methods (shape_needed needs p.name) ≡ Some p.state.shape
      by true same needed right rest = of_need n same right
      by false other needed right rest = rest needed

-- nothing is wrong with the peer of the need of a number
right_at : (pool : List Peer) (needs : List Need) (k : ℕ) (n : Need) → slice_get needs k ≡ Some n → first_wrong pool needs ≡ None → wrong_with n (peer_named pool n.name) ≡ None
right_at pool [] k n at none = absurd (cc at)
right_at pool (m ∷ needs) zero n at none =
    let here : m ≡ n = cc at in
    subst (λ (x : Need). wrong_with x (peer_named pool x.name) ≡ None) here (neither (wrong_with m (peer_named pool m.name)) (first_wrong pool needs) none).0
right_at pool (m ∷ needs) (suc k) n at none = right_at pool needs k n at (neither (wrong_with m (peer_named pool m.name)) (first_wrong pool needs) none).1

pub shape_of_need : (needs : List Need) (pool : List Peer) (k : ℕ) (p : Peer) → slice_get pool k ≡ Some p → no_two same_name (map (λ (p : Peer). p.name) pool) ≡ true
    → mismatch_with needs pool ≡ None → (likely : ℕ) → shape_likely needs likely p.name ≡ Some p.state.shape
shape_of_need needs pool k p at apart matches likely = by (slice_get needs likely) refl
  where
    both : (first_wrong pool needs ≡ None) × (first_unused needs pool ≡ None)
    both = neither (first_wrong pool needs) (first_unused needs pool) matches

    alone : peer_number pool p.name ≡ Some k
    alone = found (λ (p : Peer). p.name) pool k p at apart

    first : shape_needed needs p.name ≡ Some p.state.shape
    first = of_needs pool k p at alone needs both.0 (needed_at needs pool k p at both.1)

    is : Option Need → Option (List Method)
    is None = shape_needed needs p.name
    is (Some n) = cond (same_name n.name p.name) n.methods (shape_needed needs p.name)

    here : (n : Need) → slice_get needs likely ≡ Some n → (b : Bool) → same_name n.name p.name ≡ b → cond b n.methods (shape_needed needs p.name) ≡ Some p.state.shape
    here n there true same = of_need pool k p at alone n same (right_at pool needs likely n there both.0)
    here n there false other = first

    by : (o : Option Need) → slice_get needs likely ≡ o → shape_likely needs likely p.name ≡ Some p.state.shape
    by None there = ap is there ∙ first
    by (Some n) there = ap is there ∙ here n there (same_name n.name p.name) refl
