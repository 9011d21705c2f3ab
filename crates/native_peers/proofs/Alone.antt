-- A stand-in that is the one peer.
use Rattle.std.proofs.Common.{◌≡◌, refl, ap, sym, subst, ◌∙◌, ℕ, zero, suc, true, false, cond, List, [], ◌∷◌, None, Some, string_bytes, map}
use Rattle.std.specs.Option.{IsSomeAnd}
use Rattle.std.specs.Prelude.{slice_get}
use Rattle.ui_machine.specs.Definition.Names.{same_name}
use Rattle.ui_machine.specs.Definition.Values.{Value}
use Rattle.ui_machine.specs.State.Peers.{PeerState}
use Rattle.law_peers.specs.Needs as law
use Rattle.law_peers.specs.Needs.{is_shaped, peer_named, wrong_with}
use Rattle.peer_shapes.specs.MethodViews.{method_view}
use Rattle.native_peers.specs.Matching.{as_peer}
use Rattle.native_peers.specs.Moves.{Keeps}
use Rattle.native_peers.specs.Seen.{Asks, Seen}
use Rattle.native_peers.specs.StandIns.{Faults, seen_of}
use Rattle.native_peers.specs.declared.stand_ins.StandIn.{StandIn}
use Rattle.native_peers.proofs.Named.{nobody, somebody}

-- ** what a need finds

module _ (need : law.Need) (s : StandIn) where
  pub missing : same_name (string_bytes s.name) need.name ≡ false → Some (law.missing need.name) ≡ wrong_with need (peer_named (as_peer (seen_of s) ∷ []) need.name)
  missing other = ap (wrong_with need) (sym (nobody seen_of (s ∷ []) need.name (ap (λ b. cond b (Some 0) None) other)))

  module _ (named : same_name (string_bytes s.name) need.name ≡ true) where
    found : wrong_with need (Some (as_peer (seen_of s))) ≡ wrong_with need (peer_named (as_peer (seen_of s) ∷ []) need.name)
    found = ap (wrong_with need) (sym (somebody seen_of (s ∷ []) need.name 0 s (ap (λ b. cond b (Some 0) None) named) refl))

    pub closed : s.is_callable ≡ false → Some (law.closed need.name) ≡ wrong_with need (peer_named (as_peer (seen_of s) ∷ []) need.name)
    closed shut =
        ap (λ b. cond b (cond (is_shaped need.methods (map method_view s.methods.items)) None (Some (law.misshapen need.name))) (Some (law.closed need.name))) (sym shut) ∙ found

    module _ (is_open : s.is_callable ≡ true) where
      shaped : cond (is_shaped need.methods (map method_view s.methods.items)) None (Some (law.misshapen need.name))
          ≡ wrong_with need (peer_named (as_peer (seen_of s) ∷ []) need.name)
      shaped =
          ap (λ b. cond b (cond (is_shaped need.methods (map method_view s.methods.items)) None (Some (law.misshapen need.name))) (Some (law.closed need.name))) (sym is_open) ∙ found

      pub misshapen : is_shaped need.methods (map method_view s.methods.items) ≡ false → Some (law.misshapen need.name) ≡ wrong_with need (peer_named (as_peer (seen_of s) ∷ []) need.name)
      misshapen other = ap (λ b. cond b None (Some (law.misshapen need.name))) (sym other) ∙ shaped

      pub fits : is_shaped need.methods (map method_view s.methods.items) ≡ true → None ≡ wrong_with need (peer_named (as_peer (seen_of s) ∷ []) need.name)
      fits same = ap (λ b. cond b None (Some (law.misshapen need.name))) (sym same) ∙ shaped

-- ** calls

module _ (s : Seen) (t : PeerState) (method : ℕ) (args : List Value) (keeps : Keeps method None s.state t) (P : Seen → Type 0) where
  at : (k : ℕ) → IsSomeAnd (slice_get (s ∷ []) k) P → Asks k (s ∷ []) (record s { state = t } ∷ []) (λ k. Faults) method args None
  at zero is = record { peer = s; after = t; at = refl; moved = refl; keeps = keeps; new_state = refl }
  at (suc k) is = absurd is

  pub asked : (k : ℕ) (peers : List Seen) → peers ≡ s ∷ [] → IsSomeAnd (slice_get peers k) P → Asks k peers (record s { state = t } ∷ []) (λ k. Faults) method args None
  asked k peers one is =
      subst (λ (l : List Seen). Asks k l (record s { state = t } ∷ []) (λ k. Faults) method args None) (sym one)
      (at k (subst (λ (l : List Seen). IsSomeAnd (slice_get l k) P) one is))
