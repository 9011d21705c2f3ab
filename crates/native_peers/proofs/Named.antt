-- The peer of a name, among what is seen of a pool.
use Rattle.std.proofs.Common.{◌≡◌, refl, ap, ◌∙◌, ℕ, suc, cond, List, [], ◌∷◌, map, Option, None, Some}
use Rattle.std.specs.Prelude.{option_map, slice_get}
use Rattle.std.proofs.lemmas.Option.{slice_get-map}
use Rattle.ui_machine.specs.Definition.Names.{place_from, place_named, same_name}
use Rattle.ui_machine.specs.State.Peers.{Peer}
use Rattle.law_peers.specs.Needs.{peer_named}
use Rattle.native_peers.specs.Matching.{as_peer, as_peers}
use Rattle.native_peers.specs.Seen.{Seen}

module _ {N : Type 0} (see : N → Seen) (items : List N) (name : List ℕ) where
  same_place : (i : ℕ) (xs : List N) → place_from (λ (p : Peer). p.name) i (as_peers (map see xs)) name ≡ place_from (λ x. (see x).name) i xs name
  same_place i [] = refl
  same_place i (x ∷ xs) = ap (cond (same_name (see x).name name) (Some i)) (same_place (suc i) xs)

  abbrev at : Option ℕ → Option Peer
  at None = None
  at (Some number) = slice_get (as_peers (map see items)) number

  pub nobody : place_named (λ x. (see x).name) items name ≡ None → peer_named (as_peers (map see items)) name ≡ None
  nobody e = ap at (same_place 0 items ∙ e)

  pub somebody : (k : ℕ) (x : N) → place_named (λ x. (see x).name) items name ≡ Some k → slice_get items k ≡ Some x → peer_named (as_peers (map see items)) name ≡ Some (as_peer (see x))
  somebody k x e is =
      ap at (same_place 0 items ∙ e)
      ∙ (slice_get-map as_peer (map see items) k ∙ ap (option_map as_peer) (slice_get-map see items k ∙ ap (option_map see) is))

-- the names that are seen of peers are theirs
pub names_seen : {N : Type 0} (see : N → Seen) (items : List N) → map (λ (s : Seen). s.name) (map see items) ≡ map (λ x. (see x).name) items
names_seen see [] = refl
names_seen see (x ∷ xs) = ap (λ ns. (see x).name ∷ ns) (names_seen see xs)
