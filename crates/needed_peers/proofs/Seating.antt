-- The peers of a pool that are seated, one by one.
use Rattle.std.proofs.Common.{◌≡◌, refl, ap, sym, ◌∙◌, ℕ, suc, ◌+◌, Bool, true, cond, List, [], ◌∷◌, ◌++◌, map, take, Option, None, Some, subst}
use Rattle.std.specs.Option.{IsSomeAnd, option_map}
use Rattle.std.specs.Prelude.{slice_get}
use Rattle.std.proofs.lemmas.List.{map-append}
use Rattle.std.proofs.lemmas.Option.{slice_get-map}
use Rattle.ui_machine.specs.Definition.Names.{place_from, same_name}
use Rattle.ui_machine.specs.Definition.Signals.{Method}
use Rattle.ui_machine.specs.State.Peers.{Peer, peer_number}
use Rattle.law_peers.specs.Forgetting.{forgotten}
use Rattle.law_peers.specs.Needs.{Need, mismatch_with}
use Rattle.law_typing.specs.Laws.WellRead.{no_two}
use Rattle.engine_world.specs.SeatView.{new_peer}
use Rattle.native_peers.specs.Matching.{as_peer, as_peers}
use Rattle.native_peers.specs.Seen.{Seen}
use Rattle.needed_peers.specs.Needing.{shape_likely}
use Rattle.needed_peers.proofs.Alone.{fresh}
use Rattle.needed_peers.proofs.Matched.{shape_of_need}
use Rattle.needed_peers.proofs.Taken.{one_taken}

-- the k-th, of which something holds
pub the_peer : {N : Type 0} (items : List N) (k : ℕ) (P : N → Type 0) → IsSomeAnd (slice_get items k) P → (x : N) × (slice_get items k ≡ Some x) × P x
the_peer {N} items k P is = by (slice_get items k) refl is
  where
    by : (o : Option N) → slice_get items k ≡ o → IsSomeAnd o P → (x : N) × (slice_get items k ≡ Some x) × P x
    by None at never = absurd never
    by (Some x) at is = (x, at, is)

-- what holds of the k-th holds of it
pub holds : {N : Type 0} (items : List N) (k : ℕ) (x : N) (P : N → Type 0) → slice_get items k ≡ Some x → IsSomeAnd (slice_get items k) P → P x
holds {N} items k x P at is = subst (λ (o : Option N). IsSomeAnd o P) at is

-- these peers, as the engine knows them
abbrev pub known : List Seen → List Peer
known xs = map forgotten (as_peers xs)

place_known : (i : ℕ) (xs : List Seen) (name : List ℕ) → place_from (λ (p : Peer). p.name) i (known xs) name ≡ place_from (λ (x : Seen). x.name) i xs name
place_known i [] name = refl
place_known i (x ∷ xs) name = ap (cond (same_name x.name name) (Some i)) (place_known (suc i) xs name)

names_same : (xs : List Seen) → map (λ (p : Peer). p.name) (as_peers xs) ≡ map (λ (x : Seen). x.name) xs
names_same [] = refl
names_same (x ∷ xs) = ap (λ ns. x.name ∷ ns) (names_same xs)

-- the k-th peer of a pool, where no two have one name
module _ (items : List Seen) (k : ℕ) (x : Seen) (at : slice_get items k ≡ Some x) where
  -- a need of its name has its methods
  module _ (needs : List Need) (apart : no_two same_name (map (λ (x : Seen). x.name) items) ≡ true) (matches : mismatch_with needs (as_peers items) ≡ None) (name : List ℕ) (named : name ≡ x.name) (likely : ℕ) where
    pub needed : shape_likely needs likely name ≡ Some x.state.shape
    needed =
        ap (shape_likely needs likely) named
        ∙ shape_of_need needs (as_peers items) k (as_peer x)
        (slice_get-map as_peer items k ∙ ap (option_map as_peer) at)
        (ap (λ ns. no_two same_name ns) (names_same items) ∙ apart) matches likely

  -- none of those before it has its name
  pub new_name : (seats : List Peer) (name : List ℕ) → seats ≡ known (take k items) → name ≡ x.name → no_two same_name (map (λ (x : Seen). x.name) items) ≡ true → peer_number seats name ≡ None
  new_name seats name so_far named apart =
      ap (λ s. peer_number s name) so_far
      ∙ ap (peer_number (known (take k items))) named
      ∙ place_known 0 (take k items) x.name
      ∙ fresh (λ (x : Seen). x.name) items k x at apart

  -- one more is known
  one_seated : known (take (k + 1) items) ≡ known (take k items) ++ new_peer x.name x.state.shape x.state.is_open ∷ []
  one_seated =
      ap (λ xs. known xs) (one_taken items k x at)
      ∙ ap (λ ps. map forgotten ps) (map-append as_peer (take k items) (x ∷ []))
      ∙ map-append forgotten (as_peers (take k items)) (as_peer x ∷ [])

  pub seated : (seats new : List Peer) (name : List ℕ) (shape : List Method) (is_open : Bool) → seats ≡ known (take k items) → new ≡ seats ++ new_peer name shape is_open ∷ []
      → name ≡ x.name → shape ≡ x.state.shape → is_open ≡ x.state.is_open → new ≡ known (take (k + 1) items)
  seated seats new name shape is_open so_far added named shaped opened =
      added
      ∙ ap (λ s. s ++ new_peer name shape is_open ∷ []) so_far
      ∙ ap (λ n. known (take k items) ++ new_peer n shape is_open ∷ []) named
      ∙ ap (λ m. known (take k items) ++ new_peer x.name m is_open ∷ []) shaped
      ∙ ap (λ o. known (take k items) ++ new_peer x.name x.state.shape o ∷ []) opened
      ∙ sym one_seated
