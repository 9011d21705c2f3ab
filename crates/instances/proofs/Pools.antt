-- Peers of a pool by their numbers.
use Rattle.std.proofs.Common.{◌≡◌, refl, sym, ap, ◌∙◌, ℕ, zero, suc, ◌<◌, List, [], ◌∷◌, Bool, false, map, length, Option, None, Some, slice_get, arith}
use Rattle.std.specs.Option.{IsSomeAnd, option_map}
use Rattle.std.proofs.lemmas.Option.{slice_get-map}
use Rattle.native_peers.specs.Seen.{Seen}

-- what is seen of a pool has no more than the pool
pub seen_inside : {N : Type 0} (see : N → Seen) (items : List N) (k : ℕ) (P : Seen → Type 0) → IsSomeAnd (slice_get (map see items) k) P → k < length items
seen_inside see [] k P is = absurd is
seen_inside see (x ∷ items) zero P is = omega arith
seen_inside see (x ∷ items) (suc k) P is = let few : k < length items = seen_inside see items k P is in omega arith

-- a peer that answers that it is closed is seen so
pub seen_shut : {N : Type 0} (see : N → Seen) (items : List N) (k : ℕ) (b : Bool) → IsSomeAnd (slice_get items k) (λ p. b ≡ (see p).state.is_open) → b ≡ false
    → (s : Seen) × (slice_get (map see items) k ≡ Some s) × (s.state.is_open ≡ false)
seen_shut {N} see items k b is shut = by (slice_get items k) refl is
  where
    by : (o : Option N) → slice_get items k ≡ o → IsSomeAnd o (λ p. b ≡ (see p).state.is_open)
        → (s : Seen) × (slice_get (map see items) k ≡ Some s) × (s.state.is_open ≡ false)
    by None at h = absurd h
    by (Some p) at h = (see p, slice_get-map see items k ∙ ap (option_map see) at, sym h ∙ shut)
