-- From the closing of one box to what is seen of a pool.
use Rattle.std.proofs.Common.{◌≡◌, ℕ, List, map, Some, ap, refl, sym, ◌∙◌}
use Rattle.std.specs.Option.{option_map}
use Rattle.std.specs.Prelude.{slice_get, slice_set}
use Rattle.std.proofs.lemmas.List.{map-set}
use Rattle.std.proofs.lemmas.Option.{slice_get-map}
use Rattle.native_peers.specs.Moves.{closed}
use Rattle.native_peers.specs.Seen.{ClosesAt, Seen}

pub closed_at : {N : Type 0} (see : N → Seen) (items : List N) (k : ℕ) (p q : N) → slice_get items k ≡ Some p → (see q).name ≡ (see p).name
    → (see q).state ≡ closed (see p).state → ClosesAt k (map see items) (map see (slice_set items k q))
closed_at see items k p q at named closes = record {
  peer = see p;
  at = slice_get-map see items k ∙ ap (option_map see) at;
  new_state = map-set see items k q ∙ ap (slice_set (map see items) k) (rw (sym named, sym closes) refl);
}
