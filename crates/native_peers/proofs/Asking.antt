-- From the call of one box to what is seen of a pool.
use Rattle.std.proofs.Common.{◌≡◌, ℕ, List, map, Option, Some, ap, ◌∙◌}
use Rattle.std.specs.Option.{option_map}
use Rattle.std.specs.Prelude.{slice_get, slice_set}
use Rattle.std.proofs.lemmas.List.{map-set}
use Rattle.std.proofs.lemmas.Option.{slice_get-map}
use Rattle.ui_machine.specs.Definition.Values.{Value}
use Rattle.native_peers.specs.Moves.{Invokes, Relation}
use Rattle.native_peers.specs.Pool.{relations}
use Rattle.native_peers.specs.Seen.{Asks, Seen}

module _ {N : Type 0} (see : N → Seen) (moves : N → Relation) (items : List N) (k : ℕ) (p q : N) (method : ℕ) (args : List Value) (answer : Option Value) where
  pub asked :
      slice_get items k ≡ Some p → (see q).name ≡ (see p).name → Invokes (moves p) (moves q) (see p).state method args answer (see q).state
      → Asks k (map see items) (map see (slice_set items k q)) (relations moves items) method args answer
  asked at named called = record {
    peer = see p;
    after = (see q).state;
    at = slice_get-map see items k ∙ ap (option_map see) at;
    moved = (p, at, called.moved);
    keeps = called.keeps;
    new_state =
        map-set see items k q
        ∙ ap (λ (n : List ℕ). slice_set (map see items) k (record { name = n; state = (see q).state })) named;
  }
