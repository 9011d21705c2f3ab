-- An element of a list, seen by a view.
use Rattle.std.proofs.Common.{◌≡◌, ℕ, List, map, option_map, slice_get}
use Rattle.std.proofs.lemmas.Option.{slice_get-map}

pub viewed_at : {A B : Type 0} (view : A → B) (xs : List A) (i : ℕ) → slice_get (map view xs) i ≡ option_map view (slice_get xs i)
viewed_at view xs i = slice_get-map view xs i
