-- The peers that objects and prototypes name. Each is named once in a definition.
use Rattle.std.specs.Prelude.{ℕ, List, [], ◌∷◌, ◌++◌, Bool, if◌then◌else◌, Option, None, Some, Result, Ok, Err}
use Rattle.std.specs.List.{flat_map}
use Rattle.serde_json.specs.Data.{Data}
use Rattle.serde_json.specs.Find.{as_array}
use Rattle.ui_machine.specs.Outcome.{◌>>=◌}
use Rattle.ui_machine.specs.Definition.Places.{Place}
use Rattle.definition_format.specs.Refusals.{Refusal, shape, or_refused}
use Rattle.definition_format.specs.Document.{is_among, each, at_entry}
use Rattle.definition_format.specs.Denoted.Enums.{name_at, unless_there}

-- the peers that places name, in their order
abbrev pub peers_of : List Place → List (List ℕ)
peers_of places = flat_map (λ (p : Place). p.peers) places

-- the peer that a text names, which is none of these
unfoldable pub peer_at : List ℕ → List (List ℕ) → Data → Result (List ℕ) Refusal
peer_at path named d = do
  name ← name_at path d
  new ← unless_there path (is_among named name)
  Ok name

-- ** of prototypes

-- the peers so far, with the one of an entry, which is none of these and of those before
unfoldable pub next_peer_at : List ℕ → List (List ℕ) → List (List ℕ) → Data → Result (List (List ℕ)) Refusal
next_peer_at path before peers d = do
  name ← peer_at path (before ++ peers) d
  Ok (peers ++ name ∷ [])

unfoldable pub listed_peers : List ℕ → List (List ℕ) → Data → Result (List (List ℕ)) Refusal
listed_peers path before d = do
  list ← or_refused (shape path) (as_array d)
  each (at_entry (λ entry. next_peer_at entry before) path) 0 [] list

-- the peers of a prototype, which has some only where its class has a shape
abbrev pub peers_or : List ℕ → Bool → List (List ℕ) → Option Data → Result (List (List ℕ)) Refusal
peers_or path has_shape before None = Ok []
peers_or path has_shape before (Some d) = if has_shape then listed_peers path before d else Err (shape path)

-- ** of objects

unfoldable pub one_peer : List ℕ → List (List ℕ) → Data → Result (List (List ℕ)) Refusal
one_peer path before d = do
  name ← peer_at path before d
  Ok (name ∷ [])

-- the peer of an object: it has one just where its class has a shape
abbrev pub peer_or : List ℕ → Bool → List (List ℕ) → Option Data → Result (List (List ℕ)) Refusal
peer_or path has_shape before None = if has_shape then Err (shape path) else Ok []
peer_or path has_shape before (Some d) = if has_shape then one_peer path before d else Err (shape path)
