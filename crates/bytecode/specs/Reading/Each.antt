-- Lists that are read one entry after the other, up to the first that is refused.
use Rattle.std.specs.Prelude.{ℕ, ◌+◌, List, [], ◌∷◌, Result, Ok}
use Rattle.serde_json.specs.Data.{Data, Items, no_items, item}
use Rattle.ui_machine.specs.Outcome.{◌>>=◌}

-- the entries of a JSON array
abbrev pub entries_of : Items → List Data
entries_of no_items = []
entries_of (item d ds) = d ∷ entries_of ds

-- what comes of a state by the entries of a list, of which the first is numbered i
unfoldable pub each : {S X E : Type 0} → (ℕ → S → X → Result S E) → ℕ → S → List X → Result S E
each step i s [] = Ok s
each step i s (x ∷ xs) = do
  t ← step i s x
  each step (i + 1) t xs
