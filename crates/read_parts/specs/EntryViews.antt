-- The JSON values of entries.
use Rattle.std.specs.Prelude.{List, map}
use Rattle.std.specs.Borrow.{Bor}
use Rattle.serde_json.specs.Data.{Data}
use Rattle.json_trees.specs.View.{view}
use Rattle.json_trees.specs.declared.value.Value.{Value}

abbrev pub views : List (Bor Value) → List Data
views entries = map (λ (v : Bor Value). view v.now) entries
