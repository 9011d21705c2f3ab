-- Names of classes, found among their entries.
use Rattle.std.proofs.Common.{◌≡◌, ℕ, ◌||◌, List, [], ◌∷◌, codes, refl, ap}
use Rattle.std.specs.List.{list_any}
use Rattle.json_trees.specs.declared.value.Value.{Value}
use Rattle.json_trees.specs.View.{view, items_view}
use Rattle.definition_format.specs.Denoted.Entries.{is_called, name_under}
use Rattle.definition_format.specs.Denoted.Types.{is_declared}

pub any_called : (name : List ℕ) (vs : List Value)
    → is_declared (items_view vs) name ≡ list_any (λ v. is_called (name_under (codes "name") (view v)) name) vs
any_called name [] = refl
any_called name (v ∷ vs) = ap (λ b. is_called (name_under (codes "name") (view v)) name || b) (any_called name vs)
