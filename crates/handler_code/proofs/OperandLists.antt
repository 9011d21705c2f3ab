-- Options that a list names, one entry after the other.
use Rattle.std.proofs.Common.{◌≡◌, ℕ, ◌||◌, ◌&&◌, List, [], ◌∷◌, refl, ap}
use Rattle.std.specs.List.{list_any, list_all}
use Rattle.json_trees.specs.declared.value.Value.{Value}
use Rattle.json_trees.specs.View.{view, items_view}
use Rattle.serde_json.specs.Find.{as_str}
use Rattle.bytecode.specs.Reading.Operands.{is_word, has_word, is_option, are_options}

pub word_listed : (word : List ℕ) (vs : List Value) → has_word word (items_view vs) ≡ list_any (λ v. is_word word (as_str (view v))) vs
word_listed word [] = refl
word_listed word (v ∷ vs) = ap (λ b. is_word word (as_str (view v)) || b) (word_listed word vs)

pub options_listed : (vs : List Value) → are_options (items_view vs) ≡ list_all (λ v. is_option (view v)) vs
options_listed [] = refl
options_listed (v ∷ vs) = ap (λ b. is_option (view v) && b) (options_listed vs)
