-- Values of a list, one after the other, as a loop reads them.
use Rattle.std.proofs.Common.{◌≡◌, List, [], ◌∷◌, ◌++◌, Option, Some, None, option_map, option_and_then, refl, sym, ap, ◌∙◌}
use Rattle.json.specs.Token.{Token}
use Rattle.serde_json.specs.Data.{Data, Items, no_items, item}
use Rattle.serde_json.specs.declared.value.Value.{Value}
use Rattle.serde_json.specs.View.{view, items_view}
use Rattle.read_lines.specs.Tokens.{scalar_data, scalars_data}

-- with one more at the end
and_last : Items → Data → Items
and_last no_items d = item d no_items
and_last (item e es) d = item e (and_last es d)

last_view : (vs : List Value) (v : Value) → items_view (vs ++ v ∷ []) ≡ and_last (items_view vs) (view v)
unfolding and_last
last_view [] v = refl
last_view (w ∷ vs) v = ap (item (view w)) (last_view vs v)

under_map : (o : Option Data) (os : Option Items) (d : Data) → option_and_then (λ e. option_map (item e) (option_map (λ es. and_last es d) os)) o ≡ option_map (λ es. and_last es d) (option_and_then (λ e. option_map (item e) os) o)
unfolding and_last
under_map None os d = refl
under_map (Some e) None d = refl
under_map (Some e) (Some es) d = refl

last_data : (ts : List Token) (t : Token) (d : Data) → scalar_data t ≡ Some d → scalars_data (ts ++ t ∷ []) ≡ option_map (λ ds. and_last ds d) (scalars_data ts)
unfolding scalars_data and_last
last_data [] t d e = rw e refl
last_data (u ∷ ts) t d e = ap (λ os. option_and_then (λ x. option_map (item x) os) (scalar_data u)) (last_data ts t d e) ∙ under_map (scalar_data u) (scalars_data ts) d

pub one_more : (ts : List Token) (t : Token) (vs : List Value) (v : Value) → scalars_data ts ≡ Some (items_view vs) → scalar_data t ≡ Some (view v) → scalars_data (ts ++ t ∷ []) ≡ Some (items_view (vs ++ v ∷ []))
one_more ts t vs v so_far one = last_data ts t (view v) one ∙ ap (option_map (λ ds. and_last ds (view v))) so_far ∙ ap Some (sym (last_view vs v))
