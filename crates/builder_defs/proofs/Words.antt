-- The words of a line, by how many there are.
use Rattle.std.proofs.Common.{◌≡◌, ◌≢◌, List, [], ◌∷◌, length, None, refl}
use Rattle.serde_json.specs.declared.value.Value.{Value}
use Rattle.serde_json.specs.View.{items_view}
use Rattle.definition_format.specs.EventMeaning.{words_of_set, words_of_get, words_of_emit}

pub not_two : (vs : List Value) → length vs ≢ 2 → None ≡ words_of_get (items_view vs)
not_two [] other = refl
not_two (v ∷ []) other = refl
not_two (v ∷ w ∷ []) other = absurd (other refl)
not_two (v ∷ w ∷ x ∷ vs) other = refl

pub not_three : (vs : List Value) → length vs ≢ 3 → None ≡ words_of_set (items_view vs)
not_three [] other = refl
not_three (v ∷ []) other = refl
not_three (v ∷ w ∷ []) other = refl
not_three (v ∷ w ∷ x ∷ []) other = absurd (other refl)
not_three (v ∷ w ∷ x ∷ y ∷ vs) other = refl

pub not_three_or_four : (vs : List Value) → length vs ≢ 3 → length vs ≢ 4 → None ≡ words_of_emit (items_view vs)
not_three_or_four [] three four = refl
not_three_or_four (v ∷ []) three four = refl
not_three_or_four (v ∷ w ∷ []) three four = refl
not_three_or_four (v ∷ w ∷ x ∷ []) three four = absurd (three refl)
not_three_or_four (v ∷ w ∷ x ∷ y ∷ []) three four = absurd (four refl)
not_three_or_four (v ∷ w ∷ x ∷ y ∷ z ∷ vs) three four = refl
