-- The properties of a class, by where they are.
use Rattle.std.proofs.Common.{◌≡◌, ◌<◌, ◌∙◌, ℕ, List, Option, None, Some, length, option_map, slice_get, refl, sym, ap}
use Rattle.std.proofs.lemmas.Option.{none-some, slice_get-map, slice_get_within}
use Rattle.ui_machine.specs.Definition.Properties.{Spec}
use Rattle.ui_machine.specs.Definition.Types.{GType}
use Rattle.param_specs.specs.SlotRows.{HasRow, spec_in}
use Rattle.param_specs.specs.Table.{own_of, specs_of}
use Rattle.param_specs.specs.declared.slots.SlotPlace.{SlotPlace}

module _ (types : List GType) (own : List (List Spec)) (t : ℕ) (row : List SlotPlace) (has : HasRow types own t row) (slot : ℕ) where
  placed : option_map (spec_in own) (slice_get row slot) ≡ option_map (λ s. Some s) (slice_get (specs_of types own t) slot)
  placed = sym (slice_get-map (spec_in own) row slot) ∙ ap (λ l. slice_get l slot) has ∙ slice_get-map (λ s. Some s) (specs_of types own t) slot

  -- past the last place there is no slot
  pub no_slot : None ≡ slice_get row slot → None ≡ slice_get (specs_of types own t) slot
  no_slot none = by (slice_get (specs_of types own t) slot) (ap (option_map (spec_in own)) none ∙ placed)
    where
      by : (o : Option Spec) → None ≡ option_map (λ s. Some s) o → None ≡ o
      by None e = refl
      by (Some s) e = absurd (none-some (Some s) e)

  module _ (place : SlotPlace) (at : Some place ≡ slice_get row slot) where
    in_place : (s : Spec) × (spec_in own place ≡ Some s) × (slice_get (specs_of types own t) slot ≡ Some s)
    in_place = by (slice_get (specs_of types own t) slot) refl (ap (option_map (spec_in own)) at ∙ placed)
      where
        by : (o : Option Spec) → slice_get (specs_of types own t) slot ≡ o → Some (spec_in own place) ≡ option_map (λ s. Some s) o
            → (s : Spec) × (spec_in own place ≡ Some s) × (slice_get (specs_of types own t) slot ≡ Some s)
        by None is e = absurd (none-some (spec_in own place) (sym e))
        by (Some s) is e = (s, (let same : spec_in own place ≡ Some s = cc e in same), is)

    pub within_own : place.at < length (own_of own place.owner)
    within_own = slice_get_within (own_of own place.owner) place.at in_place.0 in_place.1

    pub a_slot : (s : Spec) → slice_get (own_of own place.owner) place.at ≡ Some s → Some s ≡ slice_get (specs_of types own t) slot
    a_slot s is = sym is ∙ in_place.1 ∙ sym in_place.2
