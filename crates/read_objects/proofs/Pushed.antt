-- An object more.
use Rattle.std.proofs.Common.{◌≡◌, ℕ, List, [], ◌∷◌, ◌++◌, map, Result, Ok, sym, ap, ◌∙◌, Option}
use Rattle.std.proofs.lemmas.List.{map_push}
use Rattle.serde_json.specs.Data.{Data}
use Rattle.ui_machine.specs.Definition.Places.{Bind, Place}
use Rattle.definition_format.specs.declared.faults.ReadError.{ReadError}
use Rattle.definition_format.specs.Meaning.{Entry, plain_object}
use Rattle.ui_machine.specs.Outcome.{◌>>=◌}
use Rattle.definition_format.specs.Refusals.{Refusal, Fails}
use Rattle.definition_format.specs.Denoted.Objects.{Built, Placed, Scope, place_at, added_at, with_place}
use Rattle.read_parts.proofs.Chains.{fails_first}

module _ (path : List ℕ) (scope : Scope) (parent : Option ℕ) (os : List Entry) (before : List Bind) (d : Data) where
  abbrev built : Built
  built = record { places = map plain_object os; bindings = before }

  added : Placed → Result Built Refusal
  added placed = Ok (with_place built placed.place placed.bindings)

  pub added_fails : (e : ReadError) → Fails e (place_at path scope parent built d) → Fails e (added_at path scope parent built d)
  unfolding added_at added
  added_fails e h = fails_first e (place_at path scope parent built d) added h

  pub added_pushed : (o : Entry) (after : List Bind) (es : List Entry)
      → place_at path scope parent built d ≡ Ok (record { place = plain_object o; bindings = after })
      → es ≡ os ++ o ∷ []
      → added_at path scope parent built d ≡ Ok (record { places = map plain_object es; bindings = after })
  unfolding added_at added
  added_pushed o after es h longer =
      ap (λ (r : Result Placed Refusal). r >>= added) h
      ∙ ap (λ (l : List Place). Ok (record built { places = l; bindings = after })) (sym (ap (map plain_object) longer ∙ map_push plain_object os o))
