-- A method and a shape more.
use Rattle.std.proofs.Common.{◌≡◌, ℕ, List, [], ◌∷◌, ◌++◌, map, false, Option, None, Some, is_some, Result, Ok, refl, sym, ap, ◌∙◌}
use Rattle.std.proofs.lemmas.List.{map_push}
use Rattle.serde_json.specs.Data.{Data}
use Rattle.ui_machine.specs.Definition.Signals.{Method, Shape}
use Rattle.ui_machine.specs.Outcome.{◌>>=◌}
use Rattle.definition_format.specs.declared.faults.ReadError.{ReadError}
use Rattle.definition_format.specs.Meaning.{NamedShape, plain_shape}
use Rattle.definition_format.specs.Refusals.{Refusal, Fails}
use Rattle.definition_format.specs.Denoted.Shapes.{method_at, method_in, shape_at, shape_in}
use Rattle.read_parts.proofs.Chains.{fails_first}

-- nothing is found where it is not among the others
pub not_found : {A : Type 0} (found : Option A) → is_some found ≡ false → found ≡ None
not_found None h = refl
not_found (Some x) h = absurd (cc)

module _ (path : List ℕ) (methods : List Method) (d : Data) where
  with_method : Method → Result (List Method) Refusal
  with_method method = Ok (methods ++ method ∷ [])

  pub method_fails : (e : ReadError) → Fails e (method_in path methods d) → Fails e (method_at path methods d)
  unfolding method_at with_method
  method_fails e h = fails_first e (method_in path methods d) with_method h

  pub method_pushed : (m : Method) → method_in path methods d ≡ Ok m → method_at path methods d ≡ Ok (methods ++ m ∷ [])
  unfolding method_at with_method
  method_pushed m h = ap (λ (r : Result Method Refusal). r >>= with_method) h

module _ (path : List ℕ) (es : List NamedShape) (d : Data) where
  with_shape : Shape → Result (List Shape) Refusal
  with_shape shape = Ok (map plain_shape es ++ shape ∷ [])

  pub shape_fails : (e : ReadError) → Fails e (shape_in path (map plain_shape es) d) → Fails e (shape_at path (map plain_shape es) d)
  unfolding shape_at with_shape
  shape_fails e h = fails_first e (shape_in path (map plain_shape es) d) with_shape h

  pub shape_pushed : (o : NamedShape) → shape_in path (map plain_shape es) d ≡ Ok (plain_shape o)
      → shape_at path (map plain_shape es) d ≡ Ok (map plain_shape (es ++ o ∷ []))
  unfolding shape_at with_shape
  shape_pushed o h = ap (λ (r : Result Shape Refusal). r >>= with_shape) h ∙ ap (λ (ss : List Shape). Ok ss) (sym (map_push plain_shape es o))
