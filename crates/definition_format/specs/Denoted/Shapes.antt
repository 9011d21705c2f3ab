-- The shapes of a definition: the methods that peers are called with.
use Rattle.std.specs.Prelude.{ℕ, List, [], ◌∷◌, ◌++◌, codes, Bool, Option, None, Some, is_some, option_and_then, Result, Ok, Err}
use Rattle.serde_json.specs.Data.{Data}
use Rattle.serde_json.specs.Find.{get, as_array, as_str}
use Rattle.ui_machine.specs.Outcome.{◌>>=◌}
use Rattle.ui_machine.specs.Definition.Kinds.{Kind}
use Rattle.ui_machine.specs.Definition.Names.{place_named}
use Rattle.ui_machine.specs.Definition.Signals.{Method, Shape}
use Rattle.ui_machine.specs.Definition.Types.{GType}
use Rattle.ui_machine.specs.Rules.Ancestry.{lineage}
use Rattle.ui_machine.specs.Rules.EmissionPlan.{first_given}
use Rattle.definition_format.specs.Refusals.{Refusal, shape, unknown, or_refused}
use Rattle.definition_format.specs.Document.{under, members_at, text_at, entries_at, only_at, each, at_entry}
use Rattle.definition_format.specs.Denoted.Kinds.{kind_named}
use Rattle.definition_format.specs.Denoted.Names.{unless_taken}
use Rattle.definition_format.specs.Denoted.Enums.{name_at, unless_there}
use Rattle.definition_format.specs.Denoted.Constructed.{add_program}

-- ** methods

-- a kind of what peers take and answer: one that names no type
abbrev pub plain_kind_at : List ℕ → Option Data → Result Kind Refusal
plain_kind_at path d = or_refused (shape path) (option_and_then kind_named (option_and_then as_str d))

-- the kinds so far, with the one that an entry names
unfoldable pub plain_param_at : List ℕ → List Kind → Data → Result (List Kind) Refusal
plain_param_at path kinds d = do
  kind ← plain_kind_at path (Some d)
  Ok (kinds ++ kind ∷ [])

-- the kinds of the arguments
unfoldable pub plain_params_at : List ℕ → Data → Result (List Kind) Refusal
plain_params_at path d = do
  list ← entries_at path d (codes "params")
  each (at_entry plain_param_at (under path (codes "params"))) 0 [] list

abbrev pub has_method : List Method → List ℕ → Bool
has_method methods name = is_some (place_named (λ (m : Method). m.name) methods name)

abbrev pub keys_of_method : List (List ℕ)
keys_of_method = codes "name" ∷ codes "params" ∷ codes "result" ∷ []

-- the method that an entry gives beside these
unfoldable pub method_in : List ℕ → List Method → Data → Result Method Refusal
method_in path methods d = do
  members ← members_at path d
  name ← text_at path d (codes "name")
  new ← unless_taken (under path (codes "name")) name (has_method methods name)
  params ← plain_params_at path d
  result ← plain_kind_at (under path (codes "result")) (get (codes "result") d)
  only ← only_at path members keys_of_method
  Ok (record { name = name; params = params; result = result })

-- these methods, with the one that an entry gives
unfoldable pub method_at : List ℕ → List Method → Data → Result (List Method) Refusal
method_at path methods d = do
  method ← method_in path methods d
  Ok (methods ++ method ∷ [])

-- ** shapes

-- the methods of a shape; the list has to be there
unfoldable pub methods_at : List ℕ → Data → Result (List Method) Refusal
methods_at path d = do
  list ← or_refused (shape (under path (codes "methods"))) (option_and_then as_array (get (codes "methods") d))
  each (at_entry method_at (under path (codes "methods"))) 0 [] list

abbrev pub shape_number : List Shape → List ℕ → Option ℕ
shape_number shapes name = place_named (λ (s : Shape). s.name) shapes name

abbrev pub keys_of_shape : List (List ℕ)
keys_of_shape = codes "name" ∷ codes "methods" ∷ []

-- the shape that an entry gives beside these
unfoldable pub shape_in : List ℕ → List Shape → Data → Result Shape Refusal
shape_in path shapes d = do
  members ← members_at path d
  name ← text_at path d (codes "name")
  new ← unless_taken (under path (codes "name")) name (is_some (shape_number shapes name))
  methods ← methods_at path d
  only ← only_at path members keys_of_shape
  Ok (record { name = name; methods = methods })

-- these shapes, with the one that an entry gives
unfoldable pub shape_at : List ℕ → List Shape → Data → Result (List Shape) Refusal
shape_at path shapes d = do
  more ← shape_in path shapes d
  Ok (shapes ++ more ∷ [])

-- the shapes of a document
unfoldable pub shapes_in : Data → Result (List Shape) Refusal
shapes_in d = do
  list ← entries_at [] d (codes "shapes")
  each (at_entry shape_at (under [] (codes "shapes"))) 0 [] list

-- ** the shapes of classes

-- the shape of a type, where types name these themselves: its own, or that of its nearest ancestor that names one
abbrev pub shape_by : List GType → (ℕ → Option ℕ) → ℕ → Option ℕ
shape_by types own t = first_given own (lineage types t)

-- whether a type has a shape
abbrev pub is_shaped_by : List GType → (ℕ → Option ℕ) → ℕ → Bool
is_shaped_by types own t = is_some (shape_by types own t)

-- the number of the shape that a text names, for a type that has none so far
unfoldable pub named_shape : List ℕ → List Shape → Bool → Data → Result (Option ℕ) Refusal
named_shape path shapes has d = do
  name ← name_at path d
  number ← or_refused (unknown path name) (shape_number shapes name)
  new ← unless_there path has
  Ok (Some number)

abbrev pub named_shape_or : List ℕ → List Shape → Bool → Option Data → Result (Option ℕ) Refusal
named_shape_or path shapes has None = Ok None
named_shape_or path shapes has (Some d) = named_shape path shapes has d

-- each type's own shape, with the one that an entry names for a type among these
unfoldable pub shaped_at : List ℕ → List GType → List Shape → ℕ → (ℕ → Option ℕ) → Data → Result (ℕ → Option ℕ) Refusal
shaped_at path types shapes t own d = do
  number ← named_shape_or (under path (codes "shape")) shapes (is_shaped_by types own t) (get (codes "shape") d)
  Ok (add_program own t number)
