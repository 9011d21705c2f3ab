-- The tokens of plain lines.
use Rattle.std.specs.Prelude.{◌≡◌, List, [], ◌∷◌, ◌++◌, Option, Some, None, option_map, option_and_then}
use Rattle.json.specs.Token.{Token, begin_object, end_object, begin_array, end_array, string, key, number, boolean, null, bad}
use Rattle.serde_json.specs.Data as json_data
use Rattle.serde_json.specs.Data.{Data, Items, no_items, item}
use Rattle.serde_json.specs.Read.{number_of}

-- the data of a token that is a value by itself
abbrev pub scalar_data : Token → Option Data
scalar_data begin_object = None
scalar_data end_object = None
scalar_data begin_array = None
scalar_data end_array = None
scalar_data (key s) = None
scalar_data (string s) = Some (json_data.string s)
scalar_data (number s) = option_map json_data.number (number_of s)
scalar_data (boolean b) = Some (json_data.boolean b)
scalar_data null = Some json_data.null
scalar_data bad = None

-- the first of the tokens has this data, and the rest follow it
abbrev pub IsNext : List Token → Data → List Token → Type 0
IsNext tokens d rest = (t : Token) × (tokens ≡ t ∷ rest) × (scalar_data t ≡ Some d)

-- the data of tokens that are values by themselves
unfoldable pub scalars_data : List Token → Option Items
scalars_data [] = Some no_items
scalars_data (t ∷ ts) = option_and_then (λ d. option_map (item d) (scalars_data ts)) (scalar_data t)

-- the tokens of a list behind its opening bracket, and what follows it
abbrev pub AreNext : List Token → Items → List Token → Type 0
AreNext tokens ds rest = (ts : List Token) × (tokens ≡ ts ++ end_array ∷ rest) × (scalars_data ts ≡ Some ds)
