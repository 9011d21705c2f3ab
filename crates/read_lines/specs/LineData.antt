-- What plain lines say, as data and as tokens.
use Rattle.std.specs.Prelude.{◌≡◌, ℕ, List, [], ◌∷◌, ◌++◌, codes, Some}
use Rattle.json.specs.Token.{Token, begin_object, end_object, begin_array, end_array, string, key}
use Rattle.serde_json.specs.Data as json_data
use Rattle.serde_json.specs.Data.{Data, Items, no_items, item}
use Rattle.serde_json.specs.View.{view, items_view}
use Rattle.read_lines.specs.Tokens.{scalar_data, scalars_data}
use Rattle.read_lines.specs.declared.lines.PlainLine.{PlainLine}
use Rattle.read_lines.specs.declared.lines.PlainLine.TheVariants as lines

-- an object of one member
abbrev pub one_member : List ℕ → Data → Data
one_member name d = json_data.object (json_data.member name d json_data.no_members)

-- a list of an id, a name and more
abbrev pub words_data : List ℕ → List ℕ → Items → Data
words_data id name more = json_data.array (item (json_data.string id) (item (json_data.string name) more))

-- the data that a line is
abbrev pub line_data : PlainLine → Data
line_data (lines.Set id name value) = one_member (codes "set") (words_data id.now name.now (item (view value) no_items))
line_data (lines.Get id name) = one_member (codes "get") (words_data id.now name.now no_items)
line_data (lines.Release id) = one_member (codes "release") (json_data.string id.now)
line_data (lines.Emit id name args) = one_member (codes "emit") (words_data id.now name.now (item (json_data.array (items_view args.items)) no_items))
line_data (lines.Turn moment) = one_member (codes "turn") (view moment)

-- the tokens of a line that is an object of one member, a list of an id, a name and more
abbrev pub words_tokens : List ℕ → List ℕ → List ℕ → List Token → List Token
words_tokens form id name more = begin_object ∷ key form ∷ begin_array ∷ string id ∷ string name ∷ more

-- the brackets that end it
abbrev pub closing : List Token
closing = end_array ∷ end_object ∷ []

-- these are the tokens of the line
abbrev pub Says : List Token → PlainLine → Type 0
Says tokens (lines.Set id name value) = (t : Token) × (tokens ≡ words_tokens (codes "set") id.now name.now (t ∷ closing)) × (scalar_data t ≡ Some (view value))
Says tokens (lines.Get id name) = tokens ≡ words_tokens (codes "get") id.now name.now closing
Says tokens (lines.Release id) = tokens ≡ begin_object ∷ key (codes "release") ∷ string id.now ∷ end_object ∷ []
Says tokens (lines.Emit id name args) = (ts : List Token) × (tokens ≡ words_tokens (codes "emit") id.now name.now (begin_array ∷ (ts ++ end_array ∷ closing))) × (scalars_data ts ≡ Some (items_view args.items))
Says tokens (lines.Turn moment) = (t : Token) × (tokens ≡ begin_object ∷ key (codes "turn") ∷ t ∷ end_object ∷ []) × (scalar_data t ≡ Some (view moment))
