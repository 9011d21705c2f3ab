-- Values and objects as JSON.
use Rattle.std.specs.Fmt.{signed_decimal}
use Rattle.std.specs.Prelude.{ℕ, Bool, true, false, decimal, List, [], ◌∷◌, ◌++◌, codes, Option, None, Some}
use Rattle.serde_json.specs.Data.{string}
use Rattle.serde_json.specs.Written.{compact_text}
use Rattle.ui_machine.specs.Definition.{Definition}
use Rattle.ui_machine.specs.Definition.Lookups.{type_of}
use Rattle.ui_machine.specs.Definition.Places.{Place}
use Rattle.ui_machine.specs.Definition.Types.{GType}
use Rattle.ui_machine.specs.Definition.Values.{Value}
use Rattle.ui_machine.specs.Definition.Values as values
use Rattle.ui_machine.specs.Output.Text.{members_of, nick_of}
use Rattle.ui_machine.specs.State.Objects.{Object}

-- a text as a JSON string
unfoldable pub quoted : List ℕ → List ℕ
quoted text = compact_text (string text)

-- a value as an event gives it; an object by its identity
abbrev pub value_text : List GType → Value → List ℕ
value_text types (values.bool true) = codes "true"
value_text types (values.bool false) = codes "false"
value_text types (values.whole kind n) = signed_decimal n
value_text types (values.text None) = codes "null"
value_text types (values.text (Some s)) = quoted s
value_text types (values.enum type n) = quoted (nick_of (members_of types type) n)
value_text types (values.flags type bits) = decimal bits
value_text types (values.object None) = codes "null"
value_text types (values.object (Some id)) = codes "{\"object\":" ++ (decimal id ++ codes "}")

-- numbers, joined by commas
abbrev pub numbers_text : List ℕ → List ℕ
numbers_text [] = []
numbers_text (n ∷ []) = decimal n
numbers_text (n ∷ m ∷ ns) = decimal n ++ (codes "," ++ numbers_text (m ∷ ns))

-- a number, or null
abbrev pub number_text : Option ℕ → List ℕ
number_text None = codes "null"
number_text (Some n) = decimal n

-- a truth value
abbrev pub truth_text : Bool → List ℕ
truth_text true = codes "true"
truth_text false = codes "false"

-- which object it is: the id of the place from which it was made, whether that is a prototype, and the class
abbrev pub origin_text : Definition → Place → Object → List ℕ
origin_text d place o =
    codes "{\"id\":" ++ quoted place.id ++ codes ",\"prototype\":" ++ truth_text place.is_prototype ++ codes ",\"class\":" ++ quoted (type_of d o.class).name

-- its parent and its children
abbrev pub family_text : Object → List ℕ
family_text o = codes ",\"parent\":" ++ (number_text o.parent ++ (codes ",\"children\":[" ++ (numbers_text o.children ++ codes "]")))

-- an object that was made from a place: which it is, its family, and whether it is disposed
abbrev pub object_text : Definition → Place → Object → List ℕ
object_text d place o = origin_text d place o ++ (family_text o ++ (codes ",\"disposed\":" ++ (truth_text o.disposed ++ codes "}")))
