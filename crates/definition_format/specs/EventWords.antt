-- The words of an event's line, by how many there are.
use Rattle.std.specs.Prelude.{ℕ, List, if◌then◌else◌, Option, None, Some}
use Rattle.serde_json.specs.Data.{Data, Items, no_items, item}
use Rattle.serde_json.specs.Find.{as_str, as_array}
use Rattle.definition_format.specs.Denoted.Names.{is_name}

-- two texts, and a third thing
abbrev pub with_texts : {A : Type 0} → Option (List ℕ) → Option (List ℕ) → A → Option (List ℕ × List ℕ × A)
with_texts None second x = None
with_texts (Some first) None x = None
with_texts (Some first) (Some second) x = Some (first, second, x)

-- an id, a name and a value
abbrev pub words_of_set : Items → Option (List ℕ × List ℕ × Data)
words_of_set no_items = None
words_of_set (item id no_items) = None
words_of_set (item id (item name no_items)) = None
words_of_set (item id (item name (item value no_items))) = with_texts (as_str id) (as_str name) value
words_of_set (item id (item name (item value (item more ds)))) = None

abbrev pub both_texts : Option (List ℕ) → Option (List ℕ) → Option (List ℕ × List ℕ)
both_texts None second = None
both_texts (Some first) None = None
both_texts (Some first) (Some second) = Some (first, second)

-- an id and a name
abbrev pub words_of_get : Items → Option (List ℕ × List ℕ)
words_of_get no_items = None
words_of_get (item id no_items) = None
words_of_get (item id (item name no_items)) = both_texts (as_str id) (as_str name)
words_of_get (item id (item name (item more ds))) = None

-- an id, a signal's name, the arguments, and a detail, if there is one
pub record Emitted : Type 0 where
  pub id : List ℕ
  pub name : List ℕ
  pub args : Items
  pub detail : Option (List ℕ)

-- a detail that is given is a name of the format
abbrev pub detail_word : Option (List ℕ) → Option (Option (List ℕ))
detail_word None = None
detail_word (Some text) = if is_name text then Some (Some text) else None

abbrev pub emitted : Option (List ℕ) → Option (List ℕ) → Option Items → Option (Option (List ℕ)) → Option Emitted
emitted None name args detail = None
emitted (Some id) None args detail = None
emitted (Some id) (Some name) None detail = None
emitted (Some id) (Some name) (Some args) None = None
emitted (Some id) (Some name) (Some args) (Some detail) = Some (record { id = id; name = name; args = args; detail = detail })

-- three words, or four with a detail
abbrev pub words_of_emit : Items → Option Emitted
words_of_emit no_items = None
words_of_emit (item id no_items) = None
words_of_emit (item id (item name no_items)) = None
words_of_emit (item id (item name (item args no_items))) = emitted (as_str id) (as_str name) (as_array args) (Some None)
words_of_emit (item id (item name (item args (item detail no_items)))) = emitted (as_str id) (as_str name) (as_array args) (detail_word (as_str detail))
words_of_emit (item id (item name (item args (item detail (item more ds))))) = None
