-- Bindings between properties of objects (GTK manual, GtkBuilder: `bind-source`, `bind-property` and `bind-flags`; GObject manual, GBinding).
use Rattle.std.specs.Prelude.{ℕ, bit_or, List, [], ◌∷◌, codes, Bool, if◌then◌else◌, Option, None, Some, option_and_then, Result, Ok, Err}
use Rattle.std.specs.List.{list_any}
use Rattle.std.specs.Str.{bytes_eq}
use Rattle.serde_json.specs.Data.{Data}
use Rattle.serde_json.specs.Find.{get, as_str}
use Rattle.ui_machine.specs.Outcome.{◌>>=◌}
use Rattle.ui_machine.specs.Definition.Places.{Bind}
use Rattle.ui_machine.specs.Definition.Properties.{Spec}
use Rattle.ui_machine.specs.Definition.Types.{GType}
use Rattle.definition_format.specs.Refusals.{Refusal, shape, unknown, duplicate, or_refused}
use Rattle.definition_format.specs.Document.{under, members_at, entries_at, only_at, each, at_entry}
use Rattle.definition_format.specs.Denoted.Attached.{name_of}
use Rattle.definition_format.specs.Denoted.Entries.{ObjectNames, at_most, is_called, number_from}
use Rattle.definition_format.specs.Denoted.Given.{Property, class_ahead, property_named}

-- ** flags

-- a flag by its word
abbrev pub bind_flag_named : List ℕ → Option ℕ
bind_flag_named word =
    if bytes_eq word (codes "bidirectional") then Some 1 else
    (if bytes_eq word (codes "sync-create") then Some 2 else
    (if bytes_eq word (codes "invert-boolean") then Some 4 else None))

-- the flag of a word that may be none
abbrev pub bind_flag_if : Option (List ℕ) → Option ℕ
bind_flag_if None = None
bind_flag_if (Some word) = bind_flag_named word

-- these flags, with the one that an entry names
unfoldable pub bind_flag_at : List ℕ → ℕ → Data → Result ℕ Refusal
bind_flag_at path flags d = do
  flag ← or_refused (shape path) (bind_flag_if (as_str d))
  Ok (bit_or flags flag)

-- the flags of a list of words; a word may come twice, and where nothing is said there are none
unfoldable pub bind_flags_at : List ℕ → Data → Result ℕ Refusal
bind_flags_at path d = do
  list ← entries_at path d (codes "flags")
  each (at_entry bind_flag_at (under path (codes "flags"))) 0 0 list

-- ** the source

-- the place of the object that is the source, which may come later
unfoldable pub source_at : List ℕ → ObjectNames → Data → Result ℕ Refusal
source_at path objects d = do
  id ← name_of (under path (codes "source")) (option_and_then as_str (get (codes "source") d))
  or_refused (unknown (under path (codes "source")) id) (number_from 0 objects.ids id)

-- what the source's property is called: as the target's, where nothing is said
abbrev pub source_name_or : List ℕ → List ℕ → Option Data → Result (List ℕ) Refusal
source_name_or path same None = Ok same
source_name_or path same (Some d) = or_refused (shape path) (as_str d)

unfoldable pub slot_called : List ℕ → List Spec → List ℕ → Result ℕ Refusal
slot_called path specs name = do
  property ← property_named path specs name
  Ok property.slot

-- The slot of the property of a class that a name names. Where the class is not known, that is reported of the object itself.
abbrev pub slot_if_class : List ℕ → (ℕ → List Spec) → Option ℕ → List ℕ → Result ℕ Refusal
slot_if_class path specs None name = Ok 0
slot_if_class path specs (Some class) name = slot_called path (specs class) name

-- ** the name

-- whether one of these bindings has a name
abbrev pub has_bound : List Bind → List ℕ → Bool
has_bound bindings name = list_any (λ (b : Bind). is_called b.name name) bindings

-- a name, if there is one, beside those of these bindings
unfoldable pub some_bind_name : List ℕ → List Bind → Data → Result (Option (List ℕ)) Refusal
some_bind_name path bindings d = do
  name ← name_of path (as_str d)
  if has_bound bindings name then Err (duplicate path) else Ok (Some name)

abbrev pub bind_name_or : List ℕ → List Bind → Option Data → Result (Option (List ℕ)) Refusal
bind_name_or path bindings None = Ok None
bind_name_or path bindings (Some d) = some_bind_name path bindings d

-- ** a binding

-- the object whose properties are read, by its place and its class, among these types with their properties and the names of all objects
pub record Target : Type 0 where
  pub types : List GType
  pub specs : ℕ → List Spec
  pub objects : ObjectNames
  pub place : ℕ
  pub class : ℕ

abbrev pub keys_of_bind : List (List ℕ)
keys_of_bind = codes "source" ∷ codes "property" ∷ codes "flags" ∷ codes "name" ∷ []

-- the binding of a property, beside these, where the property's entry has the number at
unfoldable pub bind_at : List ℕ → Target → Property → (at : ℕ) → List Bind → Data → Result Bind Refusal
bind_at path target property at bindings d = do
  members ← members_at path d
  source ← source_at path target.objects d
  called ← source_name_or (under path (codes "property")) property.spec.name (get (codes "property") d)
  slot ← slot_if_class (under path (codes "property")) target.specs (class_ahead target.types target.objects source) called
  flags ← bind_flags_at path d
  name ← bind_name_or (under path (codes "name")) bindings (get (codes "name") d)
  only ← only_at path members keys_of_bind
  Ok (record {
    name = name;
    source = at_most 512 source;
    source_slot = slot;
    target = target.place;
    target_slot = property.slot;
    flags = flags;
    at = at;
  })
