-- How a class has the properties of its interfaces: each of them, its own or inherited, with the same kind, range, default, weakness and
-- flags (GObject manual, g_object_class_override_property). What is wrong with an override is reported at the entry of `implements`, which
-- comes before the class's own properties: so these are read ahead, each by itself.
use Rattle.std.specs.Prelude.{ℕ, Bool, true, false, List, [], ◌∷◌, ◌++◌, codes, if◌then◌else◌, Option, None, Some, option_map, option_and_then, Result, Ok, Err}
use Rattle.std.specs.List.{find, list_any}
use Rattle.std.specs.Str.{bytes_eq}
use Rattle.serde_json.specs.Data.{Data}
use Rattle.serde_json.specs.Find.{get, as_str}
use Rattle.ui_machine.specs.Definition.Types.{GType}
use Rattle.ui_machine.specs.Definition.Names.{canonical}
use Rattle.ui_machine.specs.Definition.Properties.{Spec}
use Rattle.param_specs.specs.Overriding.{same_spec, spec_named}
use Rattle.type_tree.specs.PropertyName.{is_property_name}
use Rattle.definition_format.specs.Causes.{PropertyCause, override_missing, override_differs}
use Rattle.definition_format.specs.Refusals.{Refusal}
use Rattle.definition_format.specs.Document.{under, listed_ahead, each, at_entry}
use Rattle.definition_format.specs.Denoted.Entries.{TypeNames}
use Rattle.definition_format.specs.Denoted.Properties.{specs_by, inherited_by, spec_at}

-- ** a class's own properties, read ahead

-- a property by its canonical name: what it is, and nothing where its entry is at fault
pub record Own : Type 0 where
  pub name : List ℕ
  pub spec : Option Spec

abbrev pub if_read : Result Spec Refusal → Option Spec
if_read (Ok spec) = Some spec
if_read (Err e) = None

abbrev pub own_name : Option (List ℕ) → Option (List ℕ)
own_name None = None
own_name (Some name) = if is_property_name name then Some (canonical name) else None

abbrev pub is_own : List ℕ → Own → Bool
is_own name own = bytes_eq name own.name

-- these properties with one more; of two with one name the first counts
abbrev pub own_with : List Own → Option (List ℕ) → Option Spec → List Own
own_with own None spec = own
own_with own (Some name) spec = if list_any (is_own name) own then own else own ++ record { name = name; spec = spec } ∷ []

-- these properties with the one of an entry, which is read as one more property of the class's parent
abbrev pub own_at : List ℕ → List GType → TypeNames → (ℕ → List Spec) → ℕ → List Own → Data → Result (List Own) Refusal
own_at path types names table parent own d =
    Ok (own_with own (own_name (option_and_then as_str (get (codes "name") d)))
    (if_read (spec_at path types names (inherited_by types table parent) (specs_by types table parent) d)))

-- the own properties of an entry of a class, where each type has these of its own
abbrev pub own_ahead : List ℕ → List GType → TypeNames → (ℕ → List Spec) → ℕ → Data → Result (List Own) Refusal
own_ahead path types names table parent d =
    each (at_entry (λ entry. own_at entry types names table parent) (under path (codes "properties"))) 0 [] (listed_ahead (codes "properties") d)

-- ** overrides

-- how a class has a property of an interface
pub data Override : Type 0 where
  fine : Override
  missing : Override
  different : Override

abbrev pub compared : Option Spec → Spec → Override
compared None wanted = missing
compared (Some s) wanted = if same_spec s wanted then fine else different

-- by the class's own property of that name or else by the inherited one; where the entry of the own one is at fault that is reported there
abbrev pub override_by : Option (Option Spec) → Option Spec → Spec → Override
override_by None inherited wanted = compared inherited wanted
override_by (Some None) inherited wanted = fine
override_by (Some (Some s)) inherited wanted = compared (Some s) wanted

abbrev pub own_named : List Own → List ℕ → Option (Option Spec)
own_named own name = option_map (λ (o : Own). o.spec) (find (is_own name) own)

abbrev pub override_of : List Spec → List Own → Spec → Override
override_of inherited own wanted = override_by (own_named own wanted.name) (spec_named inherited wanted.name) wanted

abbrev pub is_missing : Override → Bool
is_missing fine = false
is_missing missing = true
is_missing different = false

abbrev pub is_different : Override → Bool
is_different fine = false
is_different missing = false
is_different different = true

-- the first of two causes
abbrev pub cause_or : Option PropertyCause → Option PropertyCause → Option PropertyCause
cause_or (Some cause) next = Some cause
cause_or None next = next

-- the first property of an interface that is missing, else the first that is another one
abbrev pub override_cause : List Spec → List Own → List Spec → Option PropertyCause
override_cause inherited own wanted =
    cause_or (option_map (λ (w : Spec). override_missing w.name) (find (λ w. is_missing (override_of inherited own w)) wanted))
    (option_map (λ (w : Spec). override_differs w.name) (find (λ w. is_different (override_of inherited own w)) wanted))
