-- Which definition bytes denote, or the first fault in document order. A file of the folder has the rows of one part of the format.
pub mod Names
pub mod Entries
pub mod Types
pub mod SessionLimits
pub mod Enums
pub mod Kinds
pub mod PropertyFlags
pub mod Ranges
pub mod Defaults
pub mod Properties
pub mod Signals
pub mod Drafts
pub mod Overrides
pub mod Brought
pub mod Implements
pub mod ClassHandlers
pub mod Constructed
pub mod Interfaces
pub mod Classes
pub mod Programs
pub mod Given
pub mod Attached
pub mod Binds
pub mod Filled
pub mod Shapes
pub mod Peers
pub mod Objects
pub mod Prototypes
use Rattle.std.specs.Prelude.{ℕ, List, [], ◌∷◌, ◌++◌, length, codes, ◌==◌, Bool, if◌then◌else◌, Option, None, Some, option_and_then, Result, Ok, Err}
use Rattle.serde_json.specs.Data.{Data, Items}
use Rattle.serde_json.specs.Find.{get, as_number, as_u64}
use Rattle.ui_machine.specs.Outcome.{◌>>=◌}
use Rattle.ui_machine.specs.Seq.{listed}
use Rattle.ui_machine.specs.Definition.Types.{GType, predeclared}
use Rattle.ui_machine.specs.Definition.Properties.{Spec}
use Rattle.ui_machine.specs.Definition.Programs.{Program}
use Rattle.ui_machine.specs.Definition.Places as machine
use Rattle.ui_machine.specs.Definition as definition
use Rattle.ui_machine.specs.declared.limits.Limits.{Limits}
use Rattle.bytecode.specs.declared.formats.Format.{Format}
use Rattle.bytecode.specs.declared.formats.Format.TheVariants as formats
use Rattle.definition_format.specs.Meaning.{type_with}
use Rattle.definition_format.specs.Refusals.{Refusal, shape}
use Rattle.definition_format.specs.Document.{under, members_at, entries_at, listed_ahead, only_at, each, at_entry, document}
use Rattle.definition_format.specs.Denoted.Entries.{ProgramNames, TypeNames, type_names, program_names, most_levels, object_names}
use Rattle.definition_format.specs.Denoted.Properties.{specs_by}
use Rattle.definition_format.specs.Denoted.Signals.{signals_by}
use Rattle.definition_format.specs.Denoted.SessionLimits.{limits_in}
use Rattle.definition_format.specs.Denoted.Enums.{enum_at, flags_at}
use Rattle.definition_format.specs.Denoted.Drafts.{ClassDraft, Draft, bare_draft, no_answers, with_answers}
use Rattle.definition_format.specs.Denoted.Interfaces.{interface_at}
use Rattle.definition_format.specs.Denoted.Classes.{class_at}
use Rattle.definition_format.specs.Denoted.Programs.{programs_in}
use Rattle.definition_format.specs.Denoted.Objects.{Scope, Built, no_objects, object_at}
use Rattle.definition_format.specs.Denoted.Prototypes.{prototypes_in}
use Rattle.definition_format.specs.Denoted.Shapes.{is_shaped_by, shapes_in}

-- the number that the member `format` is
abbrev pub format_number : Data → Option ℕ
format_number d = option_and_then as_u64 (option_and_then as_number (get (codes "format") d))

-- the format of a number, which is 1 or 2
abbrev pub format_of : Option ℕ → Result Format Refusal
format_of None = Err (shape (codes "/format"))
format_of (Some n) = if n == 1 then Ok formats.First else (if n == 2 then Ok formats.Second else Err (shape (codes "/format")))

abbrev pub keys_of_definition : List (List ℕ)
keys_of_definition = codes "format" ∷ codes "limits" ∷ codes "enums" ∷ codes "flags" ∷ codes "interfaces" ∷ codes "shapes" ∷ codes "classes" ∷ codes "programs" ∷ codes "prototypes" ∷ codes "objects" ∷ []

-- the definition of these classes, programs, places and bindings, with these limits
abbrev pub definition_with : ClassDraft → List Program → List machine.Place → List machine.Bind → Limits → definition.Definition
definition_with draft programs places bindings limits = record {
  types = draft.types;
  classes = listed (λ t. type_with (specs_by draft.types draft.own t) (signals_by draft.types draft.signals t) (draft.answers.handlers t) (draft.answers.constructed t) (draft.answers.shaped t)) (length draft.types);
  shapes = draft.answers.shapes;
  programs = programs;
  places = places;
  bindings = bindings;
  most_objects = limits.objects;
  most_handlers = limits.handlers;
}

-- the predeclared types with the enums of a definition
unfoldable pub enums_in : Data → Result (List GType) Refusal
enums_in d = do
  list ← entries_at [] d (codes "enums")
  each (at_entry (λ path. enum_at path (length predeclared)) (under [] (codes "enums"))) 0 predeclared list

-- these types, with the flags types of a definition
unfoldable pub flags_in : List GType → Data → Result (List GType) Refusal
flags_in types d = do
  list ← entries_at [] d (codes "flags")
  each (at_entry (λ path. flags_at path (length types)) (under [] (codes "flags"))) 0 types list

-- these types, with the interfaces of a definition, among the names of all its types
unfoldable pub interfaces_in : TypeNames → List GType → Data → Result Draft Refusal
interfaces_in names types d = do
  list ← entries_at [] d (codes "interfaces")
  each (at_entry (λ path. interface_at path (length types) list (listed_ahead (codes "classes") d) names) (under [] (codes "interfaces"))) 0 (bare_draft types) list

-- these types with all that they have, with the classes of a definition
unfoldable pub classes_in : TypeNames → ProgramNames → ClassDraft → Data → Result ClassDraft Refusal
classes_in names programs draft d = do
  list ← entries_at [] d (codes "classes")
  each (at_entry (λ path. class_at path (length draft.types) list names programs) (under [] (codes "classes"))) 0 draft list

-- the types of a definition, with all that they have
unfoldable pub draft_in : Data → Result ClassDraft Refusal
draft_in d = do
  enums ← enums_in d
  types ← flags_in enums d
  interfaces ← interfaces_in (type_names types d) types d
  shapes ← shapes_in d
  classes_in (type_names types d) (program_names d) (with_answers interfaces (no_answers shapes)) d

-- what is known where the objects of a list are read
abbrev pub scope_with : List GType → (ℕ → List Spec) → (ℕ → Bool) → List Program → List machine.Place → ℕ → Items → Scope
scope_with types specs has_shape programs prototypes most list = record {
  types = types;
  specs = specs;
  has_shape = has_shape;
  programs = programs;
  prototypes = prototypes;
  most = most;
  names = object_names list;
}

-- the objects of these types with their properties, of which these have a shape, which may run these programs, beside these prototypes, where so
-- many may live
unfoldable pub objects_in : List GType → (ℕ → List Spec) → (ℕ → Bool) → List Program → List machine.Place → ℕ → Data → Result Built Refusal
objects_in types specs has_shape programs prototypes most d = do
  list ← entries_at [] d (codes "objects")
  each (at_entry (object_at most_levels (scope_with types specs has_shape programs prototypes most list) None) (under [] (codes "objects"))) 0 no_objects list

unfoldable pub definition_in : Data → Result definition.Definition Refusal
definition_in d = do
  members ← members_at [] d
  format ← format_of (format_number d)
  limits ← limits_in d
  draft ← draft_in d
  programs ← programs_in format draft.types d
  prototypes ← prototypes_in draft.types (specs_by draft.types draft.own) (is_shaped_by draft.types draft.answers.shaped) d
  objects ← objects_in draft.types (specs_by draft.types draft.own) (is_shaped_by draft.types draft.answers.shaped) programs prototypes limits.objects d
  only ← only_at [] members keys_of_definition
  Ok (definition_with draft programs (objects.places ++ prototypes) objects.bindings limits)

-- the definition that bytes denote
unfoldable pub denoted : List ℕ → Result definition.Definition Refusal
denoted bytes = do
  value ← document bytes
  definition_in value
