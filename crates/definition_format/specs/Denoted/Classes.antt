-- The classes of a definition.
use Rattle.std.specs.Prelude.{ℕ, List, [], ◌∷◌, ◌++◌, length, codes, nat_le, if◌then◌else◌, Option, None, Some, option_and_then, Result, Ok, Err}
use Rattle.serde_json.specs.Data.{Data, Items}
use Rattle.serde_json.specs.Find.{get, as_str}
use Rattle.ui_machine.specs.Outcome.{◌>>=◌}
use Rattle.ui_machine.specs.Seq.{read}
use Rattle.ui_machine.specs.Definition.Types.{GType}
use Rattle.ui_machine.specs.Output.Text.{no_type}
use Rattle.ui_machine.specs.Rules.Ancestry.{depth}
use Rattle.type_tree.specs.Adding.{class_named}
use Rattle.type_tree.specs.Entry.{class_type}
use Rattle.type_tree.specs.declared.entry.TypeFlags.{TypeFlags}
use Rattle.definition_format.specs.declared.faults.DefinitionLimit.TheVariants.{Depth}
use Rattle.definition_format.specs.Causes.{unknown_parent, final_parent}
use Rattle.definition_format.specs.Refusals.{Refusal, shape, unknown, bad_type, limit, or_refused}
use Rattle.definition_format.specs.Document.{under, text_at, truth_at}
use Rattle.definition_format.specs.Denoted.Entries.{ProgramNames, TypeNames}
use Rattle.definition_format.specs.Denoted.Types.{is_declared, room_for_type, new_type_name}
use Rattle.definition_format.specs.Denoted.Drafts.{Answers, ClassDraft, Draft, type_at, unanswered, with_answers}
use Rattle.definition_format.specs.Denoted.ClassHandlers.{class_handlers_at}
use Rattle.definition_format.specs.Denoted.Constructed.{constructed_at}
use Rattle.definition_format.specs.Denoted.Implements.{implements_at}
use Rattle.definition_format.specs.Denoted.Shapes.{shaped_at}

-- ** parents

-- a class that may have children
abbrev pub unless_final : List ℕ → List GType → ℕ → Result ℕ Refusal
unless_final path types t = if (read no_type types t).is_final then Err (bad_type path final_parent) else Ok t

-- A parent, found by its name among the classes so far. One that comes later is known, but not there yet.
abbrev pub parent_found : List ℕ → Items → List GType → List ℕ → Option ℕ → Result ℕ Refusal
parent_found path list types name None = if is_declared list name then Err (bad_type path unknown_parent) else Err (unknown path name)
parent_found path list types name (Some t) = unless_final path types t

abbrev pub parent_called : List ℕ → Items → List GType → List ℕ → Result ℕ Refusal
parent_called path list types name = parent_found path list types name (class_named types name)

-- the parent that is named, where the entries of all classes are given
unfoldable pub named_parent : List ℕ → Items → List GType → Data → Result ℕ Refusal
named_parent path list types d = do
  name ← or_refused (shape path) (as_str d)
  parent_called path list types name

-- or `GObject`
abbrev pub parent_or : List ℕ → Items → List GType → Option Data → Result ℕ Refusal
parent_or path list types None = parent_called path list types (codes "GObject")
parent_or path list types (Some d) = named_parent path list types d

abbrev pub parent_at : List ℕ → Items → List GType → Data → Result ℕ Refusal
parent_at path list types d = parent_or (under path (codes "parent")) list types (get (codes "parent") d)

-- the class that a member names as the parent, if it is there
abbrev pub parent_ahead : List GType → Option Data → Option ℕ
parent_ahead types None = class_named types (codes "GObject")
parent_ahead types (Some d) = option_and_then (class_named types) (as_str d)

-- A class under this parent is at most 16 deep. It is reported of the whole entry, so the parent is read ahead.
abbrev pub check_depth : List GType → Option ℕ → Result (Unit {0}) Refusal
check_depth types None = Ok tt
check_depth types (Some parent) = if nat_le 16 (depth types parent) then Err (limit Depth) else Ok tt

abbrev pub keys_of_class : List (List ℕ)
keys_of_class = codes "name" ∷ codes "parent" ∷ codes "abstract" ∷ codes "final" ∷ codes "implements" ∷ codes "properties" ∷ codes "signals" ∷ codes "class-handlers" ∷ codes "constructed" ∷ codes "shape" ∷ []

-- what may not be done with the class of an entry
unfoldable pub flags_at : List ℕ → Data → Result TypeFlags Refusal
flags_at path d = do
  abstract ← truth_at path d (codes "abstract")
  final ← truth_at path d (codes "final")
  Ok (record { is_abstract = abstract; is_final = final })

-- the types with the class that an entry declares, where the classes begin with the first and have these entries
unfoldable pub declared_at : List ℕ → ℕ → Items → TypeNames → Draft → Data → Result (List GType) Refusal
declared_at path first list names draft d = do
  room ← room_for_type draft.types
  deep ← check_depth draft.types (parent_ahead draft.types (get (codes "parent") d))
  name ← text_at path d (codes "name")
  new ← new_type_name (under path (codes "name")) first draft.types name
  parent ← parent_at path list draft.types d
  flags ← flags_at path d
  interfaces ← implements_at path names draft parent d
  Ok (draft.types ++ class_type name parent flags interfaces ∷ [])

-- what types name, with what an entry names for a type among these
unfoldable pub answers_at : List ℕ → ProgramNames → List GType → ℕ → Answers → Data → Result Answers Refusal
answers_at path programs types t answers d = do
  handlers ← class_handlers_at path programs t answers.handlers d
  constructed ← constructed_at path programs t answers.constructed d
  shaped ← shaped_at path types answers.shapes t answers.shaped d
  Ok (record { shapes = answers.shapes; handlers = handlers; constructed = constructed; shaped = shaped })

-- a draft with that
unfoldable pub answering_at : List ℕ → ProgramNames → ℕ → Answers → Data → Draft → Result ClassDraft Refusal
answering_at path programs t answers d given = do
  all ← answers_at path programs given.types t answers d
  Ok (with_answers given all)

-- the types with a class, its properties, its signals and what it names
abbrev pub class_at : List ℕ → ℕ → Items → TypeNames → ProgramNames → ClassDraft → Data → Result ClassDraft Refusal
class_at path first list names programs draft d =
    type_at path keys_of_class (declared_at path first list names (unanswered draft) d)
    (answering_at path programs (length draft.types) draft.answers d) names (unanswered draft) d
