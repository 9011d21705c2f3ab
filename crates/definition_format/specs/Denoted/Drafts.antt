-- Types with their properties and signals, and what classes name, while they are read.
use Rattle.std.specs.Prelude.{ℕ, List, [], length, codes, Option, None, Result, Ok}
use Rattle.serde_json.specs.Data.{Data}
use Rattle.ui_machine.specs.Outcome.{◌>>=◌}
use Rattle.ui_machine.specs.Seq.{read}
use Rattle.ui_machine.specs.Definition.Types.{GType}
use Rattle.ui_machine.specs.Definition.Properties.{Spec}
use Rattle.ui_machine.specs.Definition.Signals.{ClassHandler, Shape, Signal}
use Rattle.param_specs.specs.Table.{own_of}
use Rattle.signal_core.specs.Sources as tables
use Rattle.signal_core.specs.Table.{Declared, named_of}
use Rattle.definition_format.specs.Refusals.{Refusal}
use Rattle.definition_format.specs.Document.{under, members_at, entries_at, only_at, each, at_entry}
use Rattle.definition_format.specs.Denoted.Entries.{TypeNames}
use Rattle.definition_format.specs.Denoted.Properties.{property_at}
use Rattle.definition_format.specs.Denoted.Signals.{signals_at}

-- types, with each type's own properties and signals
pub record Draft : Type 0 where
  pub types : List GType
  pub own : ℕ → List Spec
  pub signals : ℕ → List Signal

abbrev pub draft_of : List GType → List (List Spec) → List (List Signal) → Draft
draft_of types table declared = record { types = types; own = own_of table; signals = tables.own_of declared }

-- these types, of which none has properties and signals yet
abbrev pub bare_draft : List GType → Draft
bare_draft types = record { types = types; own = λ t. []; signals = λ t. [] }

-- ** with what classes name

-- what types name: programs for signals and for their objects once they are constructed, and their shape among these shapes
pub record Answers : Type 0 where
  pub shapes : List Shape
  pub handlers : ℕ → List ClassHandler
  pub constructed : ℕ → Option ℕ
  pub shaped : ℕ → Option ℕ

-- where no type names anything yet
abbrev pub no_answers : List Shape → Answers
no_answers shapes = record { shapes = shapes; handlers = λ t. []; constructed = λ t. None; shaped = λ t. None }

-- a draft with what its types name
pub record ClassDraft : Type 0 where
  pub types : List GType
  pub own : ℕ → List Spec
  pub signals : ℕ → List Signal
  pub answers : Answers

abbrev pub with_answers : Draft → Answers → ClassDraft
with_answers draft answers = record { types = draft.types; own = draft.own; signals = draft.signals; answers = answers }

abbrev pub unanswered : ClassDraft → Draft
unanswered draft = record { types = draft.types; own = draft.own; signals = draft.signals }

abbrev pub answers_of : List Shape → List (List ClassHandler) → List (Option ℕ) → List (Option ℕ) → Answers
answers_of shapes handlers constructed shaped =
    record { shapes = shapes; handlers = named_of handlers; constructed = read None constructed; shaped = read None shaped }

abbrev pub class_draft_of : List GType → List (List Spec) → Declared → List (Option ℕ) → List Shape → List (Option ℕ) → ClassDraft
class_draft_of types table declared constructed shapes shaped =
    with_answers (draft_of types table declared.signals) (answers_of shapes declared.handlers constructed shaped)

-- ** members of types

-- each type's own properties, with those that an entry gives to a type
unfoldable pub properties_at : List ℕ → List GType → TypeNames → ℕ → (ℕ → List Spec) → Data → Result (ℕ → List Spec) Refusal
properties_at path types names t own d = do
  list ← entries_at path d (codes "properties")
  each (at_entry (λ entry. property_at entry types names t) (under path (codes "properties"))) 0 own list

-- The draft of these types, where one gets the properties and signals of an entry. It has no signals of its own yet.
unfoldable pub given_at : List ℕ → List GType → TypeNames → ℕ → (ℕ → List Spec) → (ℕ → List Signal) → Data → Result Draft Refusal
given_at path types names t own signals d = do
  properties ← properties_at path types names t own d
  all ← signals_at path types names t signals d
  Ok (record { types = types; own = properties; signals = all })

-- What comes of a draft by the type that an entry declares, its properties and its signals. The members are these; what is behind the signals is
-- looked at last but for unknown members.
unfoldable pub type_at : {A : Type 0} → List ℕ → List (List ℕ) → Result (List GType) Refusal → (Draft → Result A Refusal) → TypeNames → Draft → Data → Result A Refusal
type_at path keys declared behind names draft d = do
  members ← members_at path d
  types ← declared
  given ← given_at path types names (length draft.types) draft.own draft.signals d
  whole ← behind given
  only ← only_at path members keys
  Ok whole
