-- The signals of objects, with the programs that they run (GTK manual, GtkBuilder: the element `signal`).
use Rattle.std.specs.Prelude.{ℕ, List, [], ◌∷◌, ◌++◌, codes, Bool, if◌then◌else◌, Option, None, Some, is_some, option_and_then, Result, Ok, Err}
use Rattle.serde_json.specs.Data.{Data}
use Rattle.serde_json.specs.Find.{get, as_bool, as_str}
use Rattle.ui_machine.specs.Outcome.{◌>>=◌}
use Rattle.ui_machine.specs.Definition.Names.{place_named}
use Rattle.ui_machine.specs.Definition.Places.{Attached}
use Rattle.ui_machine.specs.Definition.Programs.{Program}
use Rattle.definition_format.specs.Refusals.{Refusal, shape, unknown, or_refused}
use Rattle.definition_format.specs.Document.{under, members_at, text_at, truth_at, entries_at, only_at, each, at_entry}
use Rattle.definition_format.specs.Denoted.Names.{is_name}
use Rattle.definition_format.specs.Denoted.Entries.{ObjectNames, at_most, number_from}

-- a text that may be a name of what is neither a type nor a property or signal
abbrev pub name_of : List ℕ → Option (List ℕ) → Result (List ℕ) Refusal
name_of path None = Err (shape path)
name_of path (Some name) = if is_name name then Ok name else Err (shape path)

-- the number of the program that a member names among these
unfoldable pub program_under : List ℕ → List Program → List ℕ → Data → Result ℕ Refusal
program_under path programs key d = do
  name ← name_of (under path key) (option_and_then as_str (get key d))
  or_refused (unknown (under path key) name) (place_named (λ (p : Program). p.name) programs name)

-- a detail, if there is one
unfoldable pub some_detail : List ℕ → Data → Result (Option (List ℕ)) Refusal
some_detail path d = do
  detail ← name_of path (as_str d)
  Ok (Some detail)

abbrev pub detail_or : List ℕ → Option Data → Result (Option (List ℕ)) Refusal
detail_or path None = Ok None
detail_or path (Some d) = some_detail path d

-- the object that is the data, if there is one
unfoldable pub some_data : List ℕ → ObjectNames → Data → Result (Option ℕ) Refusal
some_data path objects d = do
  id ← name_of path (as_str d)
  place ← or_refused (unknown path id) (number_from 0 objects.ids id)
  Ok (Some (at_most 512 place))

abbrev pub data_or : List ℕ → ObjectNames → Option Data → Result (Option ℕ) Refusal
data_or path objects None = Ok None
data_or path objects (Some d) = some_data path objects d

-- a truth value, if there is one
unfoldable pub some_truth : List ℕ → Data → Result (Option Bool) Refusal
some_truth path d = do
  truth ← or_refused (shape path) (as_bool d)
  Ok (Some truth)

abbrev pub truth_if : List ℕ → Option Data → Result (Option Bool) Refusal
truth_if path None = Ok None
truth_if path (Some d) = some_truth path d

-- whether the data comes first: where nothing is said, it does
abbrev pub is_swapped : Option ℕ → Option Bool → Bool
is_swapped with None = is_some with
is_swapped with (Some swapped) = swapped

abbrev pub keys_of_attached : List (List ℕ)
keys_of_attached = codes "name" ∷ codes "handler" ∷ codes "detail" ∷ codes "after" ∷ codes "swapped" ∷ codes "object" ∷ []

-- the signal of an entry, of which nothing but its program is known yet
unfoldable pub attached_in : List ℕ → List Program → ObjectNames → Data → Result Attached Refusal
attached_in path programs objects d = do
  members ← members_at path d
  signal ← text_at path d (codes "name")
  program ← program_under path programs (codes "handler") d
  detail ← detail_or (under path (codes "detail")) (get (codes "detail") d)
  after ← truth_at path d (codes "after")
  swapped ← truth_if (under path (codes "swapped")) (get (codes "swapped") d)
  with ← data_or (under path (codes "object")) objects (get (codes "object") d)
  only ← only_at path members keys_of_attached
  Ok (record { signal = signal; detail = detail; program = program; after = after; swapped = is_swapped with swapped; with = with })

-- these signals, with the one of an entry
unfoldable pub attached_at : List ℕ → List Program → ObjectNames → List Attached → Data → Result (List Attached) Refusal
attached_at path programs objects signals d = do
  signal ← attached_in path programs objects d
  Ok (signals ++ signal ∷ [])

-- the signals of an object
unfoldable pub all_attached : List ℕ → List Program → ObjectNames → Data → Result (List Attached) Refusal
all_attached path programs objects d = do
  list ← entries_at path d (codes "signals")
  each (at_entry (λ entry. attached_at entry programs objects) (under path (codes "signals"))) 0 [] list
