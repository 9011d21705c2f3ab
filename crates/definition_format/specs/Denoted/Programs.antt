-- The programs of a definition.
use Rattle.std.specs.Prelude.{ℕ, List, [], ◌∷◌, ◌++◌, length, codes, nat_le, if◌then◌else◌, Option, None, Some, is_some, Result, Ok, Err}
use Rattle.serde_json.specs.Data.{Data}
use Rattle.ui_machine.specs.Outcome.{◌>>=◌}
use Rattle.ui_machine.specs.Definition.Names.{place_named}
use Rattle.ui_machine.specs.Definition.Programs.{Program}
use Rattle.ui_machine.specs.Definition.Types.{GType}
use Rattle.bytecode.specs.declared.faults.ProgramFault.{ProgramFault}
use Rattle.bytecode.specs.declared.formats.Format.{Format}
use Rattle.bytecode.specs.Reading.Outline.{Outline, outline_in}
use Rattle.bytecode.specs.Reading.OutlineFaults.{OutlineFault, Part, bad_shape, unknown_name}
use Rattle.bytecode.specs.Reading.Programs.{program_of}
use Rattle.bytecode.specs.Reading.RegisterKinds.{Names}
use Rattle.definition_format.specs.declared.faults.DefinitionLimit.TheVariants.{Programs}
use Rattle.definition_format.specs.Refusals.{Refusal, shape, unknown, duplicate, bad_program, limit}
use Rattle.definition_format.specs.Document.{under, nth, escaped, members_at, text_at, entries_at, each, at_entry}
use Rattle.definition_format.specs.Denoted.Names.{is_name}
use Rattle.definition_format.specs.Denoted.Entries.{place_with_id}

-- what the programs of a document are read with: its format, these types, and its objects and prototypes
abbrev pub code_names : Format → List GType → Data → Names
code_names format types d = record { format = format; types = types; place = place_with_id d }

-- ** faults of an outline

abbrev pub block_path : List ℕ → Option ℕ → List ℕ
block_path path None = path
block_path path (Some i) = nth (under path (codes "blocks")) i

abbrev pub member_path : List ℕ → Option (List ℕ) → List ℕ
member_path path None = path
member_path path (Some key) = under path (escaped key)

abbrev pub entry_path : List ℕ → Option ℕ → List ℕ
entry_path path None = path
entry_path path (Some i) = nth path i

-- the path of a part of a program
abbrev pub part_path : List ℕ → Part → List ℕ
part_path path part = entry_path (member_path (block_path path part.block) part.member) part.index

abbrev pub outline_refusal : List ℕ → OutlineFault → Refusal
outline_refusal path (bad_shape part) = shape (part_path path part)
outline_refusal path (unknown_name part name) = unknown (part_path path part) name

-- ** a program

abbrev pub or_bad_program : List ℕ → Result Program ProgramFault → Result Program Refusal
or_bad_program path (Ok p) = Ok p
or_bad_program path (Err fault) = Err (bad_program path fault)

-- A program, or what the format refuses beside its instructions. A fault of the instructions is reported of the whole entry, so that all of it is
-- read ahead.
abbrev pub read_ahead : List ℕ → Names → Result Outline OutlineFault → Result (Result Program OutlineFault) Refusal
read_ahead path names (Ok o) = or_bad_program path (program_of names o) >>= λ p. Ok (Ok p)
read_ahead path names (Err fault) = Ok (Err fault)

-- and what the format refuses is reported at its own place
abbrev pub unless_refused : List ℕ → Result Program OutlineFault → Result Program Refusal
unless_refused path (Ok p) = Ok p
unless_refused path (Err fault) = Err (outline_refusal path fault)

-- there is room for one more
abbrev pub room_for_program : List Program → Result (Unit {0}) Refusal
room_for_program programs = if nat_le 256 (length programs) then Err (limit Programs) else Ok tt

-- a name beside those of these programs
abbrev pub new_program : List ℕ → List Program → List ℕ → Result (Unit {0}) Refusal
new_program path programs name =
    if is_name name then (if is_some (place_named (λ (p : Program). p.name) programs name) then Err (duplicate path) else Ok tt) else Err (shape path)

-- the program that an entry gives beside these
unfoldable pub program_in : List ℕ → Names → List Program → Data → Result Program Refusal
program_in path names programs d = do
  members ← members_at path d
  ahead ← read_ahead path names (outline_in names d)
  room ← room_for_program programs
  name ← text_at path d (codes "name")
  new ← new_program (under path (codes "name")) programs name
  unless_refused path ahead

-- these programs, with the one that an entry gives
unfoldable pub program_at : List ℕ → Names → List Program → Data → Result (List Program) Refusal
program_at path names programs d = do
  program ← program_in path names programs d
  Ok (programs ++ program ∷ [])

-- the programs of a document of this format with these types
unfoldable pub programs_in : Format → List GType → Data → Result (List Program) Refusal
programs_in format types d = do
  list ← entries_at [] d (codes "programs")
  each (at_entry (λ path. program_at path (code_names format types d)) (under [] (codes "programs"))) 0 [] list
