-- The programs that classes run on their objects once these are constructed (GObject manual, GObject: the virtual function `constructed`).
use Rattle.std.specs.Prelude.{ℕ, List, codes, nat_eq, if◌then◌else◌, Option, None, Some, Result, Ok}
use Rattle.serde_json.specs.Data.{Data}
use Rattle.serde_json.specs.Find.{get}
use Rattle.ui_machine.specs.Outcome.{◌>>=◌}
use Rattle.definition_format.specs.Refusals.{Refusal}
use Rattle.definition_format.specs.Document.{under}
use Rattle.definition_format.specs.Denoted.Entries.{ProgramNames}
use Rattle.definition_format.specs.Denoted.ClassHandlers.{program_at}

-- a program, if one is named
unfoldable pub some_program : List ℕ → ProgramNames → Data → Result (Option ℕ) Refusal
some_program path programs d = do
  program ← program_at path programs d
  Ok (Some program)

abbrev pub program_or : List ℕ → ProgramNames → Option Data → Result (Option ℕ) Refusal
program_or path programs None = Ok None
program_or path programs (Some d) = some_program path programs d

-- each type's own program, with one for a type
abbrev pub set_program : (ℕ → Option ℕ) → ℕ → ℕ → ℕ → Option ℕ
set_program own t program u = if nat_eq u t then Some program else own u

-- the same, if there is one
abbrev pub add_program : (ℕ → Option ℕ) → ℕ → Option ℕ → ℕ → Option ℕ
add_program own t None = own
add_program own t (Some program) = set_program own t program

-- each type's own program, with the one that an entry names for a type
unfoldable pub constructed_at : List ℕ → ProgramNames → ℕ → (ℕ → Option ℕ) → Data → Result (ℕ → Option ℕ) Refusal
constructed_at path programs t own d = do
  program ← program_or (under path (codes "constructed")) programs (get (codes "constructed") d)
  Ok (add_program own t program)
