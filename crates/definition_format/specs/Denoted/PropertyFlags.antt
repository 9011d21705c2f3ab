-- The flags of a property.
use Rattle.std.specs.Prelude.{ℕ, bit_or, List, codes, if◌then◌else◌, Option, None, Some, Result, Ok, Err}
use Rattle.std.specs.Str.{bytes_eq}
use Rattle.serde_json.specs.Data.{Data}
use Rattle.serde_json.specs.Find.{get, as_str, as_array}
use Rattle.ui_machine.specs.Outcome.{◌>>=◌}
use Rattle.param_specs.specs.Flags.{is_clash}
use Rattle.param_specs.specs.declared.error.SpecFault.TheVariants.{FlagsClash}
use Rattle.definition_format.specs.Refusals.{Refusal, shape, not_installed, or_refused}
use Rattle.definition_format.specs.Document.{under, each, at_entry}

-- a flag by its word
abbrev pub flag_named : List ℕ → Option ℕ
flag_named word =
    if bytes_eq word (codes "readable") then Some 1 else
    (if bytes_eq word (codes "writable") then Some 2 else
    (if bytes_eq word (codes "construct") then Some 4 else
    (if bytes_eq word (codes "construct-only") then Some 8 else
    (if bytes_eq word (codes "lax-validation") then Some 16 else
    (if bytes_eq word (codes "explicit-notify") then Some 1073741824 else None)))))

-- the flag of a word that may be none
abbrev pub flag_if : Option (List ℕ) → Option ℕ
flag_if None = None
flag_if (Some word) = flag_named word

-- these flags, with the one that an entry names
unfoldable pub flag_at : List ℕ → ℕ → Data → Result ℕ Refusal
flag_at path flags d = do
  flag ← or_refused (shape path) (flag_if (as_str d))
  Ok (bit_or flags flag)

-- the flags go together
abbrev pub check_flags : List ℕ → ℕ → Result (Unit {0}) Refusal
check_flags path flags = if is_clash flags then Err (not_installed path FlagsClash) else Ok tt

-- the flags of a list of words; a word may come twice
unfoldable pub listed_flags : List ℕ → Data → Result ℕ Refusal
listed_flags path d = do
  list ← or_refused (shape path) (as_array d)
  flags ← each (at_entry flag_at path) 0 0 list
  together ← check_flags path flags
  Ok flags

-- readable and writable, where nothing is said
abbrev pub flags_or : List ℕ → Option Data → Result ℕ Refusal
flags_or path None = Ok 3
flags_or path (Some d) = listed_flags path d

abbrev pub flags_at : List ℕ → Data → Result ℕ Refusal
flags_at path d = flags_or (under path (codes "flags")) (get (codes "flags") d)
