-- The verdict on a definition.
use Rattle.std.specs.Prelude.{◌≡◌, ℕ, Bool, List, [], Some, length, nat_eq, if◌then◌else◌}
use Rattle.event_lines.specs.Checks.{Checked}
use Rattle.c_sessions.specs.Buffers.{with_text}
use Rattle.c_sessions.specs.declared.status.Status.{Status}
use Rattle.c_sessions.specs.declared.status.Status.TheVariants as statuses

-- the status of a check that ended with this number
abbrev pub status_of_check : ℕ → Status
status_of_check code = if nat_eq code 0 then statuses.Done else (if nat_eq code 1 then statuses.DefinitionRefused else statuses.Stopped)

-- the check of these bytes ends with this status and this text; where no memory was found the text is a front of one
abbrev pub IsVerdict : List ℕ → Status → List ℕ → Type 0
IsVerdict bytes status text = (code : ℕ) × (torn : Bool) × Checked bytes code torn (Some []) (Some text) × (status ≡ status_of_check code)

-- how the check of these bytes ends: by its status, and what a buffer holds that held this before
abbrev pub Verifies : List ℕ → List ℕ → Status → List ℕ → Type 0
Verifies bytes buffer status written = (text : List ℕ) × IsVerdict bytes status text × (written ≡ with_text buffer text)

-- the same, with the length of the whole text
abbrev pub Reports : List ℕ → List ℕ → Status → List ℕ → (whole : ℕ) → Type 0
Reports bytes buffer status written whole = (text : List ℕ) × IsVerdict bytes status text × (written ≡ with_text buffer text) × (whole ≡ length text)
