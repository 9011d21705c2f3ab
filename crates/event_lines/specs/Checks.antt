-- What a check of a definition comes to, and what is written of it.
use Rattle.std.specs.Prelude.{◌≡◌, ◌⊎◌, ℕ, Bool, List, ◌++◌, Option, None, Some, Ok, Err}
use Rattle.std.specs.Io.KnownBytes.{Appends}
use Rattle.ui_machine.specs.Definition.{Definition}
use Rattle.ui_machine.specs.Prefix.{IsPrefix}
use Rattle.law_typing.specs.Rules.Faults.{Fault}
use Rattle.law_typing.specs.Verdict.Accepted.{Accepted}
use Rattle.law_typing.specs.Verdict.Judges.{Judges}
use Rattle.builder_defs.specs.Refusals.{Refusal}
use Rattle.builder_defs.specs.Denoted.{denoted}
use Rattle.verified.specs.Lines.{report_of}
use Rattle.verified.specs.Writing.{lines_text}
use Rattle.event_lines.specs.Texts.{definition_refused, nothing_begun}
use Rattle.event_lines.specs.Opening.{Concludes, rejected_text}

pub data Check : Type 0 where
  refused : Refusal → Check  -- the definition's bytes denote none
  unjudged : Check  -- for want of memory
  rejected : Definition → Fault → Check  -- the definition, for this fault
  accepted : Definition → Check

-- what a check of these bytes may come to
abbrev pub Comes : List ℕ → Check → Type 0
Comes bytes (refused refusal) = denoted bytes ≡ Err refusal
Comes bytes unjudged = Unit {0}
Comes bytes (rejected d fault) = (denoted bytes ≡ Ok d) × Judges d (Some fault)
Comes bytes (accepted d) = (denoted bytes ≡ Ok d) × Judges d None

-- a text came to the writer and the status was answered, or the writer failed within the text
abbrev pub IsSaid : List ℕ → ℕ → ℕ → Bool → Option (List ℕ) → Option (List ℕ) → Type 0
IsSaid whole answer status torn old new = (text : List ℕ) × Concludes whole answer status torn text × Appends old new text

-- the lines of a report came, or, if no memory was found, the first of them and then the line that says so; or the writer failed within this
abbrev pub IsReported : List (List ℕ) → ℕ → Bool → Option (List ℕ) → Option (List ℕ) → Type 0
IsReported lines status torn old new =
    IsSaid (lines_text lines) 0 status torn old new
    ⊎ ((first : List (List ℕ)) × IsPrefix first lines × IsSaid (lines_text first ++ nothing_begun) 3 status torn old new)

-- What is written and answered: 1 and the one line of a refusal, 3 and the line of a want of memory, 0 and the report, however the
-- definition is accepted.
abbrev pub Shows : Check → ℕ → Bool → Option (List ℕ) → Option (List ℕ) → Type 0
Shows (refused refusal) status torn old new = IsSaid (definition_refused refusal) 1 status torn old new
Shows unjudged status torn old new = IsSaid nothing_begun 3 status torn old new
Shows (rejected d fault) status torn old new = IsSaid (rejected_text d fault) 1 status torn old new
Shows (accepted d) status torn old new = Accepted d × ((a : Accepted d) → IsReported (report_of d a) status torn old new)

-- a check of these bytes with this status, whose writer failed or not, and had taken the first bytes before and the last after it
pub record Checked (bytes : List ℕ) (status : ℕ) (torn : Bool) (old new : Option (List ℕ)) : Type 0 where
  pub check : Check
  pub comes : Comes bytes check
  pub shows : Shows check status torn old new
