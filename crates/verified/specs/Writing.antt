-- What came to a writer of some lines.
use Rattle.std.specs.Prelude.{◌≡◌, ℕ, Bool, true, false, List, ◌++◌, codes, flat_map, Option, Result, Ok, Err}
use Rattle.std.specs.Io.KnownBytes.{Appends}
use Rattle.verified.specs.declared.faults.ReportFault.{ReportFault}
use Rattle.verified.specs.declared.faults.ReportFault.TheVariants as faults

-- lines, each with its LF
abbrev pub lines_text : List (List ℕ) → List ℕ
lines_text lines = flat_map (λ line. line ++ codes "\n") lines

-- a front of the text came
pub record AppendsPart (old new : Option (List ℕ)) (text : List ℕ) : Type 0 where
  pub part : List ℕ
  pub more : List ℕ
  pub split : text ≡ part ++ more
  pub appends : Appends old new part

-- the first lines came, each whole
pub record AppendsLines (old new : Option (List ℕ)) (lines : List (List ℕ)) : Type 0 where
  pub first : List (List ℕ)
  pub more : List (List ℕ)
  pub split : lines ≡ first ++ more
  pub appends : Appends old new (lines_text first)

-- all of the text, or a part of it and then a fault
abbrev pub Writes : {T E : Type 0} → Result T E → Option (List ℕ) → Option (List ℕ) → List ℕ → Type 0
Writes (Ok _) old new text = Appends old new text
Writes (Err _) old new text = AppendsPart old new text

-- a part of the lines' bytes, where the writer failed, or the first lines, where no memory was found for the next one
abbrev pub Stops : ReportFault → Option (List ℕ) → Option (List ℕ) → List (List ℕ) → Type 0
Stops faults.WriteFault old new lines = AppendsPart old new (lines_text lines)
Stops faults.OutOfMemory old new lines = AppendsLines old new lines

-- all lines, or what came before a fault
abbrev pub Reports : {T : Type 0} → Result T ReportFault → Option (List ℕ) → Option (List ℕ) → List (List ℕ) → Type 0
Reports (Ok _) old new lines = Appends old new (lines_text lines)
Reports (Err fault) old new lines = Stops fault old new lines

-- an answer says whether the writer failed
abbrev pub IsMarked : {T : Type 0} → Result T ReportFault → Bool → Type 0
IsMarked (Ok _) failed = failed ≡ false
IsMarked (Err faults.WriteFault) failed = failed ≡ true
IsMarked (Err faults.OutOfMemory) failed = failed ≡ false
