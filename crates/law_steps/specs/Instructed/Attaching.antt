-- The instructions that attach a source.
use Rattle.std.specs.Prelude.{◌≡◌, Bool, true, false}
use Rattle.ui_machine.specs.Definition.Programs.{Instruction}
use Rattle.ui_machine.specs.Definition.Programs as words
use Rattle.law_steps.specs.Instructed.Running.{IsFine}

-- `idle` and `timeout`
abbrev pub attaches : Instruction → Bool
attaches (words.idle to program priority with) = true
attaches (words.timeout to program priority interval with) = true
attaches _ = false

-- each of them is taken well
abbrev pub AttachmentsAreFine : Type 0
AttachmentsAreFine = (i : Instruction) → attaches i ≡ true → IsFine i
