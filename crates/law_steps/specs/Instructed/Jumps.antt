-- The instructions that go on at the beginning of another block.
use Rattle.std.specs.Prelude.{◌≡◌, Bool, true, false}
use Rattle.ui_machine.specs.Definition.Programs.{Instruction}
use Rattle.ui_machine.specs.Definition.Programs as words
use Rattle.law_steps.specs.Instructed.Running.{IsFine}

-- `jump`, `if` and `ifnull`
abbrev pub jumps : Instruction → Bool
jumps (words.jump to) = true
jumps (words.branch on then_to else_to) = true
jumps (words.branch_null on then_to else_to) = true
jumps _ = false

-- each of them is taken well
abbrev pub JumpsAreFine : Type 0
JumpsAreFine = (i : Instruction) → jumps i ≡ true → IsFine i
