-- The instructions that write one register by what others hold.
use Rattle.std.specs.Prelude.{◌≡◌, Bool, true, false}
use Rattle.ui_machine.specs.Definition.Programs.{Instruction}
use Rattle.ui_machine.specs.Definition.Programs as words
use Rattle.law_steps.specs.Instructed.Running.{IsFine}

-- constants, copies, arithmetic, comparisons, truth values, texts and conversions
abbrev pub writes_register : Instruction → Bool
writes_register (words.const to kind v) = true
writes_register (words.move to from) = true
writes_register (words.clear to) = true
writes_register (words.arithmetic operation to a b) = true
writes_register (words.compare comparison to a b) = true
writes_register (words.same to a b) = true
writes_register (words.negate to a) = true
writes_register (words.both to a b) = true
writes_register (words.either to a b) = true
writes_register (words.join to a b) = true
writes_register (words.convert to a kind) = true
writes_register _ = false

-- each of them is taken well
abbrev pub RegistersAreFine : Type 0
RegistersAreFine = (i : Instruction) → writes_register i ≡ true → IsFine i
