-- The instructions that give an object a parent, or take it from its parent.
use Rattle.std.specs.Prelude.{◌≡◌, Bool, true, false}
use Rattle.ui_machine.specs.Definition.Programs.{Instruction}
use Rattle.ui_machine.specs.Definition.Programs as words
use Rattle.law_steps.specs.Instructed.Running.{IsFine}

-- `orphan` and `adopt`
abbrev pub changes_family : Instruction → Bool
changes_family (words.orphan object) = true
changes_family (words.adopt to parent child) = true
changes_family _ = false

-- each of them is taken well
abbrev pub FamiliesAreFine : Type 0
FamiliesAreFine = (i : Instruction) → changes_family i ≡ true → IsFine i
