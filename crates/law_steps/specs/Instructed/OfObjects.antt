-- The instructions that read what an object has or what the builder holds, and those that let go of a handler, a binding, a source or a
-- float.
use Rattle.std.specs.Prelude.{◌≡◌, Bool, true, false}
use Rattle.ui_machine.specs.Definition.Programs.{Instruction}
use Rattle.ui_machine.specs.Definition.Programs as words
use Rattle.law_steps.specs.Instructed.Running.{IsFine}

-- `get` and `object`
abbrev pub reads_object : Instruction → Bool
reads_object (words.get to object name) = true
reads_object (words.object to id) = true
reads_object _ = false

-- each of them is taken well
abbrev pub ReadsAreFine : Type 0
ReadsAreFine = (i : Instruction) → reads_object i ≡ true → IsFine i

-- `sink`, `disconnect`, `block`, `unblock`, `unbind` and `remove`
abbrev pub lets_go : Instruction → Bool
lets_go (words.sink object) = true
lets_go (words.disconnect object program) = true
lets_go (words.block object program) = true
lets_go (words.unblock object program) = true
lets_go (words.unbind name) = true
lets_go (words.remove program) = true
lets_go _ = false

-- and so are these
abbrev pub ReleasesAreFine : Type 0
ReleasesAreFine = (i : Instruction) → lets_go i ≡ true → IsFine i
