-- The instruction that stops the emission below its program.
use Rattle.ui_machine.specs.Definition.Programs as words
use Rattle.law_steps.specs.Instructed.Running.{IsFine}

-- it is taken well, whatever lies below the program
abbrev pub StopsAreFine : Type 0
StopsAreFine = IsFine words.stop
