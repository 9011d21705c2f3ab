-- The end of the build.
use Rattle.std.specs.Prelude.{[]}
use Rattle.ui_machine.specs.State.Tasks.{Building}
use Rattle.law_steps.specs.Tasked.First.{IsFine}

-- it is taken well: each place of the document is built
abbrev pub BuildsEnd : Type 0
BuildsEnd = IsFine (Building [])
