-- The numbers of statuses.
use Rattle.std.specs.Prelude.{ℕ}
use Rattle.c_sessions.specs.declared.status.Status.{Status}
use Rattle.c_sessions.specs.declared.status.Status.TheVariants as statuses

abbrev pub code_of : Status → ℕ
code_of statuses.Done = 0
code_of statuses.DefinitionRefused = 1
code_of statuses.NoSession = 2
code_of statuses.Stopped = 3
code_of statuses.LineRefused = 5
code_of statuses.UnderWay = 6
code_of statuses.Busy = 7
code_of statuses.NoMemory = 8
code_of statuses.AtRest = 9
