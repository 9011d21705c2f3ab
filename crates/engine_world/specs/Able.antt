-- Parts of a step that no arm stops, and what code leads to there: it asks for memory alone.
use Rattle.std.specs.Prelude.{◌≡◌, ⊤, IfOk, Result, Ok, Err}
use Rattle.std.specs.declared.alloc.AllocError.{AllocError}
use Rattle.ui_machine.specs.Outcome.{Answer}
use Rattle.ui_machine.specs.State.Config.{Config}
use Rattle.law_typing.specs.Good.Living.{TaskNamesLiving}
use Rattle.law_typing.specs.Verdict.Accepted.{Each}
use Rattle.engine_world.specs.Standing.{without_gone}

-- no arm stops it
abbrev pub Able : {A : Type 0} → Answer A → Type 0
Able (Ok x) = ⊤
Able (Err arm) = ⊥

-- its tasks name what lives
abbrev pub TasksNameLiving : Config → Type 0
TasksNameLiving c = Each (TaskNamesLiving c.world) c.agenda

-- what it leads to, if no arm stops it, has tasks that name what lives
abbrev pub LeadsToLiving : Answer Config → Type 0
LeadsToLiving answer = IfOk answer TasksNameLiving

-- where memory is found, code leads to just what the machine's part leads to
abbrev pub Leads : {S X : Type 0} → Result X AllocError → Answer S → S → Type 0
Leads (Ok x) answer new = answer ≡ Ok new
Leads (Err _) answer new = ⊤

-- the machine's part leads there, but for the turns of handlers that are gone by then
abbrev pub ComesWithoutGone : Answer Config → Config → Type 0
ComesWithoutGone answer new = (e : Config) × (answer ≡ Ok e) × (without_gone e ≡ new)

-- where memory is found, code leads to what the machine's part leads to, but for those turns
abbrev pub LeadsWithoutGone : {X : Type 0} → Result X AllocError → Answer Config → Config → Type 0
LeadsWithoutGone (Ok x) answer new = ComesWithoutGone answer new
LeadsWithoutGone (Err _) answer new = ⊤
