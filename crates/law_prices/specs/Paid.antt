-- What is kept beside what is good: the handlers of each channel are among those that the graph has there, so that the channel's price is
-- paid for them by any price list.
use Rattle.std.specs.Prelude.{ℕ, List, []}
use Rattle.ui_machine.specs.Definition.{Definition}
use Rattle.ui_machine.specs.State.Config.{Config, World}
use Rattle.ui_machine.specs.State.Handlers.{Handler}
use Rattle.ui_machine.specs.State.Tasks.{Task}
use Rattle.law_typing.specs.Good.Handlers.{HandlersGood}
use Rattle.law_typing.specs.Good.Standing.{Standing, standing}
use Rattle.law_typing.specs.Graph.Tables.{Tables}
use Rattle.law_typing.specs.Verdict.Accepted.{Accepted}

-- whatever the programs cost, the handlers cost no more together than is reckoned for them
abbrev pub HandlersPaid : (d : Definition) → Accepted d → Standing → List Task → (last : ℕ) → List Handler → Type 0
HandlersPaid d a s agenda last hs = (costs : Tables) → HandlersGood d costs a.weighed.depths s agenda last hs

abbrev pub Paid : (d : Definition) → Accepted d → Config → Type 0
Paid d a c = HandlersPaid d a (standing c.world.objects) c.agenda c.world.last_handler c.world.handlers

-- between dispatches
abbrev pub PaidAtRest : (d : Definition) → Accepted d → World → Type 0
PaidAtRest d a w = HandlersPaid d a (standing w.objects) [] w.last_handler w.handlers
