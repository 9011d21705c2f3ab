-- What the laws ask of a dispatch in a turn is met, over lines: two timeouts are ready in the same turn, and the second runs after the first.
use Rattle.std.specs.Prelude.{◌≡◌, pos, [], ◌∷◌, Some}
use Rattle.ui_machine.specs.State.Sources.{Source}
use Rattle.ui_machine.specs.State.Tasks.{turn}
use Rattle.ui_machine.specs.State.Config.{World}
use Rattle.ui_machine.specs.Rules.MainLoop.{ready_at}
use Rattle.law_typing.specs.Laws.WellRead.{WellRead}
use Rattle.law_typing.specs.Verdict.Accepted.{Each, Accepted}
use Rattle.law_typing.specs.Laws.StepsKeepGood.{PoolReady}
use Rattle.law_steps.specs.Served.Dispatches.{Keeps}
use Rattle.law_steps.specs.Served.Sessions.{EventRead, Serves, Runs, Dispatch, turning, entry_to, beginning_of}
use Rattle.law_reading.specs.ReadRuns.{events_in}
use Rattle.worked.specs.Laws.WorkedSources.{definition, lines}

-- the timeout of the second request: number 3, behind a timeout and an idle of the first, and due 100 ms after the moment at which it was attached
abbrev pub second : Source
second = record { number = 3; program = 1; priority = pos 0; interval = Some 100; due = 100; arg = Some 1 }

pub record TurnMet : Type 0 where
  pub well : WellRead definition
  pub accepted : Accepted definition
  pub ready : PoolReady definition []
  pub read : Each (EventRead definition) (events_in definition lines)
  -- both requests have been served
  pub world : World
  pub serves : Serves definition [] (events_in definition lines) (turn 100) world
  pub waiting : ready_at world 100 ≡ 1 ∷ 3 ∷ []
  -- and then the first of the two timeouts has run
  pub mid : World
  pub runs : Runs definition world 100 3 mid second
  pub after_one : runs.before ≡ 1 ∷ []

-- the dispatch of the second one
abbrev pub dispatch : TurnMet → Dispatch definition [] (events_in definition lines)
dispatch met = turning 100 met.world met.serves 3 met.mid second met.runs

-- so it keeps what is promised
pub record TurnKeeps : Type 0 where
  pub met : TurnMet
  pub keeps : Keeps definition met.accepted (entry_to (dispatch met)) (beginning_of (dispatch met))
