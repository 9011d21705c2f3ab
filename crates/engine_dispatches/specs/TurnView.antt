-- What a turn of the main loop comes to.
use Rattle.std.specs.Prelude.{◌≡◌, ◌≤◌, ◌+◌, ◌*◌, ℕ, List, length}
use Rattle.ui_machine.specs.Definition.{Definition}
use Rattle.ui_machine.specs.Rules.MainLoop.{ready_at, turned}
use Rattle.ui_machine.specs.State.Config.{World}
use Rattle.ui_machine.specs.Steps.{most_steps}
use Rattle.engine_dispatches.specs.declared.dispatches.Reply as code

-- a reply counts no more dispatches than sources may be attached, and of each no more steps than it may have
pub record IsSmall (left : List ℕ) (reply : code.Reply) : Type 0 where
  pub dispatches : reply.dispatches + length left ≤ 256
  pub steps : reply.steps ≤ reply.dispatches * most_steps

-- a turn has begun: these sources are to run, and its line is said
pub record TurnBegins (d : Definition) (moment : ℕ) (w : World) (numbers : List ℕ) (now : World) : Type 0 where
  pub ready : numbers ≡ ready_at w moment
  pub world : now ≡ turned d w moment
  pub few : length numbers ≤ 256
