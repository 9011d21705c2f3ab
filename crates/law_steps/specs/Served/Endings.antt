-- A dispatch comes to its end: steps that are not counted cannot go on for ever.
use Rattle.std.specs.Prelude.{Option, IfSome}
use Rattle.ui_machine.specs.Definition.{Definition}
use Rattle.ui_machine.specs.State.Peers.{Reply}
use Rattle.ui_machine.specs.State.Config.{Config}
use Rattle.ui_machine.specs.Runs.{Fits, Step, HasEnded}
use Rattle.law_steps.specs.Served.Replies.{GoesOn}

-- Whatever its peers reply, as long as it fits, the dispatch comes from here to its end: it has ended, or there is a next step, and from
-- each next one it comes to its end.
pub data ComesToEnd (d : Definition) : Config → Type 0 where
  ended : (c : Config) → HasEnded d c → ComesToEnd d c
  goes : (c : Config) → GoesOn d c →
      ((reply : Option Reply) → IfSome reply (Fits d) → (next : Config) → Step d reply c next → ComesToEnd d next) → ComesToEnd d c
