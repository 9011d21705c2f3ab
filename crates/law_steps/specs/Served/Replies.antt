-- What a peer may always reply.
use Rattle.std.specs.Prelude.{◌≡◌, Option, IfSome}
use Rattle.ui_machine.specs.Definition.{Definition}
use Rattle.ui_machine.specs.State.Peers.{Question, Reply}
use Rattle.ui_machine.specs.State.Config.{Config}
use Rattle.ui_machine.specs.Runs.{Fits, Step}

-- to each question there is a reply that fits
abbrev pub QuestionsAreAnswered : Type 0
QuestionsAreAnswered = (d : Definition) (q : Question) → (r : Reply) × (r.question ≡ q) × Fits d r

-- a next step is there, with a reply that fits
pub record GoesOn (d : Definition) (c : Config) : Type 0 where
  pub reply : Option Reply
  pub fits : IfSome reply (Fits d)
  pub next : Config
  pub step : Step d reply c next
