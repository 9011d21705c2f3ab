-- The promise of bytes asks for what is met by a definition with a pair: two properties of two objects that are bound both ways.
use Rattle.std.specs.Prelude.{◌≡◌, ℕ, true, List, [], ◌∷◌, ◌++◌, codes, Some, Ok}
use Rattle.ui_machine.specs.Definition.{Definition}
use Rattle.ui_machine.specs.Definition.Places.{value}
use Rattle.ui_machine.specs.Definition.Values as values
use Rattle.ui_machine.specs.State.Tasks.{Event, request, set}
use Rattle.ui_machine.specs.Words.{bind}
use Rattle.definition_format.specs.Denoted.{denoted}
use Rattle.law_typing.specs.Examples.Pair as pair
use Rattle.law_typing.specs.Laws.StepsKeepGood.{PoolReady}
use Rattle.law_typing.specs.Verdict.{verdict, accepted}
use Rattle.law_typing.specs.Verdict.Accepted.{Accepted}
use Rattle.law_reading.specs.ReadRuns.{events_in}

-- the second switch is bound to the first, and inverted
abbrev pub bytes : List ℕ
bytes =
    codes "{\"format\":1,\"classes\":[{\"name\":\"Switch\",\"properties\":[{\"name\":\"on\",\"kind\":\"bool\"}]}],"
    ++ codes "\"objects\":[{\"id\":\"a\",\"class\":\"Switch\"},"
    ++ codes "{\"id\":\"b\",\"class\":\"Switch\",\"properties\":[{\"name\":\"on\",\"bind\":{\"source\":\"a\",\"property\":\"on\","
    ++ codes "\"flags\":[\"bidirectional\",\"sync-create\",\"invert-boolean\"],\"name\":\"link\"}}]}]}\n"

-- the definition of the pair, whose binding has a name
abbrev pub definition : Definition
definition = record pair.definition { bindings = bind (Some (codes "link")) 0 0 1 0 7 0 ∷ [] }

-- each end is set once
abbrev pub lines : List (List ℕ)
lines =
    codes "{\"set\":[\"a\",\"on\",true]}"
    ∷ codes "{\"set\":[\"b\",\"on\",true]}"
    ∷ []

abbrev pub events : List Event
events =
    request (set 0 0 (value (values.bool true)))
    ∷ request (set 1 0 (value (values.bool true)))
    ∷ []

pub record PairMet : Type 0 where
  pub read : denoted bytes ≡ Ok definition
  pub judged : verdict definition ≡ accepted pair.lines
  pub accepted : Accepted definition
  pub ready : PoolReady definition []
  pub events : events_in definition lines ≡ events
