-- What the promise asks is met: by a worked definition, whose pool has a peer, and events of all sorts.
use Rattle.std.specs.Prelude.{List, [], ◌∷◌, None}
use Rattle.ui_machine.specs.State.Tasks.{Event, request, turn, get, emit, release}
use Rattle.law_typing.specs.Examples.LastReference.{definition}
use Rattle.law_typing.specs.Verdict.Accepted.{Each, Accepted}
use Rattle.law_typing.specs.Laws.Beginnings.{tally}
use Rattle.law_typing.specs.Laws.WellRead.{WellRead}
use Rattle.law_typing.specs.Laws.StepsKeepGood.{PoolReady}
use Rattle.law_steps.specs.Served.Sessions.{EventRead}

-- `go` makes an item that has the peer, connects to it and sets it as `cur`; `fire` lets `cur` emit, which calls the peer
abbrev pub events : List Event
events = request (emit 0 1 [] None) ∷ request (emit 0 2 [] None) ∷ turn 5 ∷ request (get 0 0) ∷ request (release 0) ∷ []

pub record PremisesMet : Type 0 where
  pub well : WellRead definition
  pub accepted : Accepted definition
  pub ready : PoolReady definition (tally ∷ [])
  pub read : Each (EventRead definition) events
