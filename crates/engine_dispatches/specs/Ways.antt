-- What a call of a session may come to.
use Rattle.std.specs.Prelude.{◌≡◌, ℕ, List}
use Rattle.ui_machine.specs.declared.arm.Halt.TheVariants as halts
use Rattle.ui_machine.specs.Definition.{Definition}
use Rattle.ui_machine.specs.Runs.{Carries, HaltsIn, Serves, Tally, at_a_source, at_its_beginning}
use Rattle.ui_machine.specs.State.Config.{Config, World}
use Rattle.ui_machine.specs.State.Peers.{Peer, Reply}
use Rattle.ui_machine.specs.State.Tasks.{Event}
use Rattle.ui_machine.specs.State.Tasks as config
use Rattle.native_peers.specs.Seen.{Relations}
use Rattle.engine_dispatches.specs.declared.dispatches.Reply as code
use Rattle.engine_dispatches.specs.Following.{Halting}
use Rattle.engine_dispatches.specs.PoolView.{IsLeft, Replied}

-- what a reply counts
abbrev pub tally_of : code.Reply → Tally
tally_of reply = record { dispatches = reply.dispatches; steps = reply.steps }

-- What a call may come to: a part of a run with these counts that leads to a world; or a part of one that has shown these lines, and then
-- no memory is found, and these peers are left.
pub record Ways : Type 1 where
  pub to : Tally → World → Type 0
  pub breaks_off : List Peer → List (List ℕ) → Type 0

-- one dispatch from a configuration
abbrev pub carrying_out : Relations → Definition → Config → Ways
carrying_out may d c = record {
  to = λ tally new. Replied may (λ replies. Carries d c replies tally new);
  breaks_off = λ left shown. Replied may (λ replies. Halting d may replies c left shown);
}

-- the peers that an event leaves for which no memory was found
abbrev pub EventLeaves : (d : Definition) (may : Relations) (event : Event) (replies : List Reply) (w : World) (shown : List (List ℕ)) →
    HaltsIn d event replies w halts.OutOfMemory shown → List Peer → Type 0
EventLeaves d may (config.request r) replies w shown h left = IsLeft d may h.at left
EventLeaves d may (config.turn moment) replies w shown (at_its_beginning stops) left = w.peers ≡ left
EventLeaves d may (config.turn moment) replies w shown (at_a_source h) left = IsLeft d may h.halts.at left

-- an event for which no memory was found after these replies and lines, and these peers are left
pub record CutOff (d : Definition) (may : Relations) (event : Event) (replies : List Reply) (w : World) (left : List Peer) (shown : List (List ℕ)) : Type 0 where
  pub halts : HaltsIn d event replies w halts.OutOfMemory shown
  pub leaves : EventLeaves d may event replies w shown halts left

-- an event, from a world
abbrev pub serving : Relations → Definition → World → Event → Ways
serving may d w event = record {
  to = λ tally new. Replied may (λ replies. Serves d event replies w tally new);
  breaks_off = λ left shown. Replied may (λ replies. CutOff d may event replies w left shown);
}
