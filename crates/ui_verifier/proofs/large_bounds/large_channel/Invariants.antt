use Rattle.std.proofs.Common.{◌≡◌, drop}
use Rattle.ui_machine.specs.Definition.{Definition}
use Rattle.law_typing.specs.Graph.Channels.{channels}
use Rattle.law_typing.specs.Graph.Tables.{Table, Tables}
use Rattle.law_idle.specs.Idle.{busy_channels}
use Rattle.ui_verifier.specs.Bounds.{AreCapped}
use Rattle.ui_verifier.specs.Large.{large_channel}
use Rattle.ui_verifier.proofs.large_bounds.large_channel.Given as goal

abbrev pub invariant-loop-number : goal.invariant-loop-number
invariant-loop-number l =
    (d : Definition) (by_rank : Table) (by_cost by_depth : Tables) → AreCapped d l.numbers by_rank by_cost by_depth → l.busy ≡ busy_channels d →
    large_channel d by_cost (drop l.number (busy_channels d)) ≡ large_channel d by_cost (channels d)
