use Rattle.std.proofs.Common.{◌≡◌, ◌++◌, drop}
use Rattle.law_typing.specs.Graph.{forwards_from}
use Rattle.verify_graph.specs.ChannelView.{channels_of}
use Rattle.verify_graph.proofs.forward_values.forwards.Given as goal

abbrev pub invariant-loop-number : goal.invariant-loop-number
invariant-loop-number l =
    channels_of l.channels.items ++ forwards_from l.lookups l.number (drop l.number l.lookups.places) ≡ forwards_from l.lookups 0 l.lookups.places
