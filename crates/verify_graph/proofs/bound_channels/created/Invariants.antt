use Rattle.std.proofs.Common.{◌≡◌, ◌++◌, drop}
use Rattle.law_typing.specs.Graph.{created_by}
use Rattle.verify_graph.specs.ChannelView.{channels_of}
use Rattle.verify_graph.proofs.bound_channels.created.Given as goal

abbrev pub invariant-loop-number : goal.invariant-loop-number
invariant-loop-number l =
    channels_of l.channels.items ++ created_by (drop l.number l.definition.bindings) ≡ created_by l.definition.bindings
