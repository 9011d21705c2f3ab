use Rattle.std.proofs.Common.{◌≡◌, ◌++◌, drop, map}
use Rattle.definition_format.specs.Meaning.{given_property}
use Rattle.verify_graph.specs.ChannelView.{channels_of}
use Rattle.verify_graph.specs.Makings.{forwards_in}
use Rattle.verify_graph.proofs.forward_values.add_forwards.Given as goal

abbrev pub invariant-loop-number : goal.invariant-loop-number
invariant-loop-number l =
    channels_of l.channels.items ++ forwards_in l.lookups l.place.0 (drop l.number (map given_property l.given))
    ≡ channels_of l.initial.channels.items ++ forwards_in l.lookups l.place.0 (map given_property l.given)
