use Rattle.verify_graph.specs.ChannelView.{channels_of}
use Rattle.verify_graph.specs.Numbering.{AreNumbered}
use Rattle.verify_graph.proofs.channel_numbers.numbers_of.Given as goal

abbrev pub invariant-loop-number : goal.invariant-loop-number
invariant-loop-number l = AreNumbered (channels_of l.channels) l.numbers l.number
