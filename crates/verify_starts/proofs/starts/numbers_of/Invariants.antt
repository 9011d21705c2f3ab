use Rattle.std.proofs.Common.{◌≡◌, take}
use Rattle.verify_graph.specs.ChannelView.{channels_of}
use Rattle.verify_graph.specs.Numbers.{numbers_of}
use Rattle.verify_starts.proofs.starts.numbers_of.Given as goal

abbrev pub invariant-loop-number : goal.invariant-loop-number
invariant-loop-number l = l.found.items ≡ numbers_of l.numbers (take l.number (channels_of l.channels))
