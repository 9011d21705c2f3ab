-- Properties that are bound both ways.
use Rattle.std.specs.Prelude.{List, map}
use Rattle.law_typing.specs.Graph.Channels.{Channel}
use Rattle.verify_graph.specs.ChannelView.{channel_of}
use Rattle.verify_graph.specs.declared.bound_channels.Pair.{Pair}

abbrev pub pair_view : Pair → Channel × Channel
pair_view p = (channel_of p.first, channel_of p.second)

abbrev pub pairs_view : List Pair → List (Channel × Channel)
pairs_view ps = map pair_view ps
