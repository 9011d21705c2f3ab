use Rattle.std.proofs.Common.{◌≡◌, map, take}
use Rattle.verify_graph.specs.ChannelView.{channel_of}
use Rattle.verify_channels.specs.Connected.{group_view}
use Rattle.verify_channels.specs.Meanings.{meant}
use Rattle.verify_channels.proofs.connections.groups_for.Given as goal

abbrev pub invariant-loop-number : goal.invariant-loop-number
invariant-loop-number l = l.found.items ≡ meant (channel_of l.channel) (take l.number (map group_view l.groups))
