use Rattle.std.proofs.Common.{◌≡◌, map, take}
use Rattle.verify_graph.specs.ChannelView.{channel_of}
use Rattle.verify_channels.specs.Attached.{handler_view}
use Rattle.verify_channels.specs.Meanings.{meant}
use Rattle.verify_channels.proofs.attached_handlers.programs_for.Given as goal

abbrev pub invariant-loop-number : goal.invariant-loop-number
invariant-loop-number l = l.programs.items ≡ meant (channel_of l.channel) (take l.number (map handler_view l.handlers))
