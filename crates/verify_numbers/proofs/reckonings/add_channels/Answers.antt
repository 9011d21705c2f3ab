use Rattle.std.proofs.Common.{◌++◌}
use Rattle.verify_sketches.specs.View.{sketch_view}
use Rattle.verify_numbers.specs.Laid.{channel_nodes}
use Rattle.verify_numbers.specs.declared.channel_nodes.ChannelPart.TheVariants as of_channel
use Rattle.verify_numbers.proofs.Rows.{then_more}
use Rattle.verify_numbers.proofs.reckonings.add_channels.Goals as goal

pub returns : goal.returns
returns c =
    let s = sketch_view c.args.sketch.now in
    then_more c.args.nodes.now c.add_channel_parts.new.nodes c.add_channel_parts-4.new.nodes (channel_nodes s c.args.handlers of_channel.Whole) (channel_nodes s c.args.handlers of_channel.Own ++ (channel_nodes s c.args.handlers of_channel.Stages ++ (channel_nodes s c.args.handlers of_channel.Connected))) c.in_ok-add_channel_parts.ensures
    (then_more c.add_channel_parts.new.nodes c.add_channel_parts-2.new.nodes c.add_channel_parts-4.new.nodes (channel_nodes s c.args.handlers of_channel.Own) (channel_nodes s c.args.handlers of_channel.Stages ++ (channel_nodes s c.args.handlers of_channel.Connected)) c.in_ok-add_channel_parts-2.ensures
    (then_more c.add_channel_parts-2.new.nodes c.add_channel_parts-3.new.nodes c.add_channel_parts-4.new.nodes (channel_nodes s c.args.handlers of_channel.Stages) (channel_nodes s c.args.handlers of_channel.Connected) c.in_ok-add_channel_parts-3.ensures
    (c.in_ok-add_channel_parts-4.ensures)))
