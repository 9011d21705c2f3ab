use Rattle.std.proofs.Common.{◌∙◌, ap}
use Rattle.verify_graph.specs.ChannelView.{channel_of}
use Rattle.verified.specs.Told.{value_among}
use Rattle.verified.proofs.LookUps.{bound_read}
use Rattle.verified.proofs.verified.Verified.bound_of.Goals as goal

pub returns : goal.returns
returns c there =
    bound_read c.self.invariant c.self.view_is (channel_of c.args.channel.now) c.value_of.result
    (c.value_of.ensures ∙ ap (λ values. value_among c.self.inside.busy values c.self.inside.numbers.idle (channel_of c.args.channel.now)) c.as_slice-bounds.ensures.value) there
