use Rattle.std.proofs.Common.{◌∙◌, ap}
use Rattle.verify_graph.specs.ChannelView.{channel_of}
use Rattle.verified.specs.Told.{value_among}
use Rattle.verified.proofs.LookUps.{rank_read}
use Rattle.verified.proofs.verified.Verified.rank_of.Goals as goal

pub returns : goal.returns
returns c there =
    rank_read c.self.invariant c.self.view_is (channel_of c.args.channel.now) c.value_of.result
    (c.value_of.ensures ∙ ap (λ values. value_among c.self.inside.busy values 0 (channel_of c.args.channel.now)) c.as_slice-ranks.ensures.value) there
