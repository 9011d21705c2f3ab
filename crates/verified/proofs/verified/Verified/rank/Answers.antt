use Rattle.verify_graph.specs.ChannelView.{channel_of}
use Rattle.verified.proofs.LookUps.{has_channel}
use Rattle.verified.proofs.verified.Verified.rank.Goals as goal

pub returns : goal.returns
returns c = c.rank_of.ensures (has_channel c.args.self.now (channel_of c.args.channel) c.requires)
