use Rattle.std.proofs.Common.{◌≡◌, ◌∙◌, sym, ap, subst, slice_index_or, arith}
use Rattle.ui_verifier.specs.ByChannel.{Gives}
use Rattle.ui_verifier.proofs.Sums.{value_at}
use Rattle.verify_graph.specs.ChannelView.{channel_of}
use Rattle.ui_verifier.proofs.by_channel.value_of.Goals as goal

pub returns-in-Some-clause-given : goal.returns-in-Some-clause-given
returns-in-Some-clause-given c = λ f gives.
    value_at f c.args.channels.now c.args.values.now c.in-Some.number (channel_of c.args.channel.now) gives.same c.in-Some.ensures.found

pub returns-in-None-clause-given : goal.returns-in-None-clause-given
returns-in-None-clause-given c = λ f gives. sym (gives.none (channel_of c.args.channel.now) c.in-None.ensures.none)
