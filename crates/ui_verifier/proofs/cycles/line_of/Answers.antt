use Rattle.std.proofs.Common.{◌≡◌, ◌∙◌, sym, ◌+◌, arith}
use Rattle.verify_graph.specs.ChannelView.{channel_of}
use Rattle.ui_verifier.specs.Cycles.{line_among}
use Rattle.ui_verifier.proofs.CycleProofs.{line_is, no_line}
use Rattle.ui_verifier.proofs.cycles.line_of.Goals as goal

pub returns-in-Some : goal.returns-in-Some
returns-in-Some c =
    let e = line_is 0 c.args.channels.now (channel_of c.args.channel.now) c.in-Some.number (sym c.number.ensures.number ∙ c.in-Some.is) in
    let z : 0 + line_among c.args.channels.now (channel_of c.args.channel.now) ≡ line_among c.args.channels.now (channel_of c.args.channel.now) = omega arith in
    e ∙ z

pub returns-in-None : goal.returns-in-None
returns-in-None c =
    c.count.ensures.count ∙ sym (no_line 0 c.args.channels.now (channel_of c.args.channel.now) (sym c.number.ensures.number ∙ c.in-None.is))
