use Rattle.std.proofs.Common.{◌∙◌, ap, cond, Some}
use Rattle.std.specs.BTreeMap.{get, is_at}
use Rattle.verify_graph.specs.ChannelView.{channel_of, channels_of}
use Rattle.verify_graph.specs.Numbering.{compared}
use Rattle.verify_graph.proofs.Numbered.{one_numbered}
use Rattle.verify_graph.proofs.channel_numbers.numbers_of.Goals as goal

pub loop-number-preserved : goal.loop-number-preserved
loop-number-preserved c =
    let number = c.loop-number.number in
    let old = c.loop-number.numbers in
    one_numbered (channels_of c.args.channels.now) old c.insert.new.self number (channel_of c.channel_at-channel.result) c.loop-number.invariant
    c.channel_at-channel.ensures
    (λ k. c.in_ok-insert.ensures.updates.0 k ∙ ap (λ x. cond (is_at (compared x) k) (Some number) (get compared old k)) c.key_of.ensures)
