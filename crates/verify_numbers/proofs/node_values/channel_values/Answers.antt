use Rattle.std.proofs.Common.{◌≡◌, ◌∙◌, sym, ap, ◌++◌, ◌∷◌, [], ◌+◌, length, arith}
use Rattle.verify_numbers.specs.Tables.{value_of}
use Rattle.verify_sketches.specs.View.{sketch_view}
use Rattle.verify_numbers.specs.Counts.{at_in}
use Rattle.ui_machine.specs.Seq.{listed}
use Rattle.verify_numbers.proofs.Lists.{listed_more}
use Rattle.verify_numbers.proofs.node_values.channel_values.Goals as goal

pub loop-channel-preserved : goal.loop-channel-preserved
loop-channel-preserved c =
    let s = sketch_view c.args.sketch.now in
    let f = value_of s (at_in s) c.args.values.now in
    let n = c.loop-channel.channel in
    c.in_ok-push.ensures.items
    ∙ (ap (λ x. c.loop-channel.numbers.items ++ x ∷ []) c.channel_value.ensures
    ∙ (ap (λ xs. xs ++ f n ∷ []) c.loop-channel.invariant ∙ sym (listed_more f n)))

pub returns : goal.returns
returns c =
    let s = sketch_view c.args.sketch.now in
    let e : c.loop-channel.channel ≡ length c.args.sketch.now.channels.items =
    omega (arith, c.len-channel-end.ensures, c.loop-channel-test.false, c.loop-channel.auto, c.args.sketch.now.channels.ok.0) in
    c.loop-channel.invariant ∙ ap (listed (value_of s (at_in s) c.args.values.now)) e
