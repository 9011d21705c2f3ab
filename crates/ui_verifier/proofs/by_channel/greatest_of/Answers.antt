use Rattle.std.proofs.Common.{◌≡◌, ◌∙◌, sym, ap, ◌<◌, ◌+◌, max, drop, length, arith}
use Rattle.law_typing.specs.Graph.Tables.{greatest}
use Rattle.verify_graph.specs.ChannelView.{channel_of, channels_of}
use Rattle.verify_operands.proofs.MappedLists.{from_end}
use Rattle.ui_verifier.proofs.Sums.{from_got, most_ends, most_goes_on}
use Rattle.ui_verifier.proofs.by_channel.greatest_of.Goals as goal

pub loop-number-preserved : goal.loop-number-preserved
loop-number-preserved c =
    let n = c.loop-number.number in
    let x = c.channel_at.result in
    let parts = from_got (channels_of c.args.all.now) n (channel_of x) c.channel_at.ensures in
    let e : c.max-most.result ≡ max c.loop-number.most c.value_of.result = omega (arith, c.max-most.ensures) in
    record {
      few = λ most within. (let a = c.loop-number.invariant.few most within in let b = c.value_of.ensures.few most within in omega (arith, a, b, e));
      so_far = λ f gives.
          ap (λ m. max m (greatest f (drop (n + 1) (channels_of c.args.all.now)))) (e ∙ ap (λ m. max c.loop-number.most m) (c.value_of.ensures.given f gives))
          ∙ (most_goes_on c.loop-number.most (f (channel_of x)) (greatest f (drop (n + 1) (channels_of c.args.all.now)))
          ∙ (ap (λ cs. max c.loop-number.most (greatest f cs)) (sym parts) ∙ c.loop-number.invariant.so_far f gives));
    }

pub returns-clause-given : goal.returns-clause-given
returns-clause-given c = λ f gives.
    most_ends c.loop-number.most
    ∙ (ap (λ cs. max c.loop-number.most (greatest f cs)) (sym (from_end channel_of c.args.all.now c.loop-number.number c.loop-number-test.false))
    ∙ c.loop-number.invariant.so_far f gives)
