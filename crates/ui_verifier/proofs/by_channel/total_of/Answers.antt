use Rattle.std.proofs.Common.{◌≡◌, ◌∙◌, sym, ap, ◌<◌, ◌+◌, ◌∷◌, drop, length, map, arith}
use Rattle.ui_machine.specs.Seq.{total}
use Rattle.law_typing.specs.Laws.Capped.{capped}
use Rattle.verify_graph.specs.ChannelView.{channel_of, channels_of}
use Rattle.verify_operands.proofs.MappedLists.{from_end}
use Rattle.ui_verifier.specs.ByChannel.{transfers_cost}
use Rattle.ui_verifier.proofs.Sums.{from_got, capped_one, capped_twice, sum_ends, sum_goes_on}
use Rattle.ui_verifier.proofs.by_channel.total_of.Goals as goal

pub loop-number-preserved : goal.loop-number-preserved
loop-number-preserved c =
    let n = c.loop-number.number in
    let x = c.channel_at.result in
    let parts = from_got (channels_of c.args.all.now) n (channel_of x) c.channel_at.ensures in
    record {
      within = ap capped c.capped_sum-sum.ensures ∙ (capped_twice (c.loop-number.sum + c.value_of-cost.result) ∙ sym c.capped_sum-sum.ensures);
      so_far = λ f gives.
          sum_goes_on c.loop-number.sum (c.value_of-cost.result) c.capped_sum-sum.result (total f (drop (n + 1) (channels_of c.args.all.now))) (f (channel_of x)) (capped (total f (channels_of c.args.all.now)))
          c.capped_sum-sum.ensures (c.value_of-cost.ensures.given (λ y. capped (f y)) gives)
          (ap (λ cs. capped (c.loop-number.sum + total f cs)) (sym parts) ∙ c.loop-number.invariant.so_far f gives);
    }

pub returns : goal.returns
returns c = λ f gives.
    sum_ends c.loop-number.sum (capped (total f (channels_of c.args.all.now))) c.loop-number.invariant.within
    (ap (λ cs. capped (c.loop-number.sum + total f cs)) (sym (from_end channel_of c.args.all.now c.loop-number.number c.loop-number-test.false))
    ∙ c.loop-number.invariant.so_far f gives)
