use Rattle.std.proofs.Common.{sym, subst, List, arith}
use Rattle.std.proofs.lemmas.List.{length-map}
use Rattle.law_typing.specs.Graph.Channels.{Channel}
use Rattle.verify_graph.specs.ChannelView.{channel_of}
use Rattle.verify_graph.specs.Numbers.{IsOnce}
use Rattle.verify_graph.proofs.Once.{channels_once}
use Rattle.verify_graph.proofs.channel_numbers.ChannelNumbers.new.Goals as goal

pub invariant_of-result : goal.invariant_of-result
invariant_of-result c = (
  rw c.as_slice.ensures.value at c.in_ok-numbers.ensures,
  record {
    once = subst (λ (cs : List Channel). IsOnce cs) (sym c.in_ok-channels.ensures.channels) (channels_once c.args.lookups.now);
    few = (let e = length-map c.in_ok-channels.channels.items channel_of in omega (arith, e, c.in_ok-channels.ensures.few));
  },
)
