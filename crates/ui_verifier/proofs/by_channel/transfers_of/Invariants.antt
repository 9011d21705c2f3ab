use Rattle.std.proofs.Common.{◌≡◌, ℕ, ◌+◌, drop}
use Rattle.ui_machine.specs.Seq.{total}
use Rattle.law_typing.specs.Graph.Channels.{Channel}
use Rattle.law_typing.specs.Laws.Capped.{capped}
use Rattle.verify_graph.specs.ChannelView.{channels_of}
use Rattle.ui_verifier.specs.ByChannel.{GivesCapped, transfers_cost}
use Rattle.ui_verifier.proofs.by_channel.transfers_of.Given as goal

abbrev pub invariant-loop-number : goal.invariant-loop-number
invariant-loop-number l = record {
  within : capped l.sum ≡ l.sum;
  so_far : (f : Channel → ℕ) → GivesCapped l.channels l.values f →
      capped (l.sum + transfers_cost f (drop l.number (channels_of l.all))) ≡ capped (transfers_cost f (channels_of l.all));
}
