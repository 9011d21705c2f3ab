use Rattle.std.proofs.Common.{◌≡◌, ◌≤◌, ℕ, max, drop}
use Rattle.law_typing.specs.Graph.Channels.{Channel}
use Rattle.law_typing.specs.Graph.Tables.{greatest}
use Rattle.verify_graph.specs.ChannelView.{channels_of}
use Rattle.verify_order.specs.Numbers.{AreWithin}
use Rattle.ui_verifier.specs.ByChannel.{Gives}
use Rattle.ui_verifier.proofs.by_channel.greatest_of.Given as goal

abbrev pub invariant-loop-number : goal.invariant-loop-number
invariant-loop-number l = record {
  few : (most : ℕ) → AreWithin l.values most → l.most ≤ most;
  so_far : (f : Channel → ℕ) → Gives l.channels l.values f →
      max l.most (greatest f (drop l.number (channels_of l.all))) ≡ greatest f (channels_of l.all);
}
