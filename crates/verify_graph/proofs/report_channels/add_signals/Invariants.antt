use Rattle.std.proofs.Common.{◌≡◌, ◌≤◌, ◌+◌, ◌++◌, drop, length}
use Rattle.ui_machine.specs.Definition.Lookups.{class_of}
use Rattle.law_typing.specs.Graph.Channels.{emitted_at, signals_from}
use Rattle.verify_graph.specs.ChannelView.{channels_of}
use Rattle.verify_graph.proofs.report_channels.add_signals.Given as goal

abbrev pub invariant-loop-number : goal.invariant-loop-number
invariant-loop-number l = record {
  added :
      channels_of l.channels.items ++ signals_from l.place.0 l.number (drop l.number (class_of l.lookups l.fn.class).signals)
      ≡ channels_of l.initial.channels.items ++ emitted_at l.place.0 (class_of l.lookups l.fn.class).signals;
  few : length l.channels.items + 1 ≤ length l.initial.channels.items + l.number;
}
