use Rattle.std.proofs.Common.{◌≡◌, ◌≤◌, ◌+◌, ◌++◌, drop, length}
use Rattle.ui_machine.specs.Definition.Lookups.{specs_of}
use Rattle.law_typing.specs.Graph.Channels.{readable_from}
use Rattle.verify_graph.specs.ChannelView.{channels_of}
use Rattle.verify_graph.proofs.report_channels.add_properties.Given as goal

abbrev pub invariant-loop-slot : goal.invariant-loop-slot
invariant-loop-slot l = record {
  added :
      channels_of l.channels.items ++ readable_from l.place.0 l.slot (drop l.slot (specs_of l.lookups l.class))
      ≡ channels_of l.initial.channels.items ++ readable_from l.place.0 0 (specs_of l.lookups l.class);
  few : length l.channels.items ≤ length l.initial.channels.items + l.slot;
}
