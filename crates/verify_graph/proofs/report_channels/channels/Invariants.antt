use Rattle.std.proofs.Common.{◌≡◌, ◌≤◌, ◌*◌, ◌++◌, drop, length}
use Rattle.std.specs.List.{flat_map}
use Rattle.law_typing.specs.Rules.RegisterKinds.{place_numbers}
use Rattle.law_typing.specs.Graph.Channels.{channels, channels_at}
use Rattle.verify_graph.specs.ChannelView.{channels_of}
use Rattle.verify_graph.proofs.report_channels.channels.Given as goal

abbrev pub invariant-loop-place : goal.invariant-loop-place
invariant-loop-place l = record {
  channels : channels_of l.found.items ++ flat_map (channels_at l.lookups) (drop l.place (place_numbers l.lookups)) ≡ channels l.lookups;
  few : length l.found.items ≤ 32833 * l.place;
}
