use Rattle.std.proofs.Common.{◌≡◌, ◌≤◌, ◌*◌, ◌++◌, drop, length}
use Rattle.std.specs.List.{filter, flat_map}
use Rattle.law_typing.specs.Rules.RegisterKinds.{place_numbers}
use Rattle.law_typing.specs.Graph.Channels.{channels_at}
use Rattle.law_idle.specs.Idle.{busy_channels, is_busy}
use Rattle.verify_graph.specs.ChannelView.{channels_of}
use Rattle.verify_graph.proofs.busy_channels.busy_channels.Given as goal

abbrev pub invariant-loop-place : goal.invariant-loop-place
invariant-loop-place l = record {
  channels :
      channels_of l.found.items ++ flat_map (λ place. filter (is_busy l.lookups) (channels_at l.lookups place)) (drop l.place (place_numbers l.lookups))
      ≡ busy_channels l.lookups;
  few : length l.found.items ≤ 32833 * l.place;
}
