use Rattle.std.proofs.Common.{◌≡◌, ◌<◌, ℕ, length, take, true}
use Rattle.std.specs.List.{list_all}
use Rattle.law_typing.specs.Graph.Channels.{channels_at}
use Rattle.law_typing.specs.Verdict.Accepted.{Accepted}
use Rattle.verify_graph.specs.ChannelView.{channels_of}
use Rattle.verified_limits.proofs.Bounded.{is_channel_within}
use Rattle.verified_limits.proofs.limits.is_place_within.Given as goal

abbrev pub invariant-loop-number : goal.invariant-loop-number
invariant-loop-number l = (place : ℕ) (a : Accepted l.verified) → place < length l.verified.places → channels_of l.channels ≡ channels_at l.verified place
    → list_all (is_channel_within l.verified a l.most) (take l.number (channels_at l.verified place)) ≡ true
