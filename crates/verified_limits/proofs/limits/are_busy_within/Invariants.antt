use Rattle.std.proofs.Common.{◌≡◌, take, true}
use Rattle.std.specs.List.{list_all}
use Rattle.law_idle.specs.Idle.{busy_channels}
use Rattle.law_typing.specs.Verdict.Accepted.{Accepted}
use Rattle.verified_limits.proofs.Bounded.{is_channel_within}
use Rattle.verified_limits.proofs.limits.are_busy_within.Given as goal

abbrev pub invariant-loop-number : goal.invariant-loop-number
invariant-loop-number l = (a : Accepted l.verified) → list_all (is_channel_within l.verified a l.most) (take l.number (busy_channels l.verified)) ≡ true
