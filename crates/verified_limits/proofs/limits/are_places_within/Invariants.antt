use Rattle.std.proofs.Common.{◌≡◌, take, true}
use Rattle.std.specs.List.{list_all}
use Rattle.law_typing.specs.Rules.RegisterKinds.{place_numbers}
use Rattle.law_typing.specs.Verdict.Accepted.{Accepted}
use Rattle.verified_limits.proofs.Bounded.{is_place_within}
use Rattle.verified_limits.proofs.limits.are_places_within.Given as goal

abbrev pub invariant-loop-place : goal.invariant-loop-place
invariant-loop-place l = (a : Accepted l.verified) → list_all (is_place_within l.verified a l.most) (take l.place (place_numbers l.verified)) ≡ true
