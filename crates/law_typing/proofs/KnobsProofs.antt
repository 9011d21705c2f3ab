-- The knobs are accepted.
use Rattle.std.proofs.Common.{refl}
use Rattle.law_typing.specs.Verdict.Accepted.{Accepted}
use Rattle.law_typing.specs.Examples.AllParts.{definition, lines}
use Rattle.law_typing.proofs.JudgedRows.{knobs_holds}
use Rattle.law_typing.proofs.JudgedProofs.{judged_is_accepted}

pub knobs_accepted : Accepted definition
knobs_accepted = (judged_is_accepted definition lines refl knobs_holds).0
