use Rattle.law_typing.proofs.JudgedProofs.{judged_is_accepted}
use Rattle.law_typing.proofs.ExactProofs.{accepted_is_judged, cycle_is_real}
use Rattle.law_typing.proofs.KnobsProofs.{knobs_accepted}
use Rattle.law_typing.proofs.judgement.Goals as goal

pub returns : goal.returns
returns c = record { accepted = judged_is_accepted; judged = accepted_is_judged; cycle = cycle_is_real; one = knobs_accepted }
