use Rattle.law_formats.proofs.NumberProofs.{numbers_stay, accepted_before, nothing_else_changed}
use Rattle.law_formats.proofs.WorkedProofs.{premise_met}
use Rattle.law_formats.proofs.formats.Goals as goal

pub returns : goal.returns
returns c = record { stay = numbers_stay; judged = accepted_before; back = nothing_else_changed; met = premise_met }
