use Rattle.law_typing.proofs.FaultTextProofs.{fault_texts, judges_once}
use Rattle.law_typing.proofs.ToldProofs.{judges_is_there}
use Rattle.law_typing.proofs.CappedProofs.{capped_laws, costs_capped}
use Rattle.law_typing.proofs.answers.Goals as goal

pub returns : goal.returns
returns c = record { texts = fault_texts; once = judges_once; there = judges_is_there; capped = capped_laws; costs = costs_capped }
