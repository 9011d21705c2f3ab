use Rattle.worked.proofs.Laws.SourceReads.{premises_met}
use Rattle.worked.proofs.law_examples.premises.Goals as goal

pub returns : goal.returns
returns c = premises_met
