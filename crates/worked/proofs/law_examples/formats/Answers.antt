use Rattle.worked.proofs.Laws.FormatReads.{formats_met}
use Rattle.worked.proofs.law_examples.formats.Goals as goal

pub returns : goal.returns
returns c = formats_met
