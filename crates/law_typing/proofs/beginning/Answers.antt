use Rattle.law_typing.proofs.WorkedBegins.{worked_begin}
use Rattle.law_typing.proofs.beginning.Goals as goal

pub returns : goal.returns
returns c = record { holds = worked_begin }
