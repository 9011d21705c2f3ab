use Rattle.law_typing.proofs.WorkedReadProofs.{worked_read}
use Rattle.law_typing.proofs.reading.Goals as goal

pub returns : goal.returns
returns c = record { worked = worked_read }
