use Rattle.law_typing.proofs.RestProofs.{good_is_within, ends_rest, turns_rest}
use Rattle.law_typing.proofs.rest.Goals as goal

pub returns : goal.returns
returns c = record { within = good_is_within; ends = ends_rest; turns = turns_rest }
