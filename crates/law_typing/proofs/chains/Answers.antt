use Rattle.law_typing.proofs.ChainProofs.{chains_double, three_links}
use Rattle.law_typing.proofs.chains.Goals as goal

pub returns : goal.returns
returns c = record { double = chains_double; three = three_links }
