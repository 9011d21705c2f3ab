use Rattle.std.proofs.Common.{false}
use Rattle.std.proofs.lemmas.List.{get_or-replicate}
use Rattle.signal_core.proofs.sources.unmarked.Goals as goal

pub returns : goal.returns
returns c = λ u small. get_or-replicate 256 u false false small
