use Rattle.law_typing.proofs.NamesProofs.{names_do_not_count, one_graph}
use Rattle.law_typing.proofs.names.Goals as goal

pub returns : goal.returns
returns c = record { graph = names_do_not_count; renamed = one_graph }
