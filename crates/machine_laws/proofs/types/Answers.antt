use Rattle.machine_laws.proofs.TypeProofs.{is_a_reflexive, is_a_transitive}
use Rattle.machine_laws.proofs.types.Goals as goal

pub returns : goal.returns
returns c = record { reflexive = is_a_reflexive; transitive = is_a_transitive }
