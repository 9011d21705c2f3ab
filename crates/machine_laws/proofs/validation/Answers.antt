use Rattle.machine_laws.proofs.ClampProofs.{clamps_to_valid, clamps_once}
use Rattle.machine_laws.proofs.validation.Goals as goal

pub returns : goal.returns
returns c = record { valid = clamps_to_valid; once = clamps_once }
