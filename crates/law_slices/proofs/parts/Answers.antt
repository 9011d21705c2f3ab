use Rattle.law_slices.proofs.PartProofs.{parts_are_within, parts_cost, quiet_parts_are_within}
use Rattle.law_slices.proofs.parts.Goals as goal

pub returns : goal.returns
returns c = record { cost = parts_cost; quiet = quiet_parts_are_within; within = parts_are_within }
