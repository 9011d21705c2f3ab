use Rattle.law_slices.proofs.DepthProofs.{depth_is_found, parts_are_within_depth, quiet_parts_are_within_depth}
use Rattle.law_slices.proofs.depths.Goals as goal

pub returns : goal.returns
returns c = record { found = depth_is_found; within = parts_are_within_depth; quiet = quiet_parts_are_within_depth }
