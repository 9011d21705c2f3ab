use Rattle.law_prices.proofs.BoundProofs.{cost_is_within, lines_are_within, objects_are_within, replies_are_within, steps_are_within, zero_is_never}
use Rattle.law_prices.proofs.bounds.Goals as goal

pub returns : goal.returns
returns c = record { cost = cost_is_within; never = zero_is_never; steps = steps_are_within; replies = replies_are_within; lines = lines_are_within; objects = objects_are_within }
