use Rattle.law_prices.proofs.CountProofs.{free_is_never, replies_are_few, steps_are_few}
use Rattle.law_prices.proofs.DispatchPays.{dispatches_pay}
use Rattle.law_prices.proofs.MadeSteps.{objects_are_few}
use Rattle.law_prices.proofs.SaidSteps.{lines_are_few}
use Rattle.law_prices.proofs.StepFalls.{prices_fall}
use Rattle.law_prices.proofs.law.Goals as goal

pub returns : goal.returns
returns c = record { falls = prices_fall; pays = dispatches_pay; never = free_is_never; steps = steps_are_few; replies = replies_are_few; lines = lines_are_few; objects = objects_are_few }
