use Rattle.law_prices.proofs.CallProofs.{calls_are_within, each_is_asked_for, each_is_to_one, zero_is_no_call}
use Rattle.law_prices.proofs.calls.Goals as goal

pub returns : goal.returns
returns c = record { within = calls_are_within; never = zero_is_no_call; each = each_is_to_one; asked = each_is_asked_for }
