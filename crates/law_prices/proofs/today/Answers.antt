use Rattle.law_prices.proofs.TodayProofs.{counted_is_today}
use Rattle.law_prices.proofs.SolvedProofs.{prices_are_solved}
use Rattle.law_prices.proofs.today.Goals as goal

pub returns : goal.returns
returns c = record { counted = counted_is_today; solved = prices_are_solved }
