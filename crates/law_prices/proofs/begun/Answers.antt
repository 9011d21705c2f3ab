use Rattle.law_prices.proofs.BegunProofs.{emissions_are_within, programs_are_within}
use Rattle.law_prices.proofs.begun.Goals as goal

pub returns : goal.returns
returns c = record { emissions = emissions_are_within; programs = programs_are_within }
