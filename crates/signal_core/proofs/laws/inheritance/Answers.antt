use Rattle.signal_core.proofs.Inherited.{ancestors_come_first, signals_are_inherited}
use Rattle.signal_core.proofs.laws.inheritance.Goals as goal

pub returns : goal.returns
returns c = record { first = ancestors_come_first; all = signals_are_inherited }
