use Rattle.law_held_peers.proofs.EndingProofs.{builds_halt_closed, events_halt_closed, finish_closes_all, finish_closes_held, premises_met_unheld, pool_is_closed, runs_close_held}
use Rattle.law_held_peers.proofs.ended.Goals as goal

pub returns : goal.returns
returns c = record { finish = finish_closes_held; all = pool_is_closed; runs = runs_close_held; closes = finish_closes_all; met = premises_met_unheld; builds = builds_halt_closed; events = events_halt_closed }
