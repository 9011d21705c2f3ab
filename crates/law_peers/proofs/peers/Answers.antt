use Rattle.law_peers.proofs.LifeProofs.{each_lives, lines_of_replies, untouched_stays}
use Rattle.law_peers.proofs.NameProofs.{lines_by_name}
use Rattle.law_peers.proofs.FinishProofs.{finish_closes, run_finishes}
use Rattle.law_peers.proofs.CloseProofs.{closes_once}
use Rattle.law_peers.proofs.RunLives.{dispatch_lives, event_lives, events_live, halt_lives, reaches_lives, run_lives, step_lives}
use Rattle.law_peers.proofs.WorkedProofs.{worked_life}
use Rattle.law_peers.proofs.peers.Goals as goal

pub returns : goal.returns
returns c = record {
  step = step_lives;
  reaches = reaches_lives;
  dispatch = dispatch_lives;
  event = event_lives;
  events = events_live;
  run = run_lives;
  halt = halt_lives;
  each = each_lives;
  lines = lines_of_replies;
  by_name = lines_by_name;
  once = closes_once;
  untouched = untouched_stays;
  finishes = run_finishes;
  closes = finish_closes;
  worked = worked_life;
}
