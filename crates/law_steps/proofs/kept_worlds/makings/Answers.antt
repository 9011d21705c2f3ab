use Rattle.law_steps.proofs.Kept.LentProofs.{peers_lent, new_peer_good}
use Rattle.law_steps.proofs.Kept.MadeProofs.{new_whole_good}
use Rattle.law_steps.proofs.Kept.NewProofs.{new_stands, values_stay, new_serves, new_objects_good, new_handlers_good, new_bindings_good}
use Rattle.law_steps.proofs.kept_worlds.makings.Goals as goal

pub returns : goal.returns
returns c = record {
  stands = new_stands;
  values = values_stay;
  serves = new_serves;
  objects = new_objects_good;
  handlers = new_handlers_good;
  bindings = new_bindings_good;
  pool = peers_lent;
  own = new_peer_good;
  whole = new_whole_good;
}
