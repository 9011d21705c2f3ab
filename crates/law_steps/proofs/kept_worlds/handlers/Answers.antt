use Rattle.law_steps.proofs.Kept.AttachProofs.{handler_attaches, handlers_wait_less}
use Rattle.law_steps.proofs.Kept.ConnectProofs.{handler_connects}
use Rattle.law_steps.proofs.Kept.HandlersProofs.{handlers_left, left_are_found, handlers_changed}
use Rattle.law_steps.proofs.kept_worlds.handlers.Goals as goal

pub returns : goal.returns
returns c = record {
  left = handlers_left;
  found = left_are_found;
  changed = handlers_changed;
  connects = handler_connects;
  attaches = handler_attaches;
  waits = handlers_wait_less;
}
