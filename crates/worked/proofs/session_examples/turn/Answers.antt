use Rattle.worked.proofs.Sessions.TurnMet.{met}
use Rattle.worked.proofs.session_examples.turn.Goals as goal

pub returns : goal.returns
returns c = met
