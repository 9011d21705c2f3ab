use Rattle.law_typing.proofs.MidRunReached.{notification_reached, freeze_reached}
use Rattle.law_typing.proofs.MidRunGood.{first_run_good, freezes_good}
use Rattle.law_typing.proofs.NotGoodProofs.{not_good}
use Rattle.law_typing.proofs.amid.Goals as goal

pub returns : goal.returns
returns c = record {
  holds = record {
    notification_reached = notification_reached;
    notification_good = first_run_good;
    freeze_reached = freeze_reached;
    freeze_good = freezes_good;
  };
  fails = not_good;
}
