-- The worked step.
use Rattle.std.specs.Fmt.{digits}
use Rattle.std.proofs.Common.{refl, Some}
use Rattle.ui_machine.specs.Instructions.Peers.{with_method, left_with, called}
use Rattle.ui_machine.specs.Rules.Accumulation.{received_by}
use Rattle.ui_machine.specs.Steps.{left}
use Rattle.machine_rows.specs.Runs.LastReference.{definition}
use Rattle.law_peers.specs.WorkedForgetting.{WorkedForgetting, due, reply}
use Rattle.law_peers.proofs.ForgettingProofs.{question_forgets, step_forgets}

pub worked_forgetting : WorkedForgetting
unfolding with_method left_with called received_by left digits
worked_forgetting = record {
  asks = refl;
  new = _;
  leads = refl;
  counts = refl;
  says = refl;
  asks_the_same = question_forgets definition due;
  leads_to_the_same = step_forgets definition (Some reply) due;
  counts_no_more = refl;
}
