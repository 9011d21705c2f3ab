use Rattle.law_runs.proofs.HandlerProofs.{builds_have_handler_numbers, handler_numbers_last, requests_have_handler_numbers, sources_have_handler_numbers}
use Rattle.law_runs.proofs.handler_numbers.Goals as goal

pub returns : goal.returns
returns c = record {
  last = handler_numbers_last;
  build = builds_have_handler_numbers;
  request = requests_have_handler_numbers;
  source = sources_have_handler_numbers;
}
