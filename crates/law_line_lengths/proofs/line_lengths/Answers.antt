use Rattle.law_line_lengths.proofs.LengthProofs.{bytes_are_within, growth_is_within, lines_are_short, names_are_short, values_are_short}
use Rattle.law_line_lengths.proofs.StepLines.{steps_say_short_lines}
use Rattle.law_line_lengths.proofs.DispatchProofs.{dispatch_bytes_are_within, dispatches_say_short_lines}
use Rattle.law_line_lengths.proofs.line_lengths.Goals as goal

pub returns : goal.returns
returns c = record {
  names = names_are_short;
  values = values_are_short;
  lines = lines_are_short;
  bytes = bytes_are_within;
  growth = growth_is_within;
  steps = steps_say_short_lines;
  dispatches = dispatches_say_short_lines;
  dispatch_bytes = dispatch_bytes_are_within;
}
