use Rattle.law_line_readings.proofs.EventProofs.{events_are_all_short}
use Rattle.law_line_readings.proofs.Whole.{held_bytes_are_bounded, held_has_short_details, read_bytes_are_bounded, read_is_all_short, reading_has_short_details}
use Rattle.law_line_readings.proofs.line_readings.Goals as goal

pub returns : goal.returns
returns c = record {
  events = events_are_all_short;
  reading = reading_has_short_details;
  held = held_has_short_details;
  runs = read_is_all_short;
  bytes = read_bytes_are_bounded;
  held_bytes = held_bytes_are_bounded;
}
