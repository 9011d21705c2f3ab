use Rattle.law_reading.proofs.Held.{held_well}
use Rattle.law_reading.proofs.Whole.{well_read, events_read}
use Rattle.law_reading.proofs.reading.Goals as goal

pub returns : goal.returns
returns c = record { well = well_read; events = events_read; held = held_well }
