use Rattle.law_short_readings.proofs.EventProofs.{events_are_short}
use Rattle.law_short_readings.proofs.Whole.{held_is_short, read_texts_are_short, reading_is_short}
use Rattle.law_short_readings.proofs.short_readings.Goals as goal

pub returns : goal.returns
returns c = record { events = events_are_short; reading = reading_is_short; held = held_is_short; runs = read_texts_are_short }
