-- What is read is short in all that lines are made of, and so is each run of it over lines.
use Rattle.std.proofs.Common.{◌≡◌, refl, ℕ, List, ◌++◌, Result, Ok, Err, subst}
use Rattle.std.specs.Prelude.{IfOk}
use Rattle.ui_machine.specs.Definition.{Definition}
use Rattle.ui_machine.specs.State.Tasks.{Event}
use Rattle.definition_format.specs.Denoted.{definition_with}
use Rattle.definition_format.specs.EventMeaning.{EventRefusal, event_denoted}
use Rattle.law_typing.specs.Verdict.Accepted.{Each}
use Rattle.law_typing.proofs.Lists.{each_flat}
use Rattle.law_steps.specs.Served.Sessions.{EventRead}
use Rattle.law_reading.specs.ReadRuns.{event_if, events_in}
use Rattle.law_reading.proofs.Held.{on_held}
use Rattle.law_reading.proofs.Parts.{IsRead, parts}
use Rattle.law_reading.proofs.Whole.{events_read, well_read}
use Rattle.law_short_readings.proofs.ProgramProofs.{Instructs, programs_have}
use Rattle.law_short_readings.proofs.Whole.{reading_is_short}
use Rattle.law_short_lines.specs.ShortParts.{HasShortDetails, IsShortAll, SaysShortDetail}
use Rattle.law_short_lines.proofs.ByteProofs.{dispatch_bytes_are_bounded}
use Rattle.law_short_lines.proofs.RunProofs.{dispatches_are_all_short}
use Rattle.law_line_readings.specs.LineReadings.{HeldBytesAreBounded, HeldHasShortDetails, LinesAreBounded, ReadBytesAreBounded, ReadIsAllShort, ReadingHasShortDetails}
use Rattle.law_line_readings.proofs.EventProofs.{events_are_all_short}
use Rattle.law_line_readings.proofs.InstructionProofs.{instruction_short}

-- ** a definition

read_details : (d : Definition) → IsRead d → HasShortDetails d
read_details d r =
    let programs : Each (Instructs SaysShortDetail) r.programs =
    subst (λ x. IfOk x (Each (Instructs SaysShortDetail))) r.programmed (programs_have SaysShortDetail (λ s x. instruction_short s x) r.format r.draft.types r.value) in
    let short : HasShortDetails (definition_with r.draft r.programs (r.objects.places ++ r.prototypes) r.objects.bindings r.limits) = programs in
    subst HasShortDetails r.is short

pub reading_has_short_details : ReadingHasShortDetails
reading_has_short_details bytes d h = read_details d (parts bytes d h)

pub held_has_short_details : HeldHasShortDetails
held_has_short_details = on_held HasShortDetails reading_has_short_details

-- ** the events that lines denote

module _ (d : Definition) (P : Event → Type 0) (so : (line : List ℕ) (event : Event) → event_denoted d line ≡ Ok event → P event) where
  of_line : (line : List ℕ) (r : Result Event EventRefusal) → event_denoted d line ≡ r → Each P (event_if r)
  of_line line (Ok event) e = (so line event e, tt)
  of_line line (Err refusal) e = tt

  each_event : (lines : List (List ℕ)) → Each P (events_in d lines)
  each_event lines = each_flat P (λ line. event_if (event_denoted d line)) lines (λ line there. of_line line (event_denoted d line) refl)

-- ** runs

pub read_is_all_short : ReadIsAllShort
read_is_all_short bytes d h peers pool lines x =
    dispatches_are_all_short d (reading_is_short bytes d h) (reading_has_short_details bytes d h) peers pool (events_in d lines)
    (each_event d IsShortAll (events_are_all_short d) lines) x

pub read_bytes_are_bounded : ReadBytesAreBounded
read_bytes_are_bounded bytes d h a peers ready lines x replies fit n at s =
    dispatch_bytes_are_bounded d (well_read bytes d h) a (reading_is_short bytes d h) (reading_has_short_details bytes d h) peers ready (events_in d lines)
    (each_event d (EventRead d) (λ line event e. events_read bytes d h line event e) lines) (each_event d IsShortAll (events_are_all_short d) lines) x replies fit n at s

pub held_bytes_are_bounded : HeldBytesAreBounded
held_bytes_are_bounded = on_held LinesAreBounded read_bytes_are_bounded
