-- What is promised of runs is so of runs over what was read.
use Rattle.std.proofs.Common.{◌≡◌, ℕ, List, Result, Ok, Err, refl}
use Rattle.ui_machine.specs.Definition.{Definition}
use Rattle.ui_machine.specs.State.Tasks.{Event}
use Rattle.definition_format.specs.Denoted.{denoted}
use Rattle.definition_format.specs.EventMeaning.{EventRefusal, event_denoted}
use Rattle.law_typing.specs.Verdict.Accepted.{Each}
use Rattle.law_typing.proofs.Lists.{each_flat}
use Rattle.law_steps.specs.Served.Sessions.{EventRead}
use Rattle.law_steps.proofs.Served.SessionProofs.{never_stuck, report_is_kept, runs_rest}
use Rattle.law_steps.proofs.Served.HaltingProofs.{events_halt_for_memory}
use Rattle.law_steps.proofs.Served.ThereProofs.{runs_are_there}
use Rattle.law_reading.specs.ReadRuns.{event_if, events_in, ReadNeverStuck, ReadReportIsKept, ReadRunsRest, ReadRunsAreThere, ReadHaltsForMemory}
use Rattle.law_reading.proofs.Whole.{well_read, events_read}

-- the events that lines denote are such as the laws take
all_read : (bytes : List ℕ) (d : Definition) → denoted bytes ≡ Ok d → (lines : List (List ℕ)) → Each (EventRead d) (events_in d lines)
all_read bytes d h lines =
    each_flat (EventRead d) (λ line. event_if (event_denoted d line)) lines (λ line there. of line (event_denoted d line) refl)
  where
    of : (line : List ℕ) (r : Result Event EventRefusal) → event_denoted d line ≡ r → Each (EventRead d) (event_if r)
    of line (Ok event) e = (events_read bytes d h line event e, tt)
    of line (Err refusal) e = tt

pub read_never_stuck : ReadNeverStuck
read_never_stuck bytes d h a peers ready lines =
    never_stuck d (well_read bytes d h) a peers ready (events_in d lines) (all_read bytes d h lines)

pub read_report_is_kept : ReadReportIsKept
read_report_is_kept bytes d h told judged =
    let kept = report_is_kept d told (well_read bytes d h) judged in
    (kept.0, kept.1, λ peers ready lines. kept.2 peers ready (events_in d lines) (all_read bytes d h lines))

pub read_runs_rest : ReadRunsRest
read_runs_rest bytes d h a peers ready lines =
    runs_rest d (well_read bytes d h) a peers ready (events_in d lines) (all_read bytes d h lines)

pub read_runs_are_there : ReadRunsAreThere
read_runs_are_there bytes d h a peers ready lines =
    runs_are_there d (well_read bytes d h) a peers ready (events_in d lines) (all_read bytes d h lines)

pub read_halts_for_memory : ReadHaltsForMemory
read_halts_for_memory bytes d h a peers ready lines =
    events_halt_for_memory d (well_read bytes d h) a peers ready (events_in d lines) (all_read bytes d h lines)
