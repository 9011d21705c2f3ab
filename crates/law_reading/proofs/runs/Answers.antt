use Rattle.law_reading.proofs.RunProofs.{read_never_stuck, read_report_is_kept, read_runs_rest, read_runs_are_there, read_halts_for_memory}
use Rattle.law_reading.proofs.runs.Goals as goal

pub returns : goal.returns
returns c = record {
  keep = read_never_stuck;
  report = read_report_is_kept;
  rest = read_runs_rest;
  there = read_runs_are_there;
  halting = read_halts_for_memory;
}
