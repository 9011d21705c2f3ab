use Rattle.law_steps.proofs.Served.SessionProofs.{never_stuck, report_is_kept, runs_rest}
use Rattle.law_steps.proofs.Served.HaltingProofs.{events_halt_for_memory}
use Rattle.law_steps.proofs.Served.ThereProofs.{runs_are_there}
use Rattle.law_steps.proofs.Served.SafeProofs.{begins_safe, safe_stays}
use Rattle.law_steps.proofs.sessions.runs.Goals as goal

pub returns : goal.returns
returns c = record { keep = never_stuck; report = report_is_kept; rest = runs_rest; there = runs_are_there; halting = events_halt_for_memory; safe = begins_safe; stays = safe_stays }
