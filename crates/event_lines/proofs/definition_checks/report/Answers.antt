use Rattle.event_lines.proofs.CutReports.{whole_report, cut_report, broken_report}
use Rattle.event_lines.proofs.definition_checks.report.Goals as goal

pub returns-in-Ok-clause-reports : goal.returns-in-Ok-clause-reports
returns-in-Ok-clause-reports g c = λ a. whole_report _ _ _ _ c.in-Ok.ensures.marks (c.in-Ok.ensures.lines a)

pub returns-in-Err-OutOfMemory-clause-reports : goal.returns-in-Err-OutOfMemory-clause-reports
returns-in-Err-OutOfMemory-clause-reports g c = λ a. cut_report _ _ _ _ _ _ (rw c.in-Err-OutOfMemory.field-0-is at (c.in-Err-OutOfMemory.ensures.lines a)) c.refuse_for_memory.ensures.concludes

pub returns-in-Err-WriteFault-clause-reports : goal.returns-in-Err-WriteFault-clause-reports
returns-in-Err-WriteFault-clause-reports g c = λ a. broken_report _ _ _ _ (rw c.in-Err-WriteFault.field-0-is at c.in-Err-WriteFault.ensures.marks) (rw c.in-Err-WriteFault.field-0-is at (c.in-Err-WriteFault.ensures.lines a))
