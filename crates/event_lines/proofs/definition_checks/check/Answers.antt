use Rattle.event_lines.proofs.CheckProofs.{checked_refused, checked_unjudged, checked_accepted}
use Rattle.event_lines.proofs.definition_checks.check.Goals as goal

pub returns-in-Refused-clause-checked : goal.returns-in-Refused-clause-checked
returns-in-Refused-clause-checked g c =
    let written = rw c.deref.ensures at c.refuse.ensures.concludes in
    checked_refused c.args.definition.now _ _ _ _ c.in-Refused.text c.in-Refused.ensures written

pub returns-in-Unjudged-clause-checked : goal.returns-in-Unjudged-clause-checked
returns-in-Unjudged-clause-checked g c = checked_unjudged c.args.definition.now _ _ _ _ c.refuse_for_memory.ensures.concludes

pub returns-in-Accepted-clause-checked : goal.returns-in-Accepted-clause-checked
returns-in-Accepted-clause-checked g c =
    checked_accepted c.args.definition.now _ _ _ _ c.in-Accepted.verified c.in-Accepted.ensures c.report.ensures.accepted c.report.ensures.reports
