use Rattle.std.proofs.Common.{subst, ◌++◌}
use Rattle.std.proofs.lemmas.Result.{err_from_is_err_and}
use Rattle.verified.specs.Lines.{channel_lines, source_lines, total_lines}
use Rattle.verified.specs.Writing.{Reports}
use Rattle.verified.proofs.Pieces.{reports_after, stopped, stops_after, stops_early}
use Rattle.verified.proofs.ReportLines.{whole_report}
use Rattle.verified.proofs.verified.Verified.report.Goals as goal

pub returns-in_err-report_totals-clause-lines : goal.returns-in_err-report_totals-clause-lines
returns-in_err-report_totals-clause-lines g c a =
    let d = c.args.self.now in
    let totals = total_lines d a in
    let later = channel_lines d a ++ source_lines d a in
    let r = c.from_residual in
    let p = err_from_is_err_and r.result r.ensures.1 in
    let e = c.in_err-report_totals.field-0.0 in
    subst (Reports r.result _ _) (whole_report d a)
    (stopped r.result p.0 e _ _ (totals ++ later) p.1 p.2 (stops_early e _ _ totals later (c.in_err-report_totals.ensures.lines a)))

pub returns-in_err-report_channels-clause-lines : goal.returns-in_err-report_channels-clause-lines
returns-in_err-report_channels-clause-lines g c a =
    let d = c.args.self.now in
    let totals = total_lines d a in
    let later = channel_lines d a ++ source_lines d a in
    let r = c.from_residual-in_err-report_channels in
    let p = err_from_is_err_and r.result r.ensures.1 in
    let e = c.in_err-report_channels.field-0.0 in
    subst (Reports r.result _ _) (whole_report d a)
    (stopped r.result p.0 e _ _ (totals ++ later) p.1 p.2
    (stops_after e _ _ _ totals later (c.in_ok-report_totals.ensures.lines a)
    (stops_early e _ _ (channel_lines d a) (source_lines d a) (c.in_err-report_channels.ensures.lines a))))

pub returns-clause-lines : goal.returns-clause-lines
returns-clause-lines g c a =
    let d = c.args.self.now in
    let r = c.report_sources.result in
    let after = c.in_ok-report_channels.ensures.lines a in
    subst (Reports r _ _) (whole_report d a)
    (reports_after r _ _ _ (total_lines d a) (channel_lines d a ++ source_lines d a) (c.in_ok-report_totals.ensures.lines a)
    (reports_after r _ _ _ (channel_lines d a) (source_lines d a) after (c.report_sources.ensures.lines a)))
