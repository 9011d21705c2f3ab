use Rattle.std.proofs.Common.{refl, ap, ◌∙◌, [], ◌∷◌, subst}
use Rattle.std.specs.Prelude.{codes, string_bytes}
use Rattle.std.proofs.lemmas.Result.{err_from_is_err_and}
use Rattle.law_typing.specs.Graph.Channels as entries
use Rattle.law_typing.specs.Verdict.Report.{numbered}
use Rattle.verified.specs.Told.{bound_of}
use Rattle.verified.specs.Writing.{Reports}
use Rattle.verified.specs.declared.faults.ReportFault.TheVariants as faults
use Rattle.verified.proofs.Pieces.{none_came, reports_after, stopped, stops_after, stops_early}
use Rattle.verified.proofs.ReportLines.{totals_are}
use Rattle.verified.proofs.verified.Verified.report_totals.Goals as goal

pub returns-in_err-write_line-clause-lines : goal.returns-in_err-write_line-clause-lines
returns-in_err-write_line-clause-lines g c a =
    let d = c.args.self.now in
    let r = c.from_residual-in_err-write_line in
    let p = err_from_is_err_and r.result r.ensures.1 in
    let e = c.in_err-write_line.field-0.0 in
    let depth = string_bytes c.in_ok-depth.depth in
    let build = numbered (codes "build bound ") (bound_of d a entries.build) in
    let is_depth = c.in_ok-depth.ensures ∙ ap (numbered (codes "depth ")) (c.depth.ensures a) in
    subst (Reports r.result _ _) (totals_are d a depth build is_depth refl)
    (stopped r.result p.0 e _ _ (depth ∷ build ∷ []) p.1 p.2
    (stops_early e _ _ (depth ∷ []) (build ∷ []) c.in_err-write_line.ensures.writes))

pub returns-in_err-build-clause-lines : goal.returns-in_err-build-clause-lines
returns-in_err-build-clause-lines g c a =
    let d = c.args.self.now in
    let r = c.from_residual-in_err-build in
    let p = err_from_is_err_and r.result r.ensures.1 in
    let depth = string_bytes c.in_ok-depth.depth in
    let build = numbered (codes "build bound ") (bound_of d a entries.build) in
    let is_depth = c.in_ok-depth.ensures ∙ ap (numbered (codes "depth ")) (c.depth.ensures a) in
    subst (Reports r.result _ _) (totals_are d a depth build is_depth refl)
    (stopped r.result p.0 faults.OutOfMemory _ _ (depth ∷ build ∷ []) p.1 p.2
    (stops_after faults.OutOfMemory _ _ _ (depth ∷ []) (build ∷ []) c.in_ok-write_line.ensures.writes (none_came _ (build ∷ []))))

pub returns-clause-lines : goal.returns-clause-lines
returns-clause-lines g c a =
    let d = c.args.self.now in
    let r = c.write_line-2.result in
    let depth = string_bytes c.in_ok-depth.depth in
    let build = string_bytes c.in_ok-build.build in
    let is_depth = c.in_ok-depth.ensures ∙ ap (numbered (codes "depth ")) (c.depth.ensures a) in
    let is_build = c.in_ok-build.ensures ∙ ap (numbered (codes "build bound ")) (c.bound.ensures a) in
    subst (Reports r _ _) (totals_are d a depth build is_depth is_build)
    (reports_after r _ _ _ (depth ∷ []) (build ∷ []) c.in_ok-write_line.ensures.writes c.write_line-2.ensures.writes)
