use Rattle.std.proofs.Common.{arith}
use Rattle.std.specs.Prelude.{string_bytes}
use Rattle.std.proofs.lemmas.Option.{slice_get-get_or}
use Rattle.std.proofs.lemmas.Result.{err_from_is_err_and}
use Rattle.verified.specs.Lines.{source_lines}
use Rattle.verified.specs.declared.faults.ReportFault.TheVariants as faults
use Rattle.verified.proofs.Pieces.{all_came, line_came, stopped, stops_before_line, stops_in_line}
use Rattle.verified.proofs.ReportLines.{source_count, source_line_is}
use Rattle.verified.proofs.verified.Verified.report_sources.Goals as goal

pub returns-in_err-line-clause-lines : goal.returns-in_err-line-clause-lines
returns-in_err-line-clause-lines g c a =
    let lines = source_lines c.args.self.now a in
    let before = c.loop-source.invariant.came a in
    let p = err_from_is_err_and c.from_residual.result c.from_residual.ensures.1 in
    stopped c.from_residual.result p.0 faults.OutOfMemory _ _ lines p.1 p.2 (stops_before_line _ _ lines c.loop-source.source-index before)

pub returns-in_err-write_line-clause-lines : goal.returns-in_err-write_line-clause-lines
returns-in_err-write_line-clause-lines g c a =
    let d = c.args.self.now in
    let lines = source_lines d a in
    let k = c.loop-source.source-index in
    let kept = c.sources-source-items in
    let at = slice_get-get_or kept.result.now k (record { program = 0; bound = 0 }) c.loop-source-test.true in
    let e = c.in_err-write_line.field-0.0 in
    let r = c.from_residual-in_err-write_line in
    let p = err_from_is_err_and r.result r.ensures.1 in
    let line = string_bytes c.in_ok-line.line in
    let same = c.definition.ensures.same in
    let is = source_line_is d c.definition.result.now kept.result.now k _ line same kept.ensures.sources at c.in_ok-line.ensures a in
    stopped r.result p.0 e _ _ lines p.1 p.2
    (stops_in_line _ _ lines k (c.loop-source.invariant.came a) _ line is e c.in_err-write_line.ensures.writes)

pub loop-source-preserved : goal.loop-source-preserved
loop-source-preserved g c =
    let d = c.args.self.now in
    let k = c.loop-source.source-index in
    let kept = c.sources-source-items in
    let at = slice_get-get_or kept.result.now k (record { program = 0; bound = 0 }) c.loop-source-test.true in
    let line = string_bytes c.in_ok-line.line in
    let same = c.definition.ensures.same in
    let is = source_line_is d c.definition.result.now kept.result.now k _ line same kept.ensures.sources at c.in_ok-line.ensures in
    record {
      came = λ a. line_came _ _ (source_lines d a) k (c.loop-source.invariant.came a) _ line (is a) c.in_ok-write_line.ensures.writes;
      works = c.in_ok-write_line.ensures.marks;
    }

pub returns-clause-lines : goal.returns-clause-lines
returns-clause-lines g c a =
    let kept = c.sources-source-items in
    let k = c.loop-source.source-index in
    let past = source_count c.args.self.now kept.result.now kept.ensures.sources a k (omega (arith, c.loop-source-test.false)) in
    all_came _ _ (source_lines c.args.self.now a) k (c.loop-source.invariant.came a) past
