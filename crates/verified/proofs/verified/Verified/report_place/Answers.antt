use Rattle.std.proofs.Common.{arith}
use Rattle.std.specs.Prelude.{string_bytes}
use Rattle.std.proofs.lemmas.Result.{err_from_is_err_and}
use Rattle.verified.specs.Lines.{place_lines}
use Rattle.verified.specs.declared.faults.ReportFault.TheVariants as faults
use Rattle.verified.proofs.Pieces.{all_came, line_came, stopped, stops_before_line, stops_in_line}
use Rattle.verified.proofs.ReportLines.{line_at, place_count}
use Rattle.verified.proofs.verified.Verified.report_place.Goals as goal

pub returns-in_err-line-clause-lines : goal.returns-in_err-line-clause-lines
returns-in_err-line-clause-lines g c place a within are =
    let lines = place_lines c.args.self.now a place in
    let p = err_from_is_err_and c.from_residual.result c.from_residual.ensures.1 in
    stopped c.from_residual.result p.0 faults.OutOfMemory _ _ lines p.1 p.2 (stops_before_line _ _ lines c.loop-number.number (c.loop-number.invariant.came place a within are))

pub returns-in_err-write_line-clause-lines : goal.returns-in_err-write_line-clause-lines
returns-in_err-write_line-clause-lines g c place a within are =
    let d = c.args.self.now in
    let lines = place_lines d a place in
    let k = c.loop-number.number in
    let own = c.args.channels.now in
    let channel = c.channel_at.result in
    let line = string_bytes c.in_ok-line.line in
    let at = line_at d a own place k channel line within are c.channel_at.ensures c.in_ok-line.ensures in
    let e = c.in_err-write_line.field-0.0 in
    let r = c.from_residual-in_err-write_line in
    let p = err_from_is_err_and r.result r.ensures.1 in
    stopped r.result p.0 e _ _ lines p.1 p.2
    (stops_in_line _ _ lines k (c.loop-number.invariant.came place a within are) _ line at e c.in_err-write_line.ensures.writes)

pub loop-number-preserved : goal.loop-number-preserved
loop-number-preserved g c =
    let d = c.args.self.now in
    let k = c.loop-number.number in
    let own = c.args.channels.now in
    let channel = c.channel_at.result in
    let line = string_bytes c.in_ok-line.line in
    record {
      came = λ place a within are.
          line_came _ _ (place_lines d a place) k (c.loop-number.invariant.came place a within are) _ line
          (line_at d a own place k channel line within are c.channel_at.ensures c.in_ok-line.ensures)
          c.in_ok-write_line.ensures.writes;
      works = c.in_ok-write_line.ensures.marks;
    }

pub returns-clause-lines : goal.returns-clause-lines
returns-clause-lines g c place a within are =
    let k = c.loop-number.number in
    all_came _ _ (place_lines c.args.self.now a place) k (c.loop-number.invariant.came place a within are)
    (place_count c.args.self.now a c.args.channels.now place k are (omega (arith, c.loop-number-test.false)))
