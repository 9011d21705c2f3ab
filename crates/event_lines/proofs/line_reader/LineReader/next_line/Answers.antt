use Rattle.std.proofs.Common.{arith, ◌≢◌, ◌∙◌, ap, sym, vec_len}
use Rattle.std.proofs.lemmas.Grind.{common_steps}
use Rattle.std.specs.Io.KnownBytes.{prepend_known}
use Rattle.std.proofs.lemmas.Result.{err_from_is_err_and}
use Rattle.event_lines.proofs.Pieces.{waits_then}
use Rattle.std.proofs.lemmas.Bool.{eqb-false, ne_eqb}
use Rattle.event_lines.specs.declared.line_reader.Found.TheVariants as founds
use Rattle.event_lines.proofs.Late.{begun_kept, late_next, late_then}
use Rattle.event_lines.proofs.LineLemmas.{finds_whole, finds_last, finds_begun, longer}
use Rattle.event_lines.proofs.line_reader.LineReader.next_line.Goals as goal

pub returns-in_default-clause-reads : goal.returns-in_default-clause-reads
returns-in_default-clause-reads g c =
    let some : vec_len c.loop-byte.self.line ≢ 0 = eqb-false _ _ (sym c.if-is_empty.ensures) in
    finds_last _ _ _ c.loop-byte.self.line.items c.loop-byte.invariant.consumed (rw c.in_default.is at c.in_ok-byte.ensures.byte)
    c.loop-byte.invariant.no_end c.loop-byte.invariant.within (omega (arith, some, c.loop-byte.self.line.ok))

pub returns-then-byte-eq10-clause-reads : goal.returns-then-byte-eq10-clause-reads
returns-then-byte-eq10-clause-reads g c =
    let byte = rw c.in-Some.is at c.in_ok-byte.ensures.byte in
    let end = rw c.if-byte-eq10.true at byte in
    finds_whole _ _ _ c.loop-byte.self.line.items c.loop-byte.invariant.consumed end c.loop-byte.invariant.no_end c.loop-byte.invariant.within

pub returns-then-len-ge-MAX_LINE_BYTES-clause-reads : goal.returns-then-len-ge-MAX_LINE_BYTES-clause-reads
returns-then-len-ge-MAX_LINE_BYTES-clause-reads g c =
    let byte = rw c.in-Some.is at c.in_ok-byte.ensures.byte in
    finds_begun founds.TooLong _ _ _ _ c.loop-byte.self.line.items c.in-Some.byte c.loop-byte.invariant.consumed byte
    c.loop-byte.invariant.no_end (ne_eqb _ _ c.if-byte-eq10.false)
    (longer c.loop-byte.self.line.items c.in-Some.byte (omega (arith, c.loop-byte.self.line.ok))) (λ w. (cc)) c.loop-byte.invariant.within

pub returns-in_default-push-clause-reads : goal.returns-in_default-push-clause-reads
returns-in_default-push-clause-reads g c =
    let byte = rw c.in-Some.is at c.in_ok-byte.ensures.byte in
    finds_begun founds.NoMemory _ _ _ _ c.loop-byte.self.line.items c.in-Some.byte c.loop-byte.invariant.consumed byte
    c.loop-byte.invariant.no_end (ne_eqb _ _ c.if-byte-eq10.false) (λ more. tt) (λ w. (cc)) c.loop-byte.invariant.within

pub returns-in_err-byte-clause-waits : goal.returns-in_err-byte-clause-waits
returns-in_err-byte-clause-waits g c = waits_then (λ u v. v ∙ u) c.loop-byte.invariant.waits c.next.ensures.waits

pub returns-then-is_empty-clause-waits : goal.returns-then-is_empty-clause-waits
returns-then-is_empty-clause-waits g c = waits_then (λ u v. v ∙ u) c.loop-byte.invariant.waits c.next.ensures.waits

pub returns-in_default-clause-waits : goal.returns-in_default-clause-waits
returns-in_default-clause-waits g c = waits_then (λ u v. v ∙ u) c.loop-byte.invariant.waits c.next.ensures.waits

pub returns-then-byte-eq10-clause-waits : goal.returns-then-byte-eq10-clause-waits
returns-then-byte-eq10-clause-waits g c = waits_then (λ u v. v ∙ u) c.loop-byte.invariant.waits c.next.ensures.waits

pub returns-then-len-ge-MAX_LINE_BYTES-clause-waits : goal.returns-then-len-ge-MAX_LINE_BYTES-clause-waits
returns-then-len-ge-MAX_LINE_BYTES-clause-waits g c = waits_then (λ u v. v ∙ u) c.loop-byte.invariant.waits c.next.ensures.waits

pub returns-in_default-push-clause-waits : goal.returns-in_default-push-clause-waits
returns-in_default-push-clause-waits g c = waits_then (λ u v. v ∙ u) c.loop-byte.invariant.waits c.next.ensures.waits

pub returns-in_err-byte-clause-begun : goal.returns-in_err-byte-clause-begun
returns-in_err-byte-clause-begun g c =
    let r = err_from_is_err_and c.from_residual.result c.from_residual.ensures.1 in
    rw r.1 (begun_kept _ _ _ c.loop-byte.self.line.items c.loop-byte.invariant.consumed c.in_err-byte.ensures.kept.0 c.loop-byte.invariant.no_end c.loop-byte.invariant.within)

pub returns-then-byte-eq10-clause-late : goal.returns-then-byte-eq10-clause-late
returns-then-byte-eq10-clause-late g c =
    late_then _ _ c.next.new.self
    (late_next (prepend_known c.args.self.now.chunk (g.R.Reader.left c.args.reader.now)) (g.R.Reader.left c.loop-byte.reader) (g.R.Reader.left c.next.new.reader) c.loop-byte.self.chunk c.next.new.self
    c.loop-byte.self.line.items c.loop-byte.invariant.no_end c.loop-byte.invariant.consumed (λ v. (ap g.R.Reader.left (sym v), λ u. v ∙ u)) c.loop-byte.invariant.late
    c.in-Some.byte (rw c.in-Some.is at c.in_ok-byte.ensures.byte) (rw c.in-Some.is at c.in_ok-byte.ensures.anew))

pub returns-then-len-ge-MAX_LINE_BYTES-clause-late : goal.returns-then-len-ge-MAX_LINE_BYTES-clause-late
returns-then-len-ge-MAX_LINE_BYTES-clause-late g c =
    late_then _ _ c.next.new.self
    (late_next (prepend_known c.args.self.now.chunk (g.R.Reader.left c.args.reader.now)) (g.R.Reader.left c.loop-byte.reader) (g.R.Reader.left c.next.new.reader) c.loop-byte.self.chunk c.next.new.self
    c.loop-byte.self.line.items c.loop-byte.invariant.no_end c.loop-byte.invariant.consumed (λ v. (ap g.R.Reader.left (sym v), λ u. v ∙ u)) c.loop-byte.invariant.late
    c.in-Some.byte (rw c.in-Some.is at c.in_ok-byte.ensures.byte) (rw c.in-Some.is at c.in_ok-byte.ensures.anew))

pub returns-in_default-push-clause-late : goal.returns-in_default-push-clause-late
returns-in_default-push-clause-late g c =
    late_then _ _ c.next.new.self
    (late_next (prepend_known c.args.self.now.chunk (g.R.Reader.left c.args.reader.now)) (g.R.Reader.left c.loop-byte.reader) (g.R.Reader.left c.next.new.reader) c.loop-byte.self.chunk c.next.new.self
    c.loop-byte.self.line.items c.loop-byte.invariant.no_end c.loop-byte.invariant.consumed (λ v. (ap g.R.Reader.left (sym v), λ u. v ∙ u)) c.loop-byte.invariant.late
    c.in-Some.byte (rw c.in-Some.is at c.in_ok-byte.ensures.byte) (rw c.in-Some.is at c.in_ok-byte.ensures.anew))

pub loop-byte-preserved : goal.loop-byte-preserved
loop-byte-preserved g c = record {
  consumed = grind (arith, common_steps);
  within = grind (arith, common_steps);
  no_end = grind (arith, common_steps);
  late =
      late_next (prepend_known c.args.self.now.chunk (g.R.Reader.left c.args.reader.now)) (g.R.Reader.left c.loop-byte.reader) (g.R.Reader.left c.next.new.reader) c.loop-byte.self.chunk c.next.new.self
      c.loop-byte.self.line.items c.loop-byte.invariant.no_end c.loop-byte.invariant.consumed (λ v. (ap g.R.Reader.left (sym v), λ u. v ∙ u)) c.loop-byte.invariant.late
      c.in-Some.byte (rw c.in-Some.is at c.in_ok-byte.ensures.byte) (rw c.in-Some.is at c.in_ok-byte.ensures.anew);
  reader_works = c.in_ok-byte.ensures.marks.0;
  writer_works = c.in_ok-byte.ensures.marks.1;
  waits = rw c.in_ok-byte.ensures.marks.1 at (waits_then (λ u v. v ∙ u) c.loop-byte.invariant.waits c.next.ensures.waits);
}
