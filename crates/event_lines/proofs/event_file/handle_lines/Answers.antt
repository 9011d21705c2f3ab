use Rattle.std.proofs.Common.{◌≡◌, arith, [], ◌∷◌, ◌++◌, ◌∙◌, ap, refl, sym, length, append-nil, inl, inr}
use Rattle.engine_dispatches.proofs.Points.{same_here, same_on}
use Rattle.ui_engine.specs.SessionView.{state_at, without_lines}
use Rattle.event_lines.specs.Events.{event_replies}
use Rattle.event_lines.specs.Lines.{lines_of}
use Rattle.event_lines.specs.Reading.{IsBegun, IsLate, most_ahead}
use Rattle.event_lines.specs.EventFileRun.{AllTold, ends, status_after}
use Rattle.event_lines.proofs.Befores.{line_before}
use Rattle.event_lines.proofs.LineLemmas.{known_further, known_later}
use Rattle.event_lines.proofs.Runs.{IsAt, IsNear, at_start, at_next, clean_more, came_start, came_on, came_fine, came_told, told_cut, told_torn, told_whole, bytes_of, bytes_of_all, lines_so_far, lines_left, lines_all, near_first, near_end, near_begun, near_ahead, all_told, ended_if, held_none, late_begun, status_is_no_fault}
use Rattle.event_lines.proofs.event_file.handle_lines.Goals as goal

pub loop-next-init : goal.loop-next-init
loop-next-init g c =
    let may = (g.P.Peers.relations c.args.session.now.pool) in
    let old = state_at (g.P.Peers.seen c.args.session.now.pool) c.args.session.now.core in
    record {
      came = (
        [],
        [],
        came_start (event_replies may) without_lines old c.args.gather.now _ (g.R.Reader.left c.args.reader.now) (g.R.Reader.reads c.args.reader.now) (g.W.Writer.sent c.args.writer.now) refl,
        rw c.new.ensures (at_start (g.R.Reader.left c.args.reader.now)),
      );
      same = same_here may;
      reader_works = c.requires.reader;
      writer_works = c.requires.writer;
      works = λ e. absurd (omega arith);
      within = omega arith;
    }

pub returns-in_default-clause-file_run : goal.returns-in_default-clause-file_run
returns-in_default-clause-file_run g c =
    let may = (g.P.Peers.relations c.args.session.now.pool) in
    let came = c.loop-next.invariant.came in
    let begun = c.in_default.ensures.begun in
    let waits = c.next_line.ensures.waits in
    let near = known_further _ _ _ _ _ (λ xs zs. IsNear came.0 most_ahead xs zs) came.3 begun (λ xs ys zs h b. near_begun came.0 xs ys zs h b) in
    let late = known_later _ _ (λ xs ys. IsBegun xs ys) (λ xs ys. IsLate xs ys) begun late_begun in
    let on = came_on (event_replies may) without_lines came.2 waits (λ u. (ap g.R.Reader.left (sym u), λ v. u ∙ v)) near (ended_if _ _ _ came.0 came.3 (inr late)) 1 waits.few in
    let none = held_none _ _ c.in_default.ensures.marks (λ u. ap g.R.Reader.failed u ∙ c.loop-next.invariant.reader_works) waits.out in
    let heard = known_further _ _ _ _ _ (λ xs zs. AllTold came.1 xs zs) came.3 begun (λ xs ys zs h b. all_told came.0 came.1 xs ys zs h b came.2.counts) in
    let bytes = bytes_of _ _ came.0 came.2.clean (known_further _ _ _ _ _ _ came.3 begun (λ xs ys zs h b. lines_left came.0 xs ys h)) in
    let end = told_cut (event_replies may) without_lines (lines_of bytes.0) bytes.2 _ on none (λ _. heard) bytes.3 in
    (bytes.0, bytes.1, end.0, end.1, end.2)

pub returns-in_default-next-clause-file_run : goal.returns-in_default-next-clause-file_run
returns-in_default-next-clause-file_run g c =
    let may = (g.P.Peers.relations c.args.session.now.pool) in
    let came = c.loop-next.invariant.came in
    let reads = rw c.in_default-next.is at c.in-Ok.ensures.reads in
    let near = near_ahead _ _ came.0 c.next_line.new.self.chunk
    (known_further _ _ _ _ _ (λ xs zs. IsNear came.0 0 xs zs) came.3 reads (λ xs ys zs h e. near_end came.0 xs ys zs h e)) c.next_line.ensures.small in
    let on = came_fine (event_replies may) without_lines c.in-Ok.ensures.marks.1 came.2 c.next_line.ensures.waits (λ u. (ap g.R.Reader.left (sym u), λ v. u ∙ v)) near (ended_if _ _ _ came.0 came.3 c.in-Ok.ensures.late) in
    let bytes = bytes_of_all _ _ came.0 came.2.clean (known_further _ _ _ _ _ (λ xs zs. _) came.3 reads (λ xs ys zs h e. lines_all came.0 xs ys h e)) in
    let end = told_whole (event_replies may) without_lines (lines_of bytes.0) [] _ _ on c.loop-next.invariant.works c.finish.ensures.finishes
    (bytes.2 ∙ sym (append-nil came.0)) (inl (came.2.counts ∙ ap length (sym bytes.2))) in
    (bytes.0, bytes.1, end.0, end.1, end.2)

pub returns-in_default-tell-clause-file_run : goal.returns-in_default-tell-clause-file_run
returns-in_default-tell-clause-file_run g c =
    let may = (g.P.Peers.relations c.args.session.now.pool) in
    let came = c.loop-next.invariant.came in
    let reads = rw c.in-Some.is at c.in-Ok.ensures.reads in
    let t = rw c.as_slice-line.ensures.value at c.in_default-tell.ensures.tells in
    let now = state_at (g.P.Peers.seen c.loop-next.session.pool) c.loop-next.session.core in
    let comes = line_before c.loop-next.invariant.same now t.mid c.loop-next.number reads.line t.outcome (t.comes reads.line reads.is) in
    let near = near_ahead _ _ came.0 c.next_line.new.self.chunk
    (known_further _ _ _ _ _ (λ xs zs. IsNear came.0 0 xs zs) came.3 reads.first (λ xs ys zs h f. near_first came.0 c.in-Some.found reads.line xs ys zs h f)) c.next_line.ensures.small in
    let on = came_fine (event_replies may) without_lines c.in-Ok.ensures.marks.1 came.2 c.next_line.ensures.waits (λ u. (ap g.R.Reader.left (sym u), λ v. u ∙ v)) near (ended_if _ _ _ came.0 came.3 c.in-Ok.ensures.late) in
    let bytes = bytes_of _ _ (came.0 ++ reads.line ∷ []) (clean_more came.0 reads.line came.2.clean reads.one)
    (known_further _ _ _ _ _ _ came.3 reads.first (λ xs ys zs h f. lines_so_far came.0 c.in-Some.found reads.line xs ys zs h f)) in
    let end = told_torn (event_replies may) without_lines (lines_of bytes.0) bytes.2 reads.line t.outcome _ c.in_default-tell.ensures.marks on comes t.puts bytes.3 in
    rw t.forgets (bytes.0, bytes.1, end.0, end.1, end.2)

pub returns-then-ends-clause-file_run : goal.returns-then-ends-clause-file_run
returns-then-ends-clause-file_run g c =
    let may = (g.P.Peers.relations c.args.session.now.pool) in
    let came = c.loop-next.invariant.came in
    let reads = rw c.in-Some.is at c.in-Ok.ensures.reads in
    let t = rw c.as_slice-line.ensures.value at c.in-Ok-tell.ensures.tells in
    let now = state_at (g.P.Peers.seen c.loop-next.session.pool) c.loop-next.session.core in
    let comes = line_before c.loop-next.invariant.same now t.mid c.loop-next.number reads.line t.outcome (t.comes reads.line reads.is) in
    let near = near_ahead _ _ came.0 c.next_line.new.self.chunk
    (known_further _ _ _ _ _ (λ xs zs. IsNear came.0 0 xs zs) came.3 reads.first (λ xs ys zs h f. near_first came.0 c.in-Some.found reads.line xs ys zs h f)) c.next_line.ensures.small in
    let on = came_fine (event_replies may) without_lines c.in-Ok.ensures.marks.1 came.2 c.next_line.ensures.waits (λ u. (ap g.R.Reader.left (sym u), λ v. u ∙ v)) near (ended_if _ _ _ came.0 came.3 c.in-Ok.ensures.late) in
    let told = came_told (event_replies may) without_lines reads.line t.outcome on comes reads.one t.puts in
    let status : c.status_after-status.result ≡ status_after c.loop-next.status t.outcome = c.status_after-status.ensures t.is.0 ∙ ap (status_after c.loop-next.status) (sym t.is.1) in
    let ended : c.ends.result ≡ ends t.outcome = c.ends.ensures t.is.0 ∙ ap ends (sym t.is.1) in
    let bytes = bytes_of _ _ (came.0 ++ reads.line ∷ []) (clean_more came.0 reads.line came.2.clean reads.one)
    (known_further _ _ _ _ _ _ came.3 reads.first (λ xs ys zs h f. lines_so_far came.0 c.in-Some.found reads.line xs ys zs h f)) in
    let finishes = rw status at c.finish-then-ends.ensures.finishes in
    let end = told_whole (event_replies may) without_lines (lines_of bytes.0) bytes.2 _ _ told (status_is_no_fault c.loop-next.status t.outcome c.loop-next.invariant.works)
    finishes bytes.3 (inr (told.over ∙ sym ended ∙ c.if-ends.true)) in
    rw t.forgets (bytes.0, bytes.1, end.0, end.1, end.2)

pub returns-in_default-tell-clause-same : goal.returns-in_default-tell-clause-same
returns-in_default-tell-clause-same g c = same_on c.loop-next.invariant.same c.tell.ensures.same

pub returns-then-ends-clause-same : goal.returns-then-ends-clause-same
returns-then-ends-clause-same g c = same_on c.loop-next.invariant.same c.tell.ensures.same

pub loop-next-preserved : goal.loop-next-preserved
loop-next-preserved g c =
    let may = (g.P.Peers.relations c.args.session.now.pool) in
    let came = c.loop-next.invariant.came in
    let reads = rw c.in-Some.is at c.in-Ok.ensures.reads in
    let t = rw c.as_slice-line.ensures.value at c.in-Ok-tell.ensures.tells in
    let now = state_at (g.P.Peers.seen c.loop-next.session.pool) c.loop-next.session.core in
    let comes = line_before c.loop-next.invariant.same now t.mid c.loop-next.number reads.line t.outcome (t.comes reads.line reads.is) in
    let near = near_ahead _ _ came.0 c.next_line.new.self.chunk
    (known_further _ _ _ _ _ (λ xs zs. IsNear came.0 0 xs zs) came.3 reads.first (λ xs ys zs h f. near_first came.0 c.in-Some.found reads.line xs ys zs h f)) c.next_line.ensures.small in
    let on = came_fine (event_replies may) without_lines c.in-Ok.ensures.marks.1 came.2 c.next_line.ensures.waits (λ u. (ap g.R.Reader.left (sym u), λ v. u ∙ v)) near (ended_if _ _ _ came.0 came.3 c.in-Ok.ensures.late) in
    let told = came_told (event_replies may) without_lines reads.line t.outcome on comes reads.one t.puts in
    let status : c.status_after-status.result ≡ status_after c.loop-next.status t.outcome = c.status_after-status.ensures t.is.0 ∙ ap (status_after c.loop-next.status) (sym t.is.1) in
    let ended : c.ends.result ≡ ends t.outcome = c.ends.ensures t.is.0 ∙ ap ends (sym t.is.1) in
    let goes = sym c.if-ends.false ∙ ended in
    let whole = c.in-Ok-tell.ensures.goes_on t.is.0 (sym (c.ends.ensures t.is.0) ∙ c.if-ends.false) in
    record {
      came = (
        came.0 ++ reads.line ∷ [],
        came.1 ++ t.outcome ∷ [],
        rw (t.forgets, status, goes) told,
        known_further _ _ _ _ _ (λ xs zs. IsAt (came.0 ++ reads.line ∷ []) xs zs) came.3 reads.first (λ xs ys zs h f. at_next came.0 c.in-Some.found reads.line xs ys zs h f whole.1),
      );
      same = same_on c.loop-next.invariant.same c.tell.ensures.same;
      reader_works = c.in-Ok.ensures.marks.0;
      writer_works = c.in-Ok-tell.ensures.marks;
      works = rw status (status_is_no_fault c.loop-next.status t.outcome c.loop-next.invariant.works);
      within = omega (arith, whole.0);
    }
