use Rattle.std.proofs.lemmas.Result.{err_from_is_err_and}
use Rattle.event_lines.proofs.Pieces.{passes_then, tears_early, tears_then}
use Rattle.event_lines.proofs.slices.stop.Goals as goal

pub returns-in_err-put_new-clause-puts : goal.returns-in_err-put_new-clause-puts
returns-in_err-put_new-clause-puts g c =
    let p = err_from_is_err_and c.from_residual.result c.from_residual.ensures.1 in
    rw p.1 (tears_early _ c.in_err-put_new.ensures.puts)

pub returns-in_err-put_stopped-clause-puts : goal.returns-in_err-put_stopped-clause-puts
returns-in_err-put_stopped-clause-puts g c =
    let p = err_from_is_err_and c.from_residual-in_err-put_stopped.result c.from_residual-in_err-put_stopped.ensures.1 in
    rw p.1 (tears_then c.in_ok-put_new.ensures.puts c.in_err-put_stopped.ensures.puts)

pub returns-clause-puts : goal.returns-clause-puts
returns-clause-puts g c = passes_then c.in_ok-put_new.ensures.puts c.in_ok-put_stopped.ensures.puts
