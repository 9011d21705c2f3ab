use Rattle.std.proofs.Common.{◌≡◌, Ok, length, take, refl, ap, sym, subst, ◌∙◌}
use Rattle.std.proofs.lemmas.List.{length-map}
use Rattle.std.proofs.lemmas.Result.{err_from_is_err_and}
use Rattle.std.specs.Prelude.{string_bytes}
use Rattle.ui_machine.specs.Definition.{Definition}
use Rattle.engine_dispatches.specs.PoolView.{world_at}
use Rattle.engine_dispatches.proofs.Points.{same_here}
use Rattle.ui_engine.specs.SessionView.{ComesOn, state_at}
use Rattle.event_lines.specs.LineOutcome.{outcome_with}
use Rattle.event_lines.specs.LineStarts.{since}
use Rattle.event_lines.proofs.Runs.{said_since}
use Rattle.event_lines.proofs.SliceLemmas.{begun_definition, take_front, tells}
use Rattle.event_lines.proofs.event_file.tell.Goals as goal

pub returns-in-Begun-clause-tells : goal.returns-in-Begun-clause-tells
returns-in-Begun-clause-tells g c =
    let may = g.P.Peers.relations c.args.session.now.pool in
    let pool = g.P.Peers.seen c.args.session.now.pool in
    let left = g.P.Peers.seen c.follow.new.session.pool in
    let old = c.args.session.now.core in
    let new = c.start_line.new.session.core in
    let begun = c.in-Begun.ensures.begun in
    let w = world_at pool old.world in
    let def = begun_definition may old.definition begun.event w _ pool new c.in-Begun.progress begun.so_far in
    let so_far = subst (λ (d : Definition). ComesOn (Ok c.in-Begun.progress) may d begun.event w _ pool new) (sym def) begun.so_far in
    let known : length c.transcript-known.result.now ≡ length old.world.transcript = sym (length-map c.transcript-known.result.now string_bytes) ∙ ap length c.transcript-known.ensures in
    let before = ap (λ n. take n new.world.transcript) known ∙ take_front old.world.transcript new.world.transcript c.start_line.ensures.grows in
    let follows = rw c.start_line.ensures.pool at c.follow.ensures.follows in
    let f = rw (def, before) at (follows begun.event w so_far) in
    tells may pool old c.args.buffer.now begun.event begun.denotes c.args.number c.follow.result _ _ _ _ left c.follow.new.session.core c.args.found c.args.buffer.now refl c.in-Begun.ensures.starts f

pub returns-in-Begun-clause-same : goal.returns-in-Begun-clause-same
returns-in-Begun-clause-same g c = rw c.start_line.ensures.pool at c.follow.ensures.same

pub returns-in_err-put-in-Over-clause-tells : goal.returns-in_err-put-in-Over-clause-tells
returns-in_err-put-in-Over-clause-tells g c =
    let p = err_from_is_err_and c.from_residual.result c.from_residual.ensures.1 in
    let pool = g.P.Peers.seen c.args.session.now.pool in
    let puts = rw (said_since string_bytes c.transcript-known.result.now c.transcript.result.now _ _ c.transcript-known.ensures c.transcript.ensures) at c.in_err-put-in-Over.ensures.puts in
    rw p.1 (record {
      outcome = outcome_with c.in-Over.outcome (since c.args.session.now.core c.start_line.new.session.core);
      mid = state_at pool c.start_line.new.session.core;
      comes = c.in-Over.ensures.starts;
      forgets = rw (c.forget.ensures.lines, c.forget.ensures.pool, c.start_line.ensures.pool) refl;
      is = tt;
      puts = puts;
    })

pub returns-in_err-put-in-Over-clause-same : goal.returns-in_err-put-in-Over-clause-same
returns-in_err-put-in-Over-clause-same g c = rw (c.forget.ensures.pool, c.start_line.ensures.pool) (same_here _)

pub returns-in_ok-put-in-Over-clause-tells : goal.returns-in_ok-put-in-Over-clause-tells
returns-in_ok-put-in-Over-clause-tells g c =
    let pool = g.P.Peers.seen c.args.session.now.pool in
    let puts = rw (said_since string_bytes c.transcript-known.result.now c.transcript.result.now _ _ c.transcript-known.ensures c.transcript.ensures) at c.in_ok-put-in-Over.ensures.puts in
    record {
      outcome = outcome_with c.in-Over.outcome (since c.args.session.now.core c.start_line.new.session.core);
      mid = state_at pool c.start_line.new.session.core;
      comes = c.in-Over.ensures.starts;
      forgets = rw (c.forget.ensures.lines, c.forget.ensures.pool, c.start_line.ensures.pool) refl;
      is = (since c.args.session.now.core c.start_line.new.session.core, refl);
      puts = puts;
    }

pub returns-in_ok-put-in-Over-clause-same : goal.returns-in_ok-put-in-Over-clause-same
returns-in_ok-put-in-Over-clause-same g c = rw (c.forget.ensures.pool, c.start_line.ensures.pool) (same_here _)
