use Rattle.std.proofs.Common.{◌≡◌, List, None, map, sym, ap, ◌∙◌, arith}
use Rattle.law_peers.specs.Needs.{Need, mismatch, mismatch_with}
use Rattle.native_peers.specs.Matching.{as_peers, mismatch_of, need_view}
use Rattle.ui_engine.proofs.Beginning.{begun_at}
use Rattle.ui_engine.proofs.starts.begin.Goals as goal

pub returns-clause-begun : goal.returns-clause-begun
returns-clause-begun g c =
    let pool = g.P.Peers.seen c.args.pool.now in
    let d = c.args.definition.now in
    let matches : mismatch d (as_peers pool) ≡ None =
    ap (λ (ns : List Need). mismatch_with ns (as_peers pool)) (sym c.in_ok-needs.ensures ∙ ap (map need_view) (sym c.as_slice.ensures.value))
    ∙ sym c.matches.ensures ∙ ap mismatch_of c.in_default.is in
    begun_at d pool c.in_ok-seats.seats c.in_ok-beginning.beginning matches c.in_ok-seats.ensures c.in_ok-beginning.ensures.rests c.in_ok-beginning.ensures.world c.in_ok-beginning.ensures.forwards
    (λ a. let depth = c.requires.depth a in let most = c.room_for-room.ensures.depth in let room = c.in_ok-beginning.ensures.room in omega (arith, depth, most, room))
