use Rattle.std.proofs.Common.{◌∙◌, ap, subst, sym}
use Rattle.native_peers.specs.Moves.{SameMoves}
use Rattle.native_peers.specs.Pool.{entries, seen}
use Rattle.host_peers.specs.Stock.{moves_of, with_peer}
use Rattle.host_peers.proofs.Putting.{put_stocked}
use Rattle.host_peers.proofs.adding.put_new.Goals as goal

pub returns-clause-stocked : goal.returns-clause-stocked
returns-clause-stocked g c kept are =
    put_stocked (λ p. (g.dyn-1.0.entry p.peer.vtable).1.state p.peer.value) (λ p. (g.dyn-1.0.entry p.peer.vtable).1.moves p.peer.value)
    (entries c.args.pool.now) (entries c.put.new.pool) (record { name = c.args.name.now; kind = c.args.kind }) _
    (λ p is. subst (λ b. SameMoves ((g.dyn-1.0.entry b.vtable).1.moves b.value) (moves_of c.args.kind)) (sym is.1) c.requires.moves)
    c.in_ok-put.ensures.added c.put.ensures.passed_over
    (c.in_ok-put.ensures.seen
    ∙ ap (λ t. with_peer (seen (λ p. (g.dyn-1.0.entry p.peer.vtable).1.state p.peer.value) (entries c.args.pool.now)) (record { name = c.args.name.now; state = t })) c.requires.new)
    kept are
