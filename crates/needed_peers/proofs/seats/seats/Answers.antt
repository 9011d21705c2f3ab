use Rattle.std.proofs.Common.{◌∙◌, ap, sym, map, string_bytes, subst, Some, List}
use Rattle.std.specs.Prelude.{IsTrue}
use Rattle.ui_machine.specs.Definition.Signals.{Method}
use Rattle.native_peers.specs.Matching.{need_view}
use Rattle.peer_shapes.specs.MethodViews.{is_plain_shape}
use Rattle.needed_peers.proofs.Seating.{holds, needed, new_name, seated, the_peer}
use Rattle.needed_peers.proofs.seats.seats.Goals as goal

pub shape_of-requires-in-peers : goal.shape_of-requires-in-peers
shape_of-requires-in-peers g c =
    let items = g.P.Peers.seen c.args.pool.now in
    let p = the_peer items c.peers.k _ c.name.ensures in
    record {
      needed = needed items c.peers.k p.0 p.1 (map need_view c.args.needs.now) c.left-k-end.ensures.apart c.requires.matches c.as_str.result.now
          (c.as_str.ensures.value ∙ c.in_ok-name.ensures.ok ∙ p.2) c.peers.k
          ∙ ap (λ (methods : List Method). Some methods) (sym (holds items c.peers.k p.0 _ p.1 c.shape-methods.ensures.methods));
    }

pub add-requires-clause-fresh : goal.add-requires-clause-fresh
add-requires-clause-fresh g c =
    let items = g.P.Peers.seen c.args.pool.now in
    let p = the_peer items c.peers.k _ c.name.ensures in
    new_name items c.peers.k p.0 p.1 c.peers.seats (string_bytes c.in_ok-name.name) c.peers.invariant
    (c.in_ok-name.ensures.ok ∙ p.2) c.left-k-end.ensures.apart

pub add-requires-clause-plain : goal.add-requires-clause-plain
add-requires-clause-plain g c =
    let items = g.P.Peers.seen c.args.pool.now in
    let p = the_peer items c.peers.k _ c.name.ensures in
    let same = c.in_ok-shape.ensures ∙ holds items c.peers.k p.0 _ p.1 c.shape-methods.ensures.methods in
    subst (λ (methods : List Method). IsTrue (is_plain_shape methods)) (sym same) (holds items c.peers.k p.0 _ p.1 c.shape-methods.ensures.plain)

pub peers-preserved : goal.peers-preserved
peers-preserved g c =
    let items = g.P.Peers.seen c.args.pool.now in
    let p = the_peer items c.peers.k _ c.name.ensures in
    let same = c.in_ok-shape.ensures ∙ holds items c.peers.k p.0 _ p.1 c.shape-methods.ensures.methods in
    seated items c.peers.k p.0 p.1 c.peers.seats c.add.new.self (string_bytes c.in_ok-name.name) c.in_ok-shape.shape.value c.is_open.result
    c.peers.invariant c.in_ok-add.ensures.ok (c.in_ok-name.ensures.ok ∙ p.2) same (holds items c.peers.k p.0 _ p.1 c.is_open.ensures)
