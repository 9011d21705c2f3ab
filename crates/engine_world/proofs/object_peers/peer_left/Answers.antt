use Rattle.std.proofs.Common.{◌≡◌, ℕ, List, Option, None, Vec, Global, slice_get, take, sym, ap, subst, ◌∙◌}
use Rattle.std.specs.Prelude.{IfSome}
use Rattle.ui_machine.specs.Seq.{read}
use Rattle.ui_machine.specs.State.Peers.{first_left}
use Rattle.engine_world.specs.PeerPlaces.{Numbered, first_of}
use Rattle.engine_world.proofs.GotPeers.{left_past, named_left, named_past, numbers_kept}
use Rattle.engine_world.proofs.object_peers.peer_left.Goals as goal

pub returns-clause-left : goal.returns-clause-left
returns-clause-left c d p at passes =
    let w = c.args.engine.now.world in
    let peers = w.seats in
    let numbers = c.numbers_at-numbers.result.now in
    let n = c.number_at-got.result in
    let named : Numbered peers p.peers numbers = numbers_kept d peers w.peer_numbers.items c.args.place.0 p numbers at (subst (λ (l : List (Vec (Option ℕ) Global)). IfSome (slice_get l c.args.place.0) (λ ns. numbers ≡ ns.items)) c.deref.ensures.value c.numbers_at-numbers.ensures) passes.numbered in
    let got : first_of peers (take n numbers) ≡ None =
    ap (λ (ns : List (Option ℕ)). first_of peers (take n ns)) named ∙ named_past peers p.peers n
    ∙ ap (λ m. first_left peers (take m p.peers)) (c.number_at-got.ensures ∙ ap (λ (ns : List ℕ). read 0 ns c.args.place.0) c.deref-2.ensures.value) ∙ passes.got c.args.place.0 p at in
    c.first_left.ensures.first ∙ ap (first_of peers) c.numbers_from.ensures ∙ sym (left_past peers numbers n got) ∙ ap (first_of peers) named ∙ named_left peers p.peers
