use Rattle.std.proofs.Common.{◌≡◌, ℕ, List, Option, Ok, Vec, Global, slice_get, sym, ap, subst, ◌∙◌}
use Rattle.std.specs.Prelude.{IfSome}
use Rattle.engine_world.specs.PeerPlaces.{Numbered}
use Rattle.engine_world.specs.View.{world_of}
use Rattle.engine_world.proofs.GotPeers.{numbers_kept}
use Rattle.engine_world.proofs.PeerNumbers.{first_within, own_found}
use Rattle.engine_world.proofs.object_peers.own_peer.Goals as goal

pub returns-clause-own : goal.returns-clause-own
returns-clause-own c =
    let d = c.args.definition.now in
    let w = c.args.engine.now.world in
    let found = own_found d (world_of w) c.args.place.0 c.requires.able in
    let named : Numbered w.seats found.0.peers c.numbers_at.result.now = numbers_kept d w.seats w.peer_numbers.items c.args.place.0 found.0 c.numbers_at.result.now found.1 (subst (λ (l : List (Vec (Option ℕ) Global)). IfSome (slice_get l c.args.place.0) (λ ns. c.numbers_at.result.now ≡ ns.items)) c.deref.ensures.value c.numbers_at.ensures) c.requires.numbered in
    found.2 ∙ ap (λ (o : Option ℕ). Ok o) (sym (c.first_number.ensures w.seats found.0.peers named))

pub returns-clause-within : goal.returns-clause-within
returns-clause-within c =
    let d = c.args.definition.now in
    let w = c.args.engine.now.world in
    let found = own_found d (world_of w) c.args.place.0 c.requires.able in
    let named : Numbered w.seats found.0.peers c.numbers_at.result.now = numbers_kept d w.seats w.peer_numbers.items c.args.place.0 found.0 c.numbers_at.result.now found.1 (subst (λ (l : List (Vec (Option ℕ) Global)). IfSome (slice_get l c.args.place.0) (λ ns. c.numbers_at.result.now ≡ ns.items)) c.deref.ensures.value c.numbers_at.ensures) c.requires.numbered in
    first_within w.seats found.0.peers _ (c.first_number.ensures w.seats found.0.peers named)
