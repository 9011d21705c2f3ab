use Rattle.std.proofs.Common.{◌≡◌, ◌<◌, ℕ, List, Option, length, slice_get, slice_set, subst, take, sym, ap, arith, ◌∙◌}
use Rattle.ui_machine.specs.Seq.{read}
use Rattle.ui_machine.specs.State.Peers.{first_left}
use Rattle.engine_world.specs.GotNames.{AreAllGot}
use Rattle.engine_world.specs.PeerPlaces.{first_of}
use Rattle.engine_world.proofs.GotPeers.{counted_got, named_past, read_beside, read_here}
use Rattle.engine_world.proofs.object_peers.count_got.Goals as goal

pub returns-then-place-len-clause-got : goal.returns-then-place-len-clause-got
returns-then-place-len-clause-got c d p at named are =
    let peers = c.args.seats.now in
    let got = c.args.got.now.items in
    let k = c.from-place.result in
    let number = c.number_at.ensures ∙ ap (λ (ns : List ℕ). read 0 ns c.args.place.0) c.deref.ensures.value ∙ ap (read 0 got) (sym c.from-place.ensures) in
    let within : k < length got = omega (arith, c.deref.ensures.len, ap (λ (ns : List ℕ). length ns) c.deref.ensures.value, c.len.ensures, c.if-place-len.true) in
    let past : (n : ℕ) → first_of peers (take n c.args.numbers.now) ≡ first_left peers (take n p.peers) = λ n. ap (λ (ns : List (Option ℕ)). first_of peers (take n ns)) named ∙ named_past peers p.peers n in
    counted_got d peers got k c.got-number.result p within (ap (slice_get d.places) c.from-place.ensures ∙ at)
    (λ known.
    sym (past c.got-number.result)
    ∙ c.got-number.ensures.got (ap (λ n. first_of peers (take n c.args.numbers.now)) number ∙ past (read 0 got k) ∙ known))
    are

pub returns-then-place-len-clause-all : goal.returns-then-place-len-clause-all
returns-then-place-len-clause-all c inside =
    let got = c.args.got.now.items in
    let k = c.from-place.result in
    let within : k < length got = omega (arith, c.deref.ensures.len, ap (λ (ns : List ℕ). length ns) c.deref.ensures.value, c.len.ensures, c.if-place-len.true) in
    subst (λ (n : ℕ). AreAllGot c.args.seats.now c.args.numbers.now n) (sym (read_here got k c.got-number.result within) ∙ ap (read 0 (slice_set got k c.got-number.result)) c.from-place.ensures)
    c.got-number.ensures.all

pub returns-then-place-len-clause-beside : goal.returns-then-place-len-clause-beside
returns-then-place-len-clause-beside c other apart =
    read_beside c.args.got.now.items c.from-place.result c.got-number.result other (λ same. apart (sym same ∙ c.from-place.ensures))
