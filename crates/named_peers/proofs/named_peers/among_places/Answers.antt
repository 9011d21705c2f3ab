use Rattle.std.proofs.Common.{sym, arith}
use Rattle.definitions.specs.EntryView.{entry_view}
use Rattle.named_peers.specs.NamedPeers.{named_of_kind}
use Rattle.named_peers.proofs.Seeking.{counted_on, found_here, looked_on, past_all}
use Rattle.named_peers.proofs.named_peers.among_places.Goals as goal

pub places-preserved : goal.places-preserved
places-preserved c =
    let f = named_of_kind c.args.definition.now c.args.is_prototype in
    let places = c.args.definition.now.places in
    let entry = entry_view c.in-Some.entry in
    record {
      same = looked_on f places c.places.place entry (sym c.in-Some.ensures) c.places.left c.in-Beyond.rest c.args.number c.in-Beyond.ensures c.places.invariant.same;
      past = counted_on f places c.places.place entry (sym c.in-Some.ensures) c.places.left c.in-Beyond.rest c.args.number c.in-Beyond.ensures c.places.invariant.past;
    }

pub returns-in-Found : goal.returns-in-Found
returns-in-Found c =
    found_here (named_of_kind c.args.definition.now c.args.is_prototype) c.args.definition.now.places c.places.place (entry_view c.in-Some.entry) (sym c.in-Some.ensures)
    c.places.left c.args.number (c.in-Found.name.now, c.in-Found.shape.now) c.in-Found.ensures c.places.invariant.same

pub returns : goal.returns
returns c =
    past_all (named_of_kind c.args.definition.now c.args.is_prototype) c.args.definition.now.places c.places.place c.places.left c.args.number
    (omega (arith, c.place_count-place-end.ensures.count, c.places-test.false)) c.places.invariant.past
