use Rattle.std.proofs.Common.{◌∙◌, sym, ap, ◌+◌, ◌++◌, ◌<◌, [], ◌∷◌, length, drop, map, arith}
use Rattle.definition_format.specs.Meaning.{given_property}
use Rattle.verify_operands.proofs.MappedLists.{from_entry}
use Rattle.verify_graph.specs.ChannelView.{channels_of}
use Rattle.verify_graph.specs.Makings.{forwards_in}
use Rattle.verify_graph.proofs.ChannelLists.{adds}
use Rattle.verify_graph.proofs.ForwardLists.{next_forward}
use Rattle.verify_graph.proofs.forward_values.add_forwards.Goals as goal

pub loop-number-preserved : goal.loop-number-preserved
loop-number-preserved c =
    let d = c.args.lookups.now in
    let place = c.args.place.0 in
    let given = c.args.given.now in
    let n = c.loop-number.number in
    let x = c.index-given-number.result in
    let so_far = channels_of c.loop-number.channels.items in
    let within : n < length given = omega (arith, c.loop-number-test.true) in
    adds (channels_of c.args.channels.now.items) so_far (channels_of c.add_forward.new.channels.items) (forwards_in d place (given_property x ∷ []))
    (forwards_in d place (drop (n + 1) (map given_property given))) (forwards_in d place (map given_property given))
    c.in_ok-add_forward.ensures
    (ap (λ xs. so_far ++ xs) (sym (next_forward d place (map given_property given) n (given_property x) (drop (n + 1) (map given_property given))
    (from_entry given_property given n x within c.index-given-number.is))) ∙ c.loop-number.invariant)
