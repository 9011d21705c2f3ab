use Rattle.std.proofs.Common.{◌∙◌, sym, ap, ◌+◌, ◌++◌, ◌<◌, length, drop, map, arith}
use Rattle.std.specs.List.{list_any}
use Rattle.ui_machine.specs.Definition.{Definition}
use Rattle.ui_machine.specs.Definition.Lookups.{spec_of, specs_of}
use Rattle.definition_format.specs.Meaning.{given_property}
use Rattle.law_typing.specs.Graph.{set_from}
use Rattle.law_typing.specs.Graph.Channels.{present}
use Rattle.verify_graph.specs.ChannelView.{channels_of}
use Rattle.verify_graph.specs.Makings.{built_one, gives}
use Rattle.verify_graph.proofs.ChannelLists.{adds}
use Rattle.verify_graph.proofs.MakingLists.{next_built}
use Rattle.verify_graph.proofs.makings.add_all_built.Goals as goal

pub loop-slot-preserved : goal.loop-slot-preserved
loop-slot-preserved c =
    let d = c.args.lookups.now in
    let place = c.args.place.0 in
    let class = c.args.class in
    let given = c.args.given.now in
    let slot = c.loop-slot.slot in
    let so_far = channels_of c.loop-slot.channels.items in
    let count = ap (λ (e : Definition). length (specs_of e class)) c.definition.ensures in
    let within : slot < length (specs_of d class) = omega (arith, c.loop-slot-test.true, c.slots-slot-end.ensures.slots, count) in
    adds (channels_of c.args.channels.now.items) so_far (channels_of c.add_built.new.channels.items)
    (built_one place slot (list_any (gives place slot) given) (spec_of d class slot))
    (present d (set_from place (map given_property given) (slot + 1) (drop (slot + 1) (specs_of d class))))
    (present d (set_from place (map given_property given) 0 (specs_of d class))) c.in_ok-add_built.ensures
    (ap (λ xs. so_far ++ xs) (sym (next_built d place class c.requires given slot within)) ∙ c.loop-slot.invariant)
