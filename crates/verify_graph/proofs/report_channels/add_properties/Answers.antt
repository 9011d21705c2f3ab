use Rattle.std.proofs.Common.{◌∙◌, sym, ap, ◌+◌, ◌++◌, ◌<◌, length, drop, slice_get, arith}
use Rattle.ui_machine.specs.Definition.{Definition}
use Rattle.ui_machine.specs.Definition.Lookups.{specs_of}
use Rattle.law_typing.specs.Graph.Channels.{readable_from}
use Rattle.verify_graph.specs.ChannelView.{channels_of, readable_one}
use Rattle.verify_graph.proofs.ChannelLists.{adds, next_property}
use Rattle.verify_graph.proofs.report_channels.add_properties.Goals as goal

pub loop-slot-preserved : goal.loop-slot-preserved
loop-slot-preserved c =
    let place = c.args.place.0 in
    let slot = c.loop-slot.slot in
    let specs = specs_of c.args.lookups.now c.args.class in
    let so_far = channels_of c.loop-slot.channels.items in
    let count = ap (λ (d : Definition). length (specs_of d c.args.class)) c.definition.ensures in
    let within : slot < length specs = omega (arith, c.loop-slot-test.true, c.slots-slot-end.ensures.slots, count) in
    record {
      added =
          adds (channels_of c.args.channels.now.items) so_far (channels_of c.add_property.new.channels.items) (readable_one place slot (slice_get specs slot))
          (readable_from place (slot + 1) (drop (slot + 1) specs)) (readable_from place 0 specs) c.in_ok-add_property.ensures.added
          (ap (λ xs. so_far ++ xs) (sym (next_property place slot specs within)) ∙ c.loop-slot.invariant.added);
      few = omega (arith, c.in_ok-add_property.ensures.few, c.loop-slot.invariant.few);
    }
