use Rattle.std.proofs.Common.{◌∙◌, sym, ap, ◌≤◌, ◌<◌, List, length, map, slice_get, arith}
use Rattle.law_typing.specs.Graph.{attached_for}
use Rattle.law_typing.specs.Graph.Channels.{of_class}
use Rattle.verify_graph.specs.ChannelView.{channel_of}
use Rattle.verify_channels.specs.Attached.{handler_view}
use Rattle.verify_channels.specs.Meanings.{attached_meanings, meant, signal_of_channel}
use Rattle.verify_channels.specs.SignalLists.{list_of}
use Rattle.verify_channels.specs.declared.attached_handlers.AttachedHandler.{AttachedHandler}
use Rattle.verify_channels.proofs.MeantLists.{attached_at, attached_here, attached_length, got, meant_of_signal, no_class}
use Rattle.verify_channels.proofs.attached_handlers.attached_for.Goals as goal

pub returns-then-place-lists : goal.returns-then-place-lists
returns-then-place-lists c =
    let d = c.args.lookups.now in
    let channel = c.args.channel.now in
    let len = attached_length d c.args.lists.now c.requires in
    let behind : length d.places ≤ channel.place.0 = omega (arith, len, c.from-place.ensures) in
    c.new.ensures.items ∙ sym (ap (of_class (attached_for d (channel_of channel))) (no_class d channel.place.0 behind))

pub returns : goal.returns
returns c =
    let d = c.args.lookups.now in
    let channel = c.args.channel.now in
    let place = c.from-place.result in
    let s = c.index-lists-place.result in
    let within : place < length c.args.lists.now = omega arith in
    let number = signal_of_channel (channel_of channel) in
    c.in_ok-programs.ensures
    ∙ (ap (λ (xs : List AttachedHandler). meant (channel_of channel) (map handler_view xs)) (c.list-handlers.ensures ∙ ap (list_of s) c.signal_of.ensures)
    ∙ (ap (meant (channel_of channel))
    (attached_at d c.args.lists.now channel.place.0 number s c.requires (ap (slice_get c.args.lists.now) (sym c.from-place.ensures) ∙ got c.args.lists.now place s within c.index-lists-place.is))
    ∙ (meant_of_signal (channel_of channel) (attached_meanings d channel.place.0) ∙ attached_here d channel)))
