use Rattle.std.proofs.Common.{◌∙◌, sym, ap, ◌≤◌, ◌<◌, [], List, length, map, arith}
use Rattle.std.proofs.lemmas.List.{length-map}
use Rattle.law_typing.specs.Graph.{place_of_channel}
use Rattle.verify_graph.specs.ChannelView.{channel_of}
use Rattle.verify_graph.proofs.Prefixes.{read_past}
use Rattle.verify_channels.specs.Connected.{group_view, placed}
use Rattle.verify_channels.specs.Meanings.{Meant, meant, signal_of_channel}
use Rattle.verify_channels.specs.SignalLists.{list_of}
use Rattle.verify_channels.specs.declared.connections.PlacedGroup.{PlacedGroup}
use Rattle.verify_channels.specs.declared.signal_lists.SignalLists.{SignalLists}
use Rattle.verify_channels.proofs.MeantLists.{got, place_is, read_mapped}
use Rattle.verify_channels.proofs.channels.groups_at.Goals as goal

pub returns-then-place-at : goal.returns-then-place-at
returns-then-place-at c =
    let channel = channel_of c.args.channel.now in
    let seen : SignalLists PlacedGroup → List Meant = λ s. map group_view (list_of s (signal_of_channel channel)) in
    let e = place_is c.args.channel.now in
    let len = length-map c.args.at.now seen in
    let behind : length (map seen c.args.at.now) ≤ place_of_channel channel = omega (arith, e, len, c.from-place.ensures) in
    c.new.ensures.items ∙ ap (meant channel) (read_past [] (map seen c.args.at.now) (place_of_channel channel) behind)

pub returns : goal.returns
returns c =
    let channel = channel_of c.args.channel.now in
    let number = signal_of_channel channel in
    let seen : SignalLists PlacedGroup → List Meant = λ s. map group_view (list_of s number) in
    let place = c.from-place.result in
    let s = c.index-at-place.result in
    let within : place < length c.args.at.now = omega arith in
    c.in_ok-groups.ensures
    ∙ (ap (λ (xs : List PlacedGroup). meant channel (map group_view xs)) (c.list.ensures ∙ ap (list_of s) c.signal_of.ensures)
    ∙ (ap (meant channel) (sym (read_mapped seen c.args.at.now place s (got c.args.at.now place s within c.index-at-place.is)))
    ∙ ap (λ p. meant channel (placed c.args.at.now p number)) (c.from-place.ensures ∙ sym (place_is c.args.channel.now))))
