use Rattle.std.proofs.Common.{◌∙◌, sym, ap, ◌≤◌, ◌++◌, ◌∷◌, [], length, map, take, arith}
use Rattle.std.proofs.lemmas.List.{length-map}
use Rattle.verify_graph.specs.ChannelView.{channel_of}
use Rattle.verify_graph.proofs.Prefixes.{take_all, take_last}
use Rattle.verify_channels.specs.Connected.{group_view}
use Rattle.verify_channels.specs.Meanings.{meant}
use Rattle.verify_channels.proofs.MeantLists.{meant_both}
use Rattle.verify_channels.proofs.connections.groups_for.Goals as goal

pub loop-number-preserved : goal.loop-number-preserved
loop-number-preserved c =
    let channel = channel_of c.args.channel.now in
    let xs = map group_view c.args.groups.now in
    let n = c.loop-number.number in
    let x = group_view c.group_at.result in
    c.in_ok-add_group.ensures
    ∙ (ap (λ ps. ps ++ meant channel (x ∷ [])) c.loop-number.invariant
    ∙ (sym (meant_both channel (take n xs) (x ∷ [])) ∙ ap (meant channel) (sym (take_last xs n x c.group_at.ensures))))

pub returns : goal.returns
returns c =
    let xs = map group_view c.args.groups.now in
    let e = length-map c.args.groups.now group_view in
    let behind : length xs ≤ c.loop-number.number = omega (arith, e) in
    c.loop-number.invariant ∙ ap (meant (channel_of c.args.channel.now)) (take_all xs c.loop-number.number behind)
