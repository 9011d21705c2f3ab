use Rattle.std.proofs.Common.{◌∙◌, sym, ap, ◌≤◌, ◌++◌, ◌∷◌, [], length, map, take, arith}
use Rattle.std.proofs.lemmas.List.{length-map}
use Rattle.verify_graph.specs.ChannelView.{channel_of}
use Rattle.verify_graph.proofs.Prefixes.{take_all, take_last}
use Rattle.verify_channels.specs.Attached.{handler_view}
use Rattle.verify_channels.specs.Meanings.{meant}
use Rattle.verify_channels.proofs.MeantLists.{meant_both}
use Rattle.verify_channels.proofs.attached_handlers.programs_for.Goals as goal

pub loop-number-preserved : goal.loop-number-preserved
loop-number-preserved c =
    let channel = channel_of c.args.channel.now in
    let xs = map handler_view c.args.handlers.now in
    let n = c.loop-number.number in
    let x = handler_view c.handler_at.result in
    c.in_ok-add_program.ensures
    ∙ (ap (λ ps. ps ++ meant channel (x ∷ [])) c.loop-number.invariant
    ∙ (sym (meant_both channel (take n xs) (x ∷ [])) ∙ ap (meant channel) (sym (take_last xs n x c.handler_at.ensures))))

pub returns : goal.returns
returns c =
    let xs = map handler_view c.args.handlers.now in
    let e = length-map c.args.handlers.now handler_view in
    let behind : length xs ≤ c.loop-number.number = omega (arith, e) in
    c.loop-number.invariant ∙ ap (meant (channel_of c.args.channel.now)) (take_all xs c.loop-number.number behind)
