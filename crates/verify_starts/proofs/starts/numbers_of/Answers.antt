use Rattle.std.proofs.Common.{◌∙◌, sym, ap, ◌≤◌, ◌++◌, ◌∷◌, [], length, take, arith}
use Rattle.std.proofs.lemmas.List.Elements.{filter_map-append}
use Rattle.std.proofs.lemmas.List.{length-map}
use Rattle.verify_graph.specs.ChannelView.{channel_of, channels_of}
use Rattle.verify_graph.specs.Numbers.{number_of, numbers_of}
use Rattle.verify_graph.proofs.Prefixes.{take_all, take_last}
use Rattle.verify_starts.proofs.starts.numbers_of.Goals as goal

pub loop-number-preserved : goal.loop-number-preserved
loop-number-preserved c =
    let all = c.args.numbers.now in
    let cs = channels_of c.args.channels.now in
    let n = c.loop-number.number in
    let x = channel_of c.channel_at.result in
    c.in_ok-add_number.ensures
    ∙ (ap (λ xs. xs ++ numbers_of all (x ∷ [])) c.loop-number.invariant
    ∙ (sym (filter_map-append (number_of all) (take n cs) (x ∷ [])) ∙ ap (numbers_of all) (sym (take_last cs n x c.channel_at.ensures))))

pub returns : goal.returns
returns c =
    let cs = channels_of c.args.channels.now in
    let e = length-map c.args.channels.now channel_of in
    let behind : length cs ≤ c.loop-number.number = omega (arith, e) in
    c.loop-number.invariant ∙ ap (numbers_of c.args.numbers.now) (take_all cs c.loop-number.number behind)
