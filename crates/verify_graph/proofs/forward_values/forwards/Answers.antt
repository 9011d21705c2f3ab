use Rattle.std.proofs.Common.{◌≡◌, ◌∙◌, sym, ap, ◌+◌, ◌++◌, [], drop, Some, slice_get}
use Rattle.ui_machine.specs.Definition.{Definition}
use Rattle.law_typing.specs.Graph.{forwards_from}
use Rattle.verify_graph.specs.ChannelView.{channels_of}
use Rattle.definitions.specs.EntryView.{entry_view}
use Rattle.verify_graph.specs.Makings.{forwards_at}
use Rattle.verify_graph.proofs.ChannelLists.{adds}
use Rattle.verify_graph.proofs.ForwardLists.{next_forwards}
use Rattle.verify_graph.proofs.forward_values.forwards.Goals as goal

pub loop-number-preserved : goal.loop-number-preserved
loop-number-preserved c =
    let d = c.args.lookups.now in
    let n = c.loop-number.number in
    let p = entry_view c.in-Some.entry in
    let so_far = channels_of c.loop-number.channels.items in
    let got : Some p ≡ slice_get d.places n = c.in-Some.ensures ∙ ap (λ (e : Definition). slice_get e.places n) c.definition-definition.ensures in
    adds [] so_far (channels_of c.add_forwards_at.new.channels.items) (forwards_at d n p) (forwards_from d (n + 1) (drop (n + 1) d.places)) (forwards_from d 0 d.places)
    c.in_ok-add_forwards_at.ensures (ap (λ xs. so_far ++ xs) (sym (next_forwards d n d.places p got)) ∙ c.loop-number.invariant)
