use Rattle.std.proofs.Common.{◌∙◌, sym, ap, ◌+◌, ◌++◌, ◌<◌, ◌≤◌, [], length, drop, arith}
use Rattle.std.specs.List.{flat_map}
use Rattle.ui_machine.specs.Definition.{Definition}
use Rattle.law_typing.specs.Rules.RegisterKinds.{place_numbers}
use Rattle.law_typing.specs.Graph.Channels.{channels, channels_at}
use Rattle.verify_graph.specs.ChannelView.{channels_of}
use Rattle.verify_graph.proofs.ChannelLists.{added, adds, next_place, no_place}
use Rattle.verify_graph.proofs.report_channels.channels.Goals as goal

pub loop-place-preserved : goal.loop-place-preserved
loop-place-preserved c =
    let d = c.args.lookups.now in
    let place = c.loop-place.place in
    let so_far = channels_of c.loop-place.found.items in
    let count = ap (λ (e : Definition). length e.places) c.definition.ensures in
    let within : place < length d.places = omega (arith, c.loop-place-test.true, c.place_count-place-end.ensures.count, count) in
    record {
      channels =
          adds [] so_far (channels_of c.add_channels_at.new.channels.items) (channels_at d place) (flat_map (channels_at d) (drop (place + 1) (place_numbers d))) (channels d)
          c.in_ok-add_channels_at.ensures.added (ap (λ xs. so_far ++ xs) (sym (next_place (channels_at d) place (length d.places) within)) ∙ c.loop-place.invariant.channels);
      few = omega (arith, c.in_ok-add_channels_at.ensures.few, c.loop-place.invariant.few);
    }

pub returns-clause-channels : goal.returns-clause-channels
returns-clause-channels c =
    let d = c.args.lookups.now in
    let place = c.loop-place.place in
    let count = ap (λ (e : Definition). length e.places) c.definition.ensures in
    let behind : length d.places ≤ place = omega (arith, c.loop-place-test.false, c.place_count-place-end.ensures.count, count) in
    added [] (channels_of c.loop-place.found.items) (flat_map (channels_at d) (drop place (place_numbers d))) (channels d)
    (no_place (channels_at d) (λ p. p) place (length d.places) behind) c.loop-place.invariant.channels
