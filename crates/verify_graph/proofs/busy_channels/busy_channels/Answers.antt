use Rattle.std.proofs.Common.{◌∙◌, sym, ap, ◌+◌, ◌++◌, ◌<◌, ◌≤◌, [], length, drop, arith}
use Rattle.std.specs.List.{filter, flat_map}
use Rattle.ui_machine.specs.Definition.{Definition}
use Rattle.law_typing.specs.Rules.RegisterKinds.{place_numbers}
use Rattle.law_typing.specs.Graph.Channels.{channels_at}
use Rattle.law_idle.specs.Idle.{busy_channels, is_busy}
use Rattle.verify_graph.specs.ChannelView.{channels_of}
use Rattle.verify_graph.proofs.BusyLists.{busy_flat}
use Rattle.verify_graph.proofs.ChannelLists.{added, adds, next_place, no_place}
use Rattle.verify_graph.proofs.busy_channels.busy_channels.Goals as goal

pub loop-place-init : goal.loop-place-init
loop-place-init c = record {
  channels =
      ap (λ xs. channels_of xs ++ flat_map (λ p. filter (is_busy c.args.lookups.now) (channels_at c.args.lookups.now p)) (place_numbers c.args.lookups.now)) c.new-found.ensures.items
      ∙ sym (busy_flat c.args.lookups.now (place_numbers c.args.lookups.now));
  few = omega arith;
}

pub loop-place-preserved : goal.loop-place-preserved
loop-place-preserved c =
    let d = c.args.lookups.now in
    let place = c.loop-place.place in
    let so_far = channels_of c.loop-place.found.items in
    let count = ap (λ (e : Definition). length e.places) c.definition.ensures in
    let within : place < length d.places = omega (arith, c.loop-place-test.true, c.place_count-place-end.ensures.count, count) in
    record {
      channels =
          adds [] so_far (channels_of c.add_busy_at.new.channels.items) (filter (is_busy d) (channels_at d place))
          (flat_map (λ p. filter (is_busy d) (channels_at d p)) (drop (place + 1) (place_numbers d))) (busy_channels d)
          c.in_ok-add_busy_at.ensures.added (ap (λ xs. so_far ++ xs) (sym (next_place (λ p. filter (is_busy d) (channels_at d p)) place (length d.places) within)) ∙ c.loop-place.invariant.channels);
      few = omega (arith, c.in_ok-add_busy_at.ensures.few, c.loop-place.invariant.few);
    }

pub returns-clause-channels : goal.returns-clause-channels
returns-clause-channels c =
    let d = c.args.lookups.now in
    let place = c.loop-place.place in
    let count = ap (λ (e : Definition). length e.places) c.definition.ensures in
    let behind : length d.places ≤ place = omega (arith, c.loop-place-test.false, c.place_count-place-end.ensures.count, count) in
    added [] (channels_of c.loop-place.found.items) (flat_map (λ p. filter (is_busy d) (channels_at d p)) (drop place (place_numbers d))) (busy_channels d)
    (no_place (λ p. filter (is_busy d) (channels_at d p)) (λ p. p) place (length d.places) behind) c.loop-place.invariant.channels
