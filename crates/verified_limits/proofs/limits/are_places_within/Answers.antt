use Rattle.std.proofs.Common.{◌≡◌, ◌∙◌, ◌<◌, ◌≤◌, ap, arith, length, sym}
use Rattle.ui_machine.specs.Definition.{Definition}
use Rattle.law_typing.specs.Graph.Channels.{channels_at}
use Rattle.verify_graph.specs.ChannelView.{channels_of}
use Rattle.verified_limits.proofs.Bounded.{places_end, places_fail, places_pass}
use Rattle.verified_limits.proofs.limits.are_places_within.Goals as goal

pub returns-then-not-is_place_within : goal.returns-then-not-is_place_within
returns-then-not-is_place_within c a =
    let d = c.args.verified.now in
    let n = c.loop-place.place in
    let count = ap (λ (x : Definition). length x.places) c.definition-2.ensures.same in
    let within : n < length d.places = omega (arith, c.loop-place-test.true, c.place_count-place-end.ensures.count, count) in
    let are = ap channels_of c.as_slice.ensures.value ∙ (c.in_ok-channels.ensures ∙ ap (λ (x : Definition). channels_at x n) (c.in_ok-lookups.ensures ∙ c.definition.ensures.same)) in
    sym (places_fail d a c.args.most n within (sym (c.is_place_within.ensures n a within are) ∙ c.if-not-is_place_within.true))

pub loop-place-preserved : goal.loop-place-preserved
loop-place-preserved c a =
    let d = c.args.verified.now in
    let n = c.loop-place.place in
    let count = ap (λ (x : Definition). length x.places) c.definition-2.ensures.same in
    let within : n < length d.places = omega (arith, c.loop-place-test.true, c.place_count-place-end.ensures.count, count) in
    let are = ap channels_of c.as_slice.ensures.value ∙ (c.in_ok-channels.ensures ∙ ap (λ (x : Definition). channels_at x n) (c.in_ok-lookups.ensures ∙ c.definition.ensures.same)) in
    places_pass d a c.args.most n within (sym (c.is_place_within.ensures n a within are) ∙ c.if-not-is_place_within.false) (c.loop-place.invariant a)

pub returns : goal.returns
returns c a =
    let d = c.args.verified.now in
    let n = c.loop-place.place in
    let count = ap (λ (x : Definition). length x.places) c.definition-2.ensures.same in
    let past : length d.places ≤ n = omega (arith, c.loop-place-test.false, c.place_count-place-end.ensures.count, count) in
    sym (places_end d a c.args.most n past (c.loop-place.invariant a))
