use Rattle.std.proofs.Common.{◌≡◌, ◌∙◌, sym, ap, ◌<◌, ◌≤◌, ◌+◌, max, drop, length, arith}
use Rattle.ui_machine.specs.Definition.{Definition}
use Rattle.law_typing.specs.Graph.{makings_from}
use Rattle.law_typing.specs.Graph.Tables.{greatest}
use Rattle.ui_verifier.specs.ByChannel.{making_depth_at}
use Rattle.ui_verifier.proofs.BuiltPlaces.{next_depth, no_depth}
use Rattle.ui_verifier.proofs.Sums.{most_ends, most_goes_on}
use Rattle.ui_verifier.proofs.builds.makings_depth.Goals as goal

pub loop-number-preserved : goal.loop-number-preserved
loop-number-preserved c =
    let d = c.args.lookups.now in
    let n = c.loop-number.number in
    let counted = ap (λ (x : Definition). length x.places) c.definition.ensures in
    let within : n < length d.places = omega (arith, counted, c.place_count-number-end.ensures.count, c.loop-number-test.true) in
    let e : c.max-most.result ≡ max c.loop-number.most c.in_ok-depth.depth = omega (arith, c.max-most.ensures) in
    record {
      few = omega (arith, e, c.loop-number.invariant.few, c.in_ok-depth.ensures.few);
      so_far = λ f gives.
          let rest = greatest (λ cs. 1 + greatest f cs) (makings_from d (n + 1) (drop (n + 1) d.places)) in
          ap (λ m. max m rest) (e ∙ ap (λ m. max c.loop-number.most m) (c.in_ok-depth.ensures.given f gives))
          ∙ (most_goes_on c.loop-number.most (making_depth_at d f n) rest
          ∙ (ap (λ m. max c.loop-number.most m) (sym (next_depth d f n within)) ∙ c.loop-number.invariant.so_far f gives));
    }

pub returns-clause-given : goal.returns-clause-given
returns-clause-given c = λ f gives.
    let d = c.args.lookups.now in
    let counted = ap (λ (x : Definition). length x.places) c.definition.ensures in
    let behind : length d.places ≤ c.loop-number.number = omega (arith, counted, c.place_count-number-end.ensures.count, c.loop-number-test.false) in
    most_ends c.loop-number.most
    ∙ (ap (λ m. max c.loop-number.most m) (sym (no_depth d f c.loop-number.number behind)) ∙ c.loop-number.invariant.so_far f gives)
