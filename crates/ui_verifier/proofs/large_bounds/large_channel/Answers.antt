use Rattle.std.proofs.Common.{◌∙◌, sym, ap, map, slice_get, length, ◌≤◌, ℕ, subst}
use Rattle.std.specs.List.{find}
use Rattle.law_typing.specs.Graph.Channels as entries
use Rattle.law_idle.specs.Idle.{busy_channels}
use Rattle.verify_graph.specs.ChannelView.{channel_of}
use Rattle.verify_graph.specs.Numbers.{IsOnce}
use Rattle.ui_verifier.specs.Large.{is_large}
use Rattle.ui_verifier.proofs.BuiltPlaces.{past}
use Rattle.ui_verifier.proofs.BusyBounds.{by_busy, large_at}
use Rattle.ui_verifier.proofs.LargeProofs.{first_here, first_later}
use Rattle.ui_verifier.proofs.large_bounds.large_channel.Goals as goal

pub loop-number-init : goal.loop-number-init
loop-number-init c d by_rank t by_depth capped known = by_busy d c.args.numbers.now by_rank t by_depth capped

pub returns-then-is_large : goal.returns-then-is_large
returns-then-is_large c d by_rank t by_depth capped known =
    let k = c.loop-number.number in
    let at = ap (λ cs. slice_get cs k) (sym known) ∙ c.channel.ensures in
    let once = subst IsOnce known c.count-number-end.ensures.countable.once in
    let large =
    sym (large_at d c.args.numbers.now by_rank t by_depth capped c.as_slice-bounds.result.now k (channel_of c.channel.result) c.as_slice-bounds.ensures.value once at)
    ∙ (sym c.is_large.ensures ∙ c.if-is_large.true) in
    sym (sym (c.loop-number.invariant d by_rank t by_depth capped known) ∙ first_here (is_large d t) entries.at (busy_channels d) k (channel_of c.channel.result) at large)

pub loop-number-preserved : goal.loop-number-preserved
loop-number-preserved c d by_rank t by_depth capped known =
    let k = c.loop-number.number in
    let once = subst IsOnce known c.count-number-end.ensures.countable.once in
    first_later (is_large d t) entries.at (busy_channels d) k (λ e at.
    sym (large_at d c.args.numbers.now by_rank t by_depth capped c.as_slice-bounds.result.now k e c.as_slice-bounds.ensures.value once at)
    ∙ (sym c.is_large.ensures ∙ c.if-is_large.false))
    ∙ c.loop-number.invariant d by_rank t by_depth capped known

pub returns : goal.returns
returns c d by_rank t by_depth capped known =
    let k = c.loop-number.number in
    let few : length (busy_channels d) ≤ k = subst (λ (n : ℕ). n ≤ k) (c.count-number-end.ensures.count ∙ ap (λ cs. length cs) known) c.loop-number-test.false in
    sym (ap (λ cs. find (is_large d t) (map entries.at cs)) (past (busy_channels d) k few)) ∙ c.loop-number.invariant d by_rank t by_depth capped known
