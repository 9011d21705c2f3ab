use Rattle.std.proofs.Common.{◌≡◌, ◌∙◌, ◌-◌, ◌<◌, Some, length, slice_get, ap, sym, arith}
use Rattle.std.proofs.lemmas.List.{length-map}
use Rattle.std.proofs.lemmas.Option.{slice_get-get_or}
use Rattle.signal_core.specs.SignalView.{signal_view}
use Rattle.signal_core.specs.Sources.{brought_by}
use Rattle.signal_core.proofs.Places.{slice_get-mapped}
use Rattle.signal_core.proofs.Walks.{count_next, got_next, until_end}
use Rattle.signal_core.proofs.table.SignalTable.signal_added.Goals as goal

pub returns-then-place-count-clause-found : goal.returns-then-place-count-clause-found
returns-then-place-count-clause-found c =
    let lt : c.loop-at.at < length (brought_by c.args.tree.now c.args.t) = omega (arith, c.loop-at-test.true, c.source_count-at-end.ensures) in
    let s = c.index-added-place.result in
    let at = slice_get-get_or c.added-added.result.now (c.args.place - c.loop-at.count) s c.if-place-count.true ∙ ap Some (sym c.index-added-place.is) in
    got_next c.args.tree.now c.args.self.now.signals c.args.t c.loop-at.at c.loop-at.count c.args.place (signal_view s) lt c.loop-at.invariant.0 c.loop-at.invariant.1
    (ap (λ l. slice_get l (c.args.place - c.loop-at.count)) (sym c.added-added.ensures)
    ∙ slice_get-mapped signal_view c.added-added.result.now (c.args.place - c.loop-at.count) s at)

pub loop-at-preserved : goal.loop-at-preserved
loop-at-preserved c =
    let lt : c.loop-at.at < length (brought_by c.args.tree.now c.args.t) = omega (arith, c.loop-at-test.true, c.source_count-at-end.ensures) in
    let long = sym (length-map c.added-added.result.now signal_view) ∙ ap length c.added-added.ensures in (
      count_next c.args.tree.now c.args.self.now.signals c.args.t c.loop-at.at c.loop-at.count (length c.added-added.result.now) lt c.loop-at.invariant.0 long,
      omega (arith, c.loop-at.invariant.1, c.if-place-count.false),
      c.mark.ensures,
    )

pub returns-clause-count : goal.returns-clause-count
returns-clause-count c =
    let end : c.loop-at.at ≡ length (brought_by c.args.tree.now c.args.t) = omega (arith, c.loop-at-test.false, c.loop-at.auto.at-end, c.source_count-at-end.ensures) in
    c.loop-at.invariant.0 ∙ ap length (until_end c.args.tree.now c.args.self.now.signals c.args.t c.loop-at.at end)
