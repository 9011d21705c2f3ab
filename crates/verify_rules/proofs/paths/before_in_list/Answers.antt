use Rattle.std.proofs.Common.{◌∙◌, sym, ap, arith}
use Rattle.law_typing.specs.Verdict.FaultText.{is_beside}
use Rattle.definitions.specs.EntryView.{entry_view}
use Rattle.verify_rules.proofs.Counts.{next_count, one_if}
use Rattle.verify_rules.proofs.paths.before_in_list.Goals as goal
use Rattle.verify_rules.proofs.paths.before_in_list.Goals.{then-is_beside, else-is_beside}

pub overflow_add-count : goal.overflow_add-count
overflow_add-count c =
    omega (arith, c.loop-number.invariant.few, c.loop-number-test.true, c.min-number-end.ensures, c.place_count.ensures.few)

pub loop-number-preserved : goal.loop-number-preserved
loop-number-preserved c =
    let d = c.args.definition.now in
    let n = c.loop-number.number in
    let p = entry_view c.args.entry.now in
    let q = entry_view c.in-Some.other in
    let e = next_count (is_beside p) d.places n q c.in-Some.ensures in
    elim c.if-is_beside.branch [
      | then-is_beside w ↦
          let one = ap one_if (sym c.is_beside.ensures ∙ w.if-is_beside.true) in
          record { few = omega (arith, w.count-is, c.loop-number.invariant.few); is = omega (arith, w.count-is, c.loop-number.invariant.is, e, one) }
      | else-is_beside w ↦
          let one = ap one_if (sym c.is_beside.ensures ∙ w.if-is_beside.false) in
          record { few = omega (arith, w.count-is, c.loop-number.invariant.few); is = omega (arith, w.count-is, c.loop-number.invariant.is, e, one) }
    ]
