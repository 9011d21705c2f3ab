use Rattle.std.proofs.Common.{◌∙◌, ◌<◌, length, sym, ap, arith}
use Rattle.ui_machine.specs.Output.Text.{no_type}
use Rattle.ui_machine.specs.Seq.{read}
use Rattle.law_typing.specs.Verdict.FaultText.{is_class}
use Rattle.verify_rules.proofs.Counts.{got_read, next_count, one_if}
use Rattle.verify_rules.proofs.paths.classes_before.Goals as goal
use Rattle.verify_rules.proofs.paths.classes_before.Goals.{then-is_class, else-is_class}

pub overflow_add-count : goal.overflow_add-count
overflow_add-count c = omega (arith, c.loop-number.invariant.few, c.loop-number-test.true, c.min-number-end.ensures)

pub loop-number-preserved : goal.loop-number-preserved
loop-number-preserved c =
    let types = c.args.types.now in
    let n = c.loop-number.number in
    let within : n < length types = omega (arith, c.loop-number-test.true, c.min-number-end.ensures, c.len.ensures) in
    let t = read no_type types n in
    let e = next_count is_class types n t (got_read no_type types n within) in
    let same = ap (λ m. is_class (read no_type types m)) c.new.ensures in
    elim c.if-is_class.branch [
      | then-is_class w ↦
          let one = ap one_if (sym same ∙ (sym c.is_class.ensures ∙ w.if-is_class.true)) in
          record { few = omega (arith, w.count-is, c.loop-number.invariant.few); is = omega (arith, w.count-is, c.loop-number.invariant.is, e, one) }
      | else-is_class w ↦
          let one = ap one_if (sym same ∙ (sym c.is_class.ensures ∙ w.if-is_class.false)) in
          record { few = omega (arith, w.count-is, c.loop-number.invariant.few); is = omega (arith, w.count-is, c.loop-number.invariant.is, e, one) }
    ]
