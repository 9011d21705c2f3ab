use Rattle.std.proofs.Common.{◌∙◌, sym, ap, ℕ, ◌++◌, ◌∷◌, [], arith}
use Rattle.verify_order.specs.Numbers.{of_node}
use Rattle.bytecode.specs.View.{program_view}
use Rattle.verify_sketches.specs.Numbered.{program}
use Rattle.verify_numbers.specs.Counts.{at}
use Rattle.verify_numbers.proofs.Lists.{listed_more}
use Rattle.verify_numbers.proofs.SketchLists.{below}
use Rattle.ui_verifier.proofs.bounds.program_values.Goals as goal

pub loop-number-preserved : goal.loop-number-preserved
loop-number-preserved c =
    let f = λ (p : ℕ). of_node c.args.values.now (at c.args.layout.now (program p)) in
    let n = c.loop-number.number in
    let there = below c.args.lookups.now.programs n (program_view c.in-Some._program.now) (sym c.in-Some.ensures) in
    record {
      within = omega (arith, there);
      so_far = c.in_ok-push.ensures.items
          ∙ (ap (λ x. c.loop-number.numbers.items ++ x ∷ []) c.program_value.ensures
          ∙ (ap (λ xs. xs ++ f n ∷ []) c.loop-number.invariant.so_far ∙ sym (listed_more f n)));
    }
