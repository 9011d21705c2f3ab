use Rattle.std.proofs.Common.{◌&&◌, ◌||◌, ◌∙◌, IfOk, None, Some, ap, not, option_map, refl, subst, sym}
use Rattle.ui_machine.specs.Seq.{read}
use Rattle.ui_machine.specs.Definition.Programs as words
use Rattle.ui_machine.specs.Definition.Values as values
use Rattle.ui_machine.specs.Instructions.{in_front}
use Rattle.g_values.specs.Arithmetic.{calculated, compared}
use Rattle.g_values.specs.View.{kind_view}
use Rattle.bytecode.specs.declared.computations.Computation.{Computation}
use Rattle.bytecode.specs.declared.computations.Computed.{Computed}
use Rattle.bytecode.specs.Computing.{registers_of, instruction_of, operation_of, comparison_of}
use Rattle.frames.specs.Computing.{Computes, of_two, sameness_of, truth_in}
use Rattle.frames.proofs.MachineSteps.{reckons, compares, is_sameness, negates, is_conjunction, is_disjunction, moves}
use Rattle.frames.proofs.FromRegisters.{from_value, from_texts, from_conversion, said_of}
use Rattle.frames.proofs.computations.compute.Goals as goal

pub returns-in-Move-clause-computed : goal.returns-in-Move-clause-computed
returns-in-Move-clause-computed c =
    let types = c.args.tree.now in
    let registers = registers_of c.args.registers.now in
    subst (λ (i : Computation). IfOk c.moved.result (λ (x : Computed). Computes x types registers (instruction_of i))) (sym c.in-Move.is)
    (said_of c.moved.result (λ x is. from_value types registers (λ to. words.move to c.in-Move.from.0) (λ rs. read None rs c.in-Move.from.0) x _ is refl
    (λ d w rest f to. ap (in_front rest) (moves w f to c.in-Move.from.0))) c.moved.ensures)

pub returns-in-Arithmetic-clause-computed : goal.returns-in-Arithmetic-clause-computed
returns-in-Arithmetic-clause-computed c =
    let types = c.args.tree.now in
    let registers = registers_of c.args.registers.now in
    subst (λ (i : Computation). Computes c.known.result types registers (instruction_of i)) (sym c.in-Arithmetic.is)
    (from_value types registers (λ to. words.arithmetic (operation_of c.in-Arithmetic.operation) to c.in-Arithmetic.a.0 c.in-Arithmetic.b.0)
    (λ rs. of_two (calculated (operation_of c.in-Arithmetic.operation)) (read None rs c.in-Arithmetic.a.0) (read None rs c.in-Arithmetic.b.0)) c.known.result _ c.known.ensures c.reckoned.ensures
    (λ d w rest f to. ap (in_front rest) (reckons w f to (operation_of c.in-Arithmetic.operation) c.in-Arithmetic.a.0 c.in-Arithmetic.b.0)))

pub returns-in-Compare-clause-computed : goal.returns-in-Compare-clause-computed
returns-in-Compare-clause-computed c =
    let types = c.args.tree.now in
    let registers = registers_of c.args.registers.now in
    subst (λ (i : Computation). Computes c.known-in-Compare.result types registers (instruction_of i)) (sym c.in-Compare.is)
    (from_value types registers (λ to. words.compare (comparison_of c.in-Compare.comparison) to c.in-Compare.a.0 c.in-Compare.b.0)
    (λ rs. option_map (λ b. values.bool b) (of_two (compared (comparison_of c.in-Compare.comparison)) (read None rs c.in-Compare.a.0) (read None rs c.in-Compare.b.0))) c.known-in-Compare.result _ c.known-in-Compare.ensures (c.truth_value.ensures ∙ ap (option_map (λ b. values.bool b)) c.comparison_at.ensures)
    (λ d w rest f to. ap (in_front rest) (compares w f to (comparison_of c.in-Compare.comparison) c.in-Compare.a.0 c.in-Compare.b.0)))

pub returns-in-Same-clause-computed : goal.returns-in-Same-clause-computed
returns-in-Same-clause-computed c =
    let types = c.args.tree.now in
    let registers = registers_of c.args.registers.now in
    subst (λ (i : Computation). Computes c.known-in-Same.result types registers (instruction_of i)) (sym c.in-Same.is)
    (from_value types registers (λ to. words.same to c.in-Same.a.0 c.in-Same.b.0)
    (λ rs. option_map (λ b. values.bool b) (of_two sameness_of (read None rs c.in-Same.a.0) (read None rs c.in-Same.b.0))) c.known-in-Same.result _ c.known-in-Same.ensures (c.truth_value-in-Same.ensures ∙ ap (option_map (λ b. values.bool b)) c.sameness_at.ensures)
    (λ d w rest f to. ap (in_front rest) (is_sameness w f to c.in-Same.a.0 c.in-Same.b.0)))

pub returns-in-Not-clause-computed : goal.returns-in-Not-clause-computed
returns-in-Not-clause-computed c =
    let types = c.args.tree.now in
    let registers = registers_of c.args.registers.now in
    subst (λ (i : Computation). Computes c.known-in-Not.result types registers (instruction_of i)) (sym c.in-Not.is)
    (from_value types registers (λ to. words.negate to c.in-Not.a.0)
    (λ rs. option_map (λ b. values.bool b) (option_map not (truth_in rs c.in-Not.a.0))) c.known-in-Not.result _ c.known-in-Not.ensures (c.truth_value-in-Not.ensures ∙ ap (option_map (λ b. values.bool b)) c.negation_at.ensures)
    (λ d w rest f to. ap (in_front rest) (negates w f to c.in-Not.a.0)))

pub returns-in-And-clause-computed : goal.returns-in-And-clause-computed
returns-in-And-clause-computed c =
    let types = c.args.tree.now in
    let registers = registers_of c.args.registers.now in
    subst (λ (i : Computation). Computes c.known-in-And.result types registers (instruction_of i)) (sym c.in-And.is)
    (from_value types registers (λ to. words.both to c.in-And.a.0 c.in-And.b.0)
    (λ rs. option_map (λ b. values.bool b) (of_two (λ p q. Some (p && q)) (truth_in rs c.in-And.a.0) (truth_in rs c.in-And.b.0))) c.known-in-And.result _ c.known-in-And.ensures (c.truth_value-in-And.ensures ∙ ap (option_map (λ b. values.bool b)) c.conjunction_at.ensures)
    (λ d w rest f to. ap (in_front rest) (is_conjunction w f to c.in-And.a.0 c.in-And.b.0)))

pub returns-in-Or-clause-computed : goal.returns-in-Or-clause-computed
returns-in-Or-clause-computed c =
    let types = c.args.tree.now in
    let registers = registers_of c.args.registers.now in
    subst (λ (i : Computation). Computes c.known-in-Or.result types registers (instruction_of i)) (sym c.in-Or.is)
    (from_value types registers (λ to. words.either to c.in-Or.a.0 c.in-Or.b.0)
    (λ rs. option_map (λ b. values.bool b) (of_two (λ p q. Some (p || q)) (truth_in rs c.in-Or.a.0) (truth_in rs c.in-Or.b.0))) c.known-in-Or.result _ c.known-in-Or.ensures (c.truth_value-in-Or.ensures ∙ ap (option_map (λ b. values.bool b)) c.disjunction_at.ensures)
    (λ d w rest f to. ap (in_front rest) (is_disjunction w f to c.in-Or.a.0 c.in-Or.b.0)))

pub returns-in-Join-clause-computed : goal.returns-in-Join-clause-computed
returns-in-Join-clause-computed c =
    let types = c.args.tree.now in
    let registers = registers_of c.args.registers.now in
    let reads = rw c.in-Join.is at c.requires.reads in
    subst (λ (i : Computation). IfOk c.joined.result (λ (x : Computed). Computes x types registers (instruction_of i))) (sym c.in-Join.is)
    (said_of c.joined.result (λ x is. from_texts types registers c.in-Join.a.0 c.in-Join.b.0 x _ refl reads is) c.joined.ensures)

pub returns-in-Convert-clause-computed : goal.returns-in-Convert-clause-computed
returns-in-Convert-clause-computed c =
    let types = c.args.tree.now in
    let registers = registers_of c.args.registers.now in
    subst (λ (i : Computation). IfOk c.converted.result (λ (x : Computed). Computes x types registers (instruction_of i))) (sym c.in-Convert.is)
    (said_of c.converted.result (λ x is. from_conversion types registers c.in-Convert.a.0 (kind_view c.in-Convert.kind) x is) c.converted.ensures)
