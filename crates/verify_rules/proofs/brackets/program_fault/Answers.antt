use Rattle.std.proofs.Common.{◌∙◌, refl, sym, ap, ◌+◌, ◌<◌, [], ◌∷◌, length, cond, drop, map, slice_get, arith}
use Rattle.bytecode.specs.View.{block_view}
use Rattle.law_typing.specs.Rules.Brackets.{balance_faults, is_balanced}
use Rattle.law_typing.specs.Rules.Faults.{unbalanced}
use Rattle.verify_operands.proofs.MappedLists.{from_entry}
use Rattle.verify_rules.proofs.FirstFaults.{stops, goes_on}
use Rattle.verify_rules.proofs.brackets.program_fault.Goals as goal

pub returns-then-not-balanced : goal.returns-then-not-balanced
returns-then-not-balanced c =
    let program = c.args.number in
    let blocks = c.args.program.now.blocks.items in
    let n = c.loop-block.block in
    let b = c.index.result.now in
    let within : n < length blocks = omega (arith, c.loop-block-test.true, c.len-block-end.ensures, c.args.program.now.blocks.ok.0) in
    sym (stops (λ m b. cond (is_balanced b.code) [] (unbalanced program m ∷ [])) (balance_faults program) (λ m x xs. refl)
    n (block_view b) (drop n (map block_view blocks)) (drop (n + 1) (map block_view blocks)) (unbalanced program n)
    (slice_get (balance_faults program 0 (map block_view blocks)) 0) c.loop-block.invariant (from_entry block_view blocks n b within c.index.ensures)
    (ap (λ t. slice_get (cond t [] (unbalanced program n ∷ [])) 0) (sym c.in_ok-balanced.ensures ∙ c.if-not-balanced.true)))

pub loop-block-preserved : goal.loop-block-preserved
loop-block-preserved c =
    let program = c.args.number in
    let blocks = c.args.program.now.blocks.items in
    let n = c.loop-block.block in
    let b = c.index.result.now in
    let within : n < length blocks = omega (arith, c.loop-block-test.true, c.len-block-end.ensures, c.args.program.now.blocks.ok.0) in
    goes_on (λ m b. cond (is_balanced b.code) [] (unbalanced program m ∷ [])) (balance_faults program) (λ m x xs. refl)
    n (block_view b) (drop n (map block_view blocks)) (drop (n + 1) (map block_view blocks))
    (slice_get (balance_faults program 0 (map block_view blocks)) 0) c.loop-block.invariant (from_entry block_view blocks n b within c.index.ensures)
    (ap (λ t. slice_get (cond t [] (unbalanced program n ∷ [])) 0) (sym c.in_ok-balanced.ensures ∙ c.if-not-balanced.false))
