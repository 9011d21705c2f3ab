use Rattle.std.proofs.Common.{◌∙◌, sym, ap, ◌+◌, ◌<◌, length, drop, map, option_map, slice_get, arith}
use Rattle.bytecode.specs.View.{block_view, program_view}
use Rattle.law_typing.specs.Rules.Sites.{block_faults}
use Rattle.verify_instructions.specs.Faults.{broken_view}
use Rattle.verify_operands.specs.Views.{rule_view}
use Rattle.verify_instructions.proofs.CodeSteps.{block_stops, block_goes_on}
use Rattle.verify_operands.proofs.MappedLists.{from_entry}
use Rattle.verify_instructions.proofs.blocks.program_fault.Goals as goal

pub returns-in-Some : goal.returns-in-Some
returns-in-Some c =
    let d = c.args.lookups.now in
    let p = program_view c.args.program.now in
    let blocks = c.args.program.now.blocks.items in
    let n = c.loop-block.block in
    let b = c.index.result.now in
    let within : n < length blocks = omega (arith, c.loop-block-test.true, c.len-block-end.ensures, c.args.program.now.blocks.ok.0) in
    sym (block_stops d p c.args.number n (block_view b) (drop (n + 1) (map block_view blocks)) c.in-Some.broken.at (rule_view c.in-Some.broken.rule)
    (slice_get (block_faults d p c.args.number 0 (map block_view blocks)) 0)
    (c.loop-block.invariant
    ∙ ap (λ bs. slice_get (block_faults d p c.args.number n bs) 0) (from_entry block_view blocks n b within c.index.ensures))
    (sym c.in_ok-broken.ensures ∙ ap (option_map broken_view) c.in-Some.is))

pub loop-block-preserved : goal.loop-block-preserved
loop-block-preserved c =
    let d = c.args.lookups.now in
    let p = program_view c.args.program.now in
    let blocks = c.args.program.now.blocks.items in
    let n = c.loop-block.block in
    let b = c.index.result.now in
    let within : n < length blocks = omega (arith, c.loop-block-test.true, c.len-block-end.ensures, c.args.program.now.blocks.ok.0) in
    block_goes_on d p c.args.number n (block_view b) (drop (n + 1) (map block_view blocks))
    (slice_get (block_faults d p c.args.number 0 (map block_view blocks)) 0)
    (c.loop-block.invariant
    ∙ ap (λ bs. slice_get (block_faults d p c.args.number n bs) 0) (from_entry block_view blocks n b within c.index.ensures))
    (sym c.in_ok-broken.ensures ∙ ap (option_map broken_view) c.in_default.is)
