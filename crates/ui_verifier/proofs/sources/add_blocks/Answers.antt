use Rattle.std.proofs.Common.{◌≡◌, ◌∙◌, sym, ap, ◌<◌, ◌+◌, ◌++◌, drop, length, map, arith}
use Rattle.bytecode.specs.View.{block_view, instruction_view}
use Rattle.ui_machine.specs.Definition.Programs.{Block}
use Rattle.verify_operands.proofs.MappedLists.{from_end, from_entry}
use Rattle.ui_verifier.specs.NamedSources.{named_in, named_in_blocks}
use Rattle.ui_verifier.proofs.Sums.{flat_ends, flat_goes_on}
use Rattle.ui_verifier.proofs.sources.add_blocks.Goals as goal

pub loop-number-preserved : goal.loop-number-preserved
loop-number-preserved c =
    let d = c.args.lookups.now in
    let xs = c.args.blocks.now in
    let n = c.loop-number.number in
    let x = c.index-blocks-number.result in
    let within : n < length xs = omega (arith, c.loop-number-test.true) in
    flat_goes_on (λ (b : Block). named_in d b.code) c.loop-number.named.items c.add_code.new.named.items (block_view x) (drop n (map block_view xs)) (drop (n + 1) (map block_view xs))
    (c.args.named.now.items ++ named_in_blocks d (map block_view xs)) (c.in_ok-add_code.ensures ∙ ap (λ is. c.loop-number.named.items ++ named_in d (map instruction_view is)) c.as_slice.ensures.value) (from_entry block_view xs n x within c.index-blocks-number.is) c.loop-number.invariant

pub returns : goal.returns
returns c =
    let d = c.args.lookups.now in
    let xs = c.args.blocks.now in
    flat_ends (λ (b : Block). named_in d b.code) c.loop-number.named.items (drop c.loop-number.number (map block_view xs)) (c.args.named.now.items ++ named_in_blocks d (map block_view xs))
    (from_end block_view xs c.loop-number.number c.loop-number-test.false) c.loop-number.invariant
