use Rattle.std.proofs.Common.{◌≡◌, ◌∙◌, sym, ap, ◌<◌, ◌+◌, ◌++◌, drop, length, map, arith}
use Rattle.bytecode.specs.View.{block_view, instruction_view}
use Rattle.ui_machine.specs.Definition.Programs.{Instruction}
use Rattle.law_typing.specs.Graph.{listed_if, source_named}
use Rattle.verify_operands.proofs.MappedLists.{from_end, from_entry}
use Rattle.ui_verifier.specs.NamedSources.{named_in, named_in_blocks}
use Rattle.ui_verifier.proofs.Sums.{flat_ends, flat_goes_on}
use Rattle.ui_verifier.proofs.sources.add_code.Goals as goal

pub loop-number-preserved : goal.loop-number-preserved
loop-number-preserved c =
    let d = c.args.lookups.now in
    let xs = c.args.code.now in
    let n = c.loop-number.number in
    let x = c.index-code-number.result in
    let within : n < length xs = omega (arith, c.loop-number-test.true) in
    flat_goes_on (λ (i : Instruction). listed_if (source_named d i)) c.loop-number.named.items c.add_source.new.named.items (instruction_view x) (drop n (map instruction_view xs)) (drop (n + 1) (map instruction_view xs))
    (c.args.named.now.items ++ named_in d (map instruction_view xs)) (c.in_ok-add_source.ensures) (from_entry instruction_view xs n x within c.index-code-number.is) c.loop-number.invariant

pub returns : goal.returns
returns c =
    let d = c.args.lookups.now in
    let xs = c.args.code.now in
    flat_ends (λ (i : Instruction). listed_if (source_named d i)) c.loop-number.named.items (drop c.loop-number.number (map instruction_view xs)) (c.args.named.now.items ++ named_in d (map instruction_view xs))
    (from_end instruction_view xs c.loop-number.number c.loop-number-test.false) c.loop-number.invariant
