use Rattle.std.proofs.Common.{◌∙◌, sym, ap, subst, ◌+◌, ◌<◌, ◌++◌, List, length, map, drop, arith}
use Rattle.bytecode.specs.declared.programs.RegisterKind.{RegisterKind}
use Rattle.bytecode.specs.View.{block_view, instruction_view, program_view}
use Rattle.law_typing.specs.Graph.{connection_of, listed_if}
use Rattle.verify_operands.proofs.MappedLists.{from_end, from_entry}
use Rattle.verify_operands.specs.Views.{kinds_of}
use Rattle.verify_channels.specs.Connected.{ConnectsMore}
use Rattle.verify_channels.specs.ConnectedCode.{code_connections}
use Rattle.verify_channels.proofs.ConnectedCodes.{all_so_far, one_so_far}
use Rattle.verify_channels.proofs.connections.Connects.add_block.Goals as goal

pub loop-at-preserved : goal.loop-at-preserved
loop-at-preserved c =
    let d = c.args.lookups.now in
    let p = program_view c.args.program.now in
    let code = c.args.block.now.code.items in
    let at = c.loop-at.at in
    let i = c.index-instruction.result.now in
    let ks = kinds_of c.loop-at.kinds.items in
    let rest = drop (at + 1) (map instruction_view code) in
    let within : at < length code = omega (arith, c.loop-at-test.true, c.len-at-end.ensures, c.args.block.now.code.ok.0) in
    let next = listed_if (connection_of d ks (instruction_view i)) in
    record {
      places = c.in_ok-add_instruction.ensures.places;
      few = omega (arith, c.in_ok-add_instruction.ensures.few, c.loop-at.invariant.few);
      so_far =
          one_so_far d c.args.self.now c.loop-at.self c.add_instruction.new.self (code_connections d p ks (drop at (map instruction_view code)))
          (code_connections d p (kinds_of c.go_after.new.kinds.items) rest) (code_connections d p (block_view c.args.block.now).entry (block_view c.args.block.now).code) next
          c.loop-at.invariant.so_far
          (subst (λ (xs : List RegisterKind). ConnectsMore d c.loop-at.self c.add_instruction.new.self (listed_if (connection_of d (kinds_of xs) (instruction_view i))))
          c.as_slice-in-loop-at.ensures.value c.in_ok-add_instruction.ensures.more)
          (ap (code_connections d p ks) (from_entry instruction_view code at i within c.index-instruction.ensures)
          ∙ ap (λ l. next ++ code_connections d p l rest) (sym c.in_ok-go_after.ensures));
    }

pub returns-clause-more : goal.returns-clause-more
returns-clause-more c =
    let d = c.args.lookups.now in
    let p = program_view c.args.program.now in
    let code = c.args.block.now.code.items in
    let at = c.loop-at.at in
    let ks = kinds_of c.loop-at.kinds.items in
    all_so_far d c.args.self.now c.loop-at.self (code_connections d p ks (drop at (map instruction_view code)))
    (code_connections d p (block_view c.args.block.now).entry (block_view c.args.block.now).code) c.loop-at.invariant.so_far
    (ap (code_connections d p ks) (from_end instruction_view code at (omega (arith, c.loop-at-test.false, c.len-at-end.ensures, c.args.block.now.code.ok.0))))
